-- Issue: the source seals and posts the next configuration.
use Rattle.std.specs.Prelude.{ℕ, ◌+◌, ◌*◌, ◌/◌, ◌^◌, Bool, not, ◌&&◌, ◌||◌, [], ◌∷◌, Ok, Err, Option, Result, ◌==◌, bit_and, count_ones, nat_le, refl}
use Rattle.refusals.specs.declared.Layer.TheVariants.{Hall as InHall}
use Rattle.wire.specs.declared.pair.Configuration.{Configuration}
use Rattle.wire.specs.declared.pair.Seal.{Seal}
use Rattle.wire.specs.declared.set.ReplicaSet.{ReplicaSet}
use Rattle.wire.specs.declared.text.Text.{Text}
use Rattle.rules.specs.declared.rules.Rules.{Rules}
use Rattle.rules.specs.Posts.{config_entry}
use Rattle.source.specs.declared.fault.SourceFault.{SourceFault}
use Rattle.source.specs.declared.state.Source.{Source}
use Rattle.source.specs.Issued.{Issued, issued}
use Rattle.halls.specs.declared.fault.HallFault.TheVariants.{WrongSet, TooManyMarked, Full, Source as OfSource}
use Rattle.halls.specs.Faults.{check}
use Rattle.model.specs.Tables.{is_full, added}
use Rattle.model.specs.Halls.{Hall, World, with_post, with_seals, with_source}
use Rattle.model.specs.Answers.{Outcome, done, refuses, after_tests}

-- exactly 3f+1 of the hall's replicas
abbrev pub is_right_set : Rules → ℕ → Bool
is_right_set rules set = (count_ones set) == 3 * rules.faults + 1 && (set / 2 ^ rules.replicas) == 0

-- more than f of the set are marked
abbrev pub has_too_many_marked : Rules → ℕ → ℕ → Bool
has_too_many_marked rules marked set = not (nat_le (count_ones (bit_and set marked)) rules.faults)

-- the configuration joins the roll, and CONFIG is posted in the source's name
abbrev pub issuing : {V : Type 0} → Result Configuration SourceFault → Source → (ℕ → ℕ) → Option Text → Hall → Outcome V
issuing (Ok c) source seals sealed h = record {
  answer = done;
  hall = with_seals (with_source (with_post h (added h.post (config_entry 0 c))) source (added h.roll c)) seals;
  sealed = sealed;
}
issuing (Err fault) source seals sealed h = refuses h (OfSource fault)

abbrev pub issue_done : {V : Type 0} → Issued → Hall → Outcome V
issue_done i h = issuing i.answer i.source i.seals i.sealed h

abbrev pub issue_called : {V : Type 0} → World → Seal → ReplicaSet → Outcome V
issue_called w given set =
    after_tests w.hall
    (check (not (is_right_set w.hall.rules set.0)) 2 InHall 0 WrongSet refl
    ∷ check (has_too_many_marked w.hall.rules w.hall.marked set.0) 3 InHall 0 (TooManyMarked 0) refl
    ∷ check (is_full w.hall.roll || is_full w.hall.post) 6 InHall 0 (Full 0) refl
    ∷ [])
    (issue_done (issued w.hall.source set w.hall.seals given) w.hall)
