-- Issue keeps every rule: one more configuration in the roll, its text sealed, CONFIG in the post.
-- The set has been found right, and roll and post have room.
use Rattle.std.proofs.Common.{◌≡◌, ℕ, ◌+◌, ◌*◌, ◌^◌, ◌<◌, ◌≤◌, Bool, true, false, ◌⊎◌, List, [], ◌∷◌, ◌++◌, length, get_or, sym, refl, ap, ◌∙◌, subst, inl, inr, le_of_eq, arith, length-append, eqb-true, leb-true}
use Rattle.std.proofs.lemmas.Bool.{not-false, and_parts}
use mathlib.Core.List.Memᴰ
use mathlib.Core.List.{Memᴰ}
use lib.Bits.{bit_and}
use lib.Count.{ones}
use Rattle.wire.specs.declared.pair.Configuration.{Configuration}
use Rattle.wire.specs.declared.pair.Seal.{Seal}
use Rattle.wire.specs.declared.text.Text.{Text}
use Rattle.wire.specs.Texts.{configuration_text}
use Rattle.rules.specs.Posts.{config_entry}
use Rattle.source.specs.declared.state.Source.{Source}
use Rattle.histories.specs.Places.{done, next}
use Rattle.histories.specs.Histories.{Good}
use Rattle.histories.proofs.Extension.{good_extends}
use Rattle.histories.proofs.Posting.{justified_unruled}
use Rattle.model.specs.Tables.{is_full, added}
use Rattle.model.specs.Halls.{LeftOpen, World, no_configuration, seat_of, with_post, with_seals, with_source}
use Rattle.model.specs.Issuing.{is_right_set, has_too_many_marked}
use Rattle.model.proofs.Frames.{history_added, later_views, card_stays, quiet_below, seat_stays, later_text}
use Rattle.model.proofs.Invariants.{views, history, issued_as, Sized, RollRule, KnownText, of_configuration, Holds, Later}
use Rattle.model.proofs.Opening.{right_below}
use Rattle.model.proofs.Posts.{post_added, log_stays, answers_posted, no_answer, log_later}
use Rattle.model.proofs.Tables.{before_end, at_end, places_added, each_with}

-- the world after the source has issued a configuration
abbrev pub issue_world : World → Source → Configuration → (ℕ → ℕ) → LeftOpen → (Text → Seal → Bool) → World
issue_world w source c seals left_open genuine = record {
  hall = with_seals (with_source (with_post w.hall (added w.hall.post (config_entry 0 c))) source (added w.hall.roll c)) seals;
  genuine = genuine;
  left_open = left_open;
}

module _ (kind : ℕ) (sealed : List Text) (w : World) (holds : Holds kind sealed w) (source : Source) (c : Configuration) (seals : ℕ → ℕ)
    (left_open : LeftOpen) (genuine : Text → Seal → Bool)
    (epoch : c.epoch ≡ w.hall.source.newest + 1) (newest : source.newest ≡ w.hall.source.newest + 1)
    (right : is_right_set w.hall.rules c.set.0 ≡ true)
    (few : has_too_many_marked w.hall.rules w.hall.marked c.set.0 ≡ false)
    (roll_room : is_full w.hall.roll ≡ false) (post_room : is_full w.hall.post ≡ false)
    (monotone : (t : Text) (s : Seal) → w.genuine t s ≡ true → genuine t s ≡ true)
    (kept : (p : ℕ) → 1 ≤ p → seals p ≡ w.hall.seals p) where
  later_issued : Later w (issue_world w source c seals left_open genuine)
  unfolding post_added
  later_issued = record {
    rolls = record { rules = refl; marked = refl; issued = simp length-append (omega arith); roll = λ e lt. before_end w.hall.roll.list c no_configuration e lt };
    posts = post_added w.hall (config_entry 0 c);
    logs = log_stays w.hall;
    genuine = monotone;
  }

  -- what holds of each configuration so far, and of the new one
  each_issued : (P : ℕ → Configuration → Type 0) → ((e : ℕ) → e < length w.hall.roll.list → P e (issued_as w.hall e)) → P (length w.hall.roll.list) c
      → (e : ℕ) → e < length (w.hall.roll.list ++ (c ∷ [])) → P e (get_or (w.hall.roll.list ++ (c ∷ [])) e no_configuration)
  each_issued P = each_with P w.hall.roll.list c no_configuration

  roll_issued : RollRule w.hall.rules w.hall.marked (w.hall.roll.list ++ (c ∷ [])) source.newest
  roll_issued = record {
    sound = record {
      sized = each_issued (λ e z. ones z.set.0 ≡ 3 * w.hall.rules.faults + 1) holds.roll.sound.sized (eqb-true _ _ (and_parts _ _ right).0);
      few = each_issued (λ e z. ones (bit_and z.set.0 w.hall.marked) ≤ w.hall.rules.faults) holds.roll.sound.few (leb-true _ _ (not-false _ few));
    };
    some = simp length-append (omega arith);
    first = ap (λ z. z.set.0) (before_end w.hall.roll.list c no_configuration 0 holds.roll.some) ∙ holds.roll.first;
    epochs = each_issued (λ e z. z.epoch ≡ e) holds.roll.epochs (epoch ∙ holds.roll.source);
    source = simp length-append (omega (arith, newest, holds.roll.source));
    inside = each_issued (λ e z. z.set.0 < 2 ^ w.hall.rules.replicas) holds.roll.inside (right_below w.hall.rules c.set.0 right);
  }

  sized_issued : Sized (issue_world w source c seals left_open genuine).hall
  sized_issued = let s = holds.sized in record {
    tables = rw (places_added w.hall.post (config_entry 0 c) post_room, places_added w.hall.roll c roll_room) s.tables;
    limits = s.limits;
    post_limit = rw (places_added w.hall.post (config_entry 0 c) post_room) s.post_limit;
    log_limit = s.log_limit;
  }

  -- the text that was sealed is that of the new configuration
  pub issue_keeps : (t : Text) → t ≡ configuration_text c → Holds kind (t ∷ sealed) (issue_world w source c seals left_open genuine)
  unfolding later_issued history
  issue_keeps t text = record {
    sized = sized_issued;
    roll = roll_issued;
    good = subst (λ h. Good (views (issue_world w source c seals left_open genuine).hall) h) (sym (history_added w.hall (config_entry 0 c)))
        (next (justified_unruled (omega arith)) (good_extends (later_views later_issued) holds.good));
    answers = answers_posted kind w (issue_world w source c seals left_open genuine) (config_entry 0 c) later_issued refl (no_answer kind _ _ (λ e. omega arith) (λ e. omega arith)) holds.answers;
    cards = λ q lt. card_stays kind q later_issued refl (next (quiet_below (omega arith)) done) (holds.cards q lt);
    seats = λ p low high. seat_stays kind p (seat_of w.hall p) later_issued refl (next (record { not_read = λ e k. omega arith; not_write = λ e k. omega arith }) done) holds.log
        (le_of_eq (sym (kept p low))) (holds.seats p low high);
    log = log_later w (issue_world w source c seals left_open genuine) later_issued refl refl holds.log;
    texts = λ u m. known u (Memᴰ.cases_cons m);
  }
    where
      new_text : t ≡ configuration_text (issued_as (issue_world w source c seals left_open genuine).hall (length w.hall.roll.list))
      new_text = text ∙ ap configuration_text (sym (at_end w.hall.roll.list c no_configuration))

      known : (u : Text) → (u ≡ t) ⊎ (Memᴰ u sealed) → KnownText kind (issue_world w source c seals left_open genuine).hall u
      known u (inl e) = of_configuration (length w.hall.roll.list) (simp length-append (omega arith)) (e ∙ new_text)
      known u (inr m) = later_text kind later_issued u (holds.texts u m)
