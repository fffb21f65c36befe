-- Meddle: any entry is posted in the name of a marked replica.
use Rattle.std.specs.Prelude.{ℕ, Bool, false, not, [], ◌∷◌, is_none, Some, Option, refl}
use Rattle.refusals.specs.declared.Layer.TheVariants.{Hall as InHall}
use Rattle.wire.specs.declared.entry.Entry.{Entry}
use Rattle.wire.specs.declared.party.Party.{Party}
use Rattle.wire.specs.declared.party.Party.TheVariants.{Replica as AReplica}
use Rattle.wire.specs.Sets.{member}
use Rattle.halls.specs.declared.fault.HallFault.TheVariants.{NoSuch, Full, NotMarked}
use Rattle.halls.specs.Faults.{check}
use Rattle.model.specs.Tables.{is_full, added}
use Rattle.model.specs.Halls.{Hall, World, party_in, with_post}
use Rattle.model.specs.Answers.{Outcome, done, answers, after_tests}

-- the entry in this party's name
abbrev pub sent_by : ℕ → Entry → Entry
sent_by party e = record e { sender = party }

-- only a replica can be marked
abbrev pub is_marked : Hall → Option Party → Bool
is_marked h (Some (AReplica replica)) = member h.marked replica.number
is_marked h other = false

abbrev pub meddle_called : {V : Type 0} → World → ℕ → Entry → Outcome V
meddle_called w party e =
    after_tests w.hall
    (check (is_none (party_in w.hall.rules party)) 5 InHall party (NoSuch party) refl
    ∷ check (not (is_marked w.hall (party_in w.hall.rules party))) 20 InHall party (NotMarked party) refl
    ∷ check (is_full w.hall.post) 6 InHall party (Full party) refl
    ∷ [])
    (answers done (with_post w.hall (added w.hall.post (sent_by party e))))
