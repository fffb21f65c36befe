-- What the calls of a hall answer, the hall that they leave, and what they have sealed.
use Rattle.std.specs.Prelude.{ℕ, Bool, not, List, ◌∷◌, None, Option, nat_lt, refl}
use Rattle.refusals.specs.Checks.{Check, checked}
use Rattle.refusals.specs.declared.Layer.TheVariants.{Hall as InHall}
use Rattle.wire.specs.declared.pair.Pair.{Pair}
use Rattle.wire.specs.declared.text.Text.{Text}
use Rattle.halls.specs.declared.fault.HallFault.{HallFault}
use Rattle.halls.specs.declared.fault.HallFault.TheVariants.{WrongTables}
use Rattle.halls.specs.Faults.{check}
use Rattle.model.specs.Halls.{Hall, has_its_tables}

-- an answer: done, the slip of an operation (its client and its place in the log), a pair with its value, or a refusal
pub data Answer (V : Type 0) : Type 0 where
  done : Answer V
  slip : ℕ → ℕ → Answer V
  pair : Pair → V → Answer V
  refused : HallFault → Answer V

pub record Outcome (V : Type 0) : Type 0 where
  pub answer : Answer V
  pub hall : Hall
  -- the text that the call has sealed, if it has
  pub sealed : Option Text

-- refused, and the hall as it was
abbrev pub refuses : {V : Type 0} → Hall → HallFault → Outcome V
refuses h fault = record { answer = refused fault; hall = h; sealed = None }

-- nothing was sealed
abbrev pub answers : {V : Type 0} → Answer V → Hall → Outcome V
answers answer h = record { answer = answer; hall = h; sealed = None }

-- every call looks first whether the tables have the lengths of the opening; then its own tests follow, one by one
abbrev pub after_tests : {V : Type 0} → Hall → List (Check HallFault) → Outcome V → Outcome V
after_tests h tests outcome =
    checked (check (not (has_its_tables h)) 4 InHall 0 WrongTables refl ∷ tests) (refuses h) outcome

-- there is a next moment
abbrev pub has_moment : Hall → Bool
has_moment h = nat_lt h.moment 4294967295
