-- The tests of a call in the order in which they are made, each with the refusal that it stands for.
use Rattle.std.specs.Prelude.{◌≡◌, ℕ, Bool, List, [], ◌∷◌, if◌then◌else◌}
use Rattle.refusals.specs.declared.Layer.{Layer}
use Rattle.refusals.specs.declared.Refusal.{Refusal}

-- a test, and the fault that is answered where it finds something
pub record Check (F : Type 0) : Type 0 where
  pub finds : Bool
  pub fault : F

-- it is written with number, layer and place of its refusal, and they have to be those that the fault stands for
abbrev pub check_by : {F : Type 0} (refusal : F → Refusal) → Bool → (number : ℕ) (layer : Layer) (place : ℕ) (fault : F)
    → refusal fault ≡ record { number = number; layer = layer; place = place } → Check F
check_by refusal finds number layer place fault is = record { finds = finds; fault = fault }

-- the first test that finds something refuses the call; where none does, the call goes on
abbrev pub checked : {F A : Type 0} → List (Check F) → (F → A) → A → A
checked [] refuses goes_on = goes_on
checked (c ∷ rest) refuses goes_on = if c.finds then refuses c.fault else checked rest refuses goes_on
