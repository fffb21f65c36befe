-- A history is the list of the posted entries, newest first. A place in it is an entry with what lies below it: all that was posted before.
use Rattle.std.specs.Prelude.{List, [], ◌∷◌}
use Rattle.wire.specs.declared.entry.Entry.{Entry}

-- P holds at some place of the history
pub data Somewhere (P : Entry → List Entry → Type 0) : List Entry → Type 0 where
  here : {x : Entry} {h : List Entry} → P x h → Somewhere P (x ∷ h)
  there : {x : Entry} {h : List Entry} → Somewhere P h → Somewhere P (x ∷ h)

-- P holds at each place of the history
pub data Everywhere (P : Entry → List Entry → Type 0) : List Entry → Type 0 where
  done : Everywhere P []
  next : {x : Entry} {h : List Entry} → P x h → Everywhere P h → Everywhere P (x ∷ h)

-- an entry of this shape was posted
abbrev pub Posted : (Entry → Type 0) → List Entry → Type 0
Posted P h = Somewhere (λ x below. P x) h
