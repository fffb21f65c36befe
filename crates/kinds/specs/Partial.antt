-- A value that can be made only where a test holds.
use Rattle.std.specs.Prelude.{◌≡◌, Bool, true, false, Some, None, Option, refl}

abbrev pub only_if : {X : Type 0} (test : Bool) → (test ≡ true → X) → Option X
only_if true make = Some (make refl)
only_if false make = None
