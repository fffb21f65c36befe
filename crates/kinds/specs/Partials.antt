-- What `only_if` gives at each answer of its test. Assumes nothing.
use Rattle.std.specs.Prelude.{◌≡◌, Bool, true, false, Some, None, refl}
use Rattle.std.proofs.Common.{ap}
use Rattle.std.proofs.Math.Bool.{Bool-set}
use Rattle.std.proofs.lemmas.Bool.{true≢false, false≢true}
use Rattle.std.proofs.lemmas.Option.{none-some}
use Rattle.kinds.specs.Partial.{only_if}

pub only_if_true : {X : Type 0} (test : Bool) (make : test ≡ true → X) (e : test ≡ true) → only_if test make ≡ Some (make e)
only_if_true true make e = ap (λ p. Some (make p)) (Bool-set true true refl e)
only_if_true false make e = absurd (false≢true e)

pub only_if_false : {X : Type 0} (test : Bool) (make : test ≡ true → X) → test ≡ false → only_if test make ≡ None
only_if_false true make e = absurd (true≢false e)
only_if_false false make e = refl

pub only_if_some : {X : Type 0} (test : Bool) (make : test ≡ true → X) (x : X) → only_if test make ≡ Some x → (e : test ≡ true) × (make e ≡ x)
only_if_some true make x e = (refl, cc)
only_if_some false make x e = absurd (none-some x e)
