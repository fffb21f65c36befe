-- Fields that are taken one by one until none is left are just so many. Assumes nothing.
use Rattle.std.proofs.Common.{◌≡◌, ℕ, Bool, true, false, cond, eqb, List, [], ◌∷◌, ◌++◌, length, Some, None, Option, refl, sym, ap, ◌∙◌, arith, length-append, append-nil}
use Rattle.std.proofs.lemmas.Bool.{cond-true, cond-false, eq-eqb, ne_eqb}
use Rattle.std.specs.Bool.{then_some}
use Rattle.std.specs.Option.{option_map}
use Rattle.fields.specs.Left.{nothing}
use Rattle.script.specs.Lines.{exactly}

counted : (front left : List (List ℕ)) → exactly (length front) (front ++ left) ≡ cond (nothing left) (Some front) None
counted front [] = cond-true (eqb (length (front ++ [])) (length front)) _ _ (eq-eqb _ _ (omega (arith, length-append front []))) ∙ ap Some (append-nil front)
counted front (l ∷ ls) = cond-false (eqb (length (front ++ (l ∷ ls))) (length front)) _ _ (ne_eqb _ _ (λ e. omega (arith, e, length-append front (l ∷ ls))))

pub all_taken : {A : Type 0} (spelt : A → List (List ℕ)) (x : A) (letter : List ℕ) (front left fs : List (List ℕ)) (d : Bool) (r : Option A) → spelt x ≡ letter ∷ front → fs ≡ front ++ left → d ≡ nothing left → r ≡ then_some d x → option_map spelt r ≡ option_map (λ rest. letter ∷ rest) (exactly (length front) fs)
all_taken {A} spelt x letter front left fs d r s f n t =
    let last : option_map spelt (then_some (nothing left) x) ≡ option_map (λ rest. letter ∷ rest) (cond (nothing left) (Some front) None) =
    elim (nothing left) as (λ b. option_map spelt (then_some b x) ≡ option_map (λ rest. letter ∷ rest) (cond b (Some front) None)) [ true ↦ ap Some s | false ↦ refl ] in
    ap (option_map spelt) (t ∙ ap (λ b. then_some b x) n) ∙ last ∙ ap (option_map (λ rest. letter ∷ rest)) (sym (counted front left) ∙ ap (exactly (length front)) (sym f))

-- a field in front of those that were taken after it
pub before : {x : List ℕ} {fs rest more : List (List ℕ)} → fs ≡ x ∷ rest → rest ≡ more → fs ≡ x ∷ more
before {x} first later = first ∙ ap (λ l. x ∷ l) later
