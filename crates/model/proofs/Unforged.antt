-- A run in which no seals become genuine but those that are given: none is forged in it. Assumes nothing.
use Rattle.std.proofs.Common.{◌≡◌, ℕ, zero, suc, ◌+◌, ◌≤◌, ◌<◌, true, Some, None, Option, refl, sym, ap, ◌∙◌, subst, ⊎_elim, arith}
use Rattle.std.proofs.lemmas.Bool.{true≢false}
use Rattle.wire.specs.declared.pair.Seal.{Seal}
use Rattle.wire.specs.declared.text.Text.{Text}
use Rattle.sealers.specs.Sealing.{genuine_then}
use Rattle.sealers.proofs.Sealing.{origin}
use Rattle.kinds.specs.Kinds.{RecordKind}
use Rattle.model.specs.Halls.{World, desk_of}
use Rattle.model.specs.Runs.{Run, SealedBefore, OnlyGiven, Unforged}

module _ {V : Type 0} {kind : RecordKind V} {start : World} (run : Run kind start) (only : OnlyGiven run) where
  module _ (i : ℕ) (lt : i < run.calls) (t : Text) (s : Seal) where
    earlier : SealedBefore run i t → SealedBefore run (suc i) t
    earlier before = record { position = before.position; earlier = omega (arith, before.earlier); within = before.within; text = before.text }

    -- what is genuine after a call was so before it, or the call has sealed it
    sealed_then : (text : Option Text) → (run.steps i lt).sealed ≡ text → genuine_then (desk_of (run.world i)) text (run.steps i lt).given t s ≡ true
        → ((run.world i).genuine t s ≡ true → SealedBefore run i t) → SealedBefore run (suc i) t
    sealed_then None is e before = earlier (before e)
    sealed_then (Some u) is e before = ⊎_elim
        (λ old. earlier (before old))
        (λ new. record { position = i; earlier = omega arith; within = lt; text = is ∙ ap Some (sym new.0) })
        (origin (desk_of (run.world i)) u (run.steps i lt).given (only.beside i lt u) t s e)

  -- what is genuine at a position was sealed before
  sealed_before : (i : ℕ) → i ≤ run.calls → (t : Text) (s : Seal) → (run.world i).genuine t s ≡ true → SealedBefore run i t
  sealed_before zero le t s e = absurd (true≢false (sym e ∙ (ap (λ w. w.genuine t s) run.opens ∙ only.none t s)))
  sealed_before (suc i) le t s e =
      let lt : i < run.calls = omega arith in
      let one_more : suc i ≡ i + 1 = omega arith in
      sealed_then i lt t s (run.steps i lt).sealed refl
      (ap (λ g. g t s) (sym (run.steps i lt).seals.genuine) ∙ subst (λ k. (run.world k).genuine t s ≡ true) one_more e)
      (sealed_before i (omega arith) t s)

  pub none_forged : Unforged run
  none_forged i le n posted t carried honest checks = sealed_before i le t _ checks
