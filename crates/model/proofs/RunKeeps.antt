-- Every world that a run reaches meets every rule, if no seal is forged.
-- The texts sealed so far are counted along the run.
use Rattle.std.proofs.Common.{◌≡◌, ℕ, zero, suc, ◌+◌, ◌<◌, ◌≤◌, List, [], Some, None, Option, sym, refl, ap, ◌∙◌, subst, add-one, arith}
use mathlib.Core.List.{Memᴰ}
use native.Mathlib.Bridge.{le_prop}
use native.Mathlib.Decide.{ℕ_discrete, dec_lt}
use Rattle.wire.specs.declared.text.Text.{Text}
use Rattle.kinds.specs.Kinds.{RecordKind}
use Rattle.model.specs.Halls.{World}
use Rattle.model.specs.Runs.{Lawful, Opened, Run, Unforged}
use Rattle.model.proofs.ClientKeeps.{sealed_with}
use Rattle.model.proofs.Invariants.{Holds, UnforgedNow}
use Rattle.model.proofs.Opening.{opened_holds}
use Rattle.model.proofs.StepKeeps.{step_keeps}

-- a sealed text is among those sealed, and stays
sealed_there : (o : Option Text) (sealed : List Text) (t : Text) → o ≡ Some t → Memᴰ t (sealed_with o sealed)
sealed_there o sealed t e = subst (λ z. Memᴰ t (sealed_with z sealed)) (sym e) (Memᴰ.head refl)

sealed_stays : (o : Option Text) (sealed : List Text) (t : Text) → Memᴰ t sealed → Memᴰ t (sealed_with o sealed)
sealed_stays None sealed t m = m
sealed_stays (Some u) sealed t m = Memᴰ.tail m

module _ {V : Type 0} (kind : RecordKind V) (v : V) (start : World) (lawful : Lawful kind) (opened : Opened kind v start.hall) (run : Run kind start) (unforged : Unforged run) where
  -- the text that the call at position i has sealed, if there is that call
  sealed_by : (i : ℕ) → Dec (i < run.calls) → Option Text
  sealed_by i (yes lt) = (run.steps i lt).sealed
  sealed_by i (no late) = None

  sealed_same : (i : ℕ) (lt : i < run.calls) (there : Dec (i < run.calls)) → sealed_by i there ≡ (run.steps i lt).sealed
  unfolding sealed_by
  sealed_same i lt (yes here) = ap (λ z. (run.steps i z).sealed) (le_prop here lt)
  sealed_same i lt (no late) = absurd (late lt)

  -- the texts that the calls before position i have sealed
  pub sealed_at : ℕ → List Text
  sealed_at zero = []
  sealed_at (suc i) = sealed_with (sealed_by i (dec_lt i run.calls)) (sealed_at i)

  pub sealed_early : (i j : ℕ) (t : Text) → j < i → (within : j < run.calls) → (run.steps j within).sealed ≡ Some t → Memᴰ t (sealed_at i)
  unfolding sealed_at
  sealed_early zero j t lt within e = absurd (omega arith)
  sealed_early (suc i) j t lt within e = by_place (λ below. sealed_early i j t below within e) (ℕ_discrete j i)
    where
      by_place : (j < i → Memᴰ t (sealed_at i)) → Dec (j ≡ i) → Memᴰ t (sealed_with (sealed_by i (dec_lt i run.calls)) (sealed_at i))
      by_place earlier (yes same) =
          subst (λ m. Memᴰ t (sealed_with (sealed_by m (dec_lt m run.calls)) (sealed_at i))) same
          (sealed_there (sealed_by j (dec_lt j run.calls)) (sealed_at i) t (sealed_same j within (dec_lt j run.calls) ∙ e))
      by_place earlier (no other) = sealed_stays (sealed_by i (dec_lt i run.calls)) (sealed_at i) t (earlier (omega arith))

  pub unforged_at : (i : ℕ) → i ≤ run.calls → UnforgedNow kind.number (sealed_at i) (run.world i)
  unforged_at i le = record { known = λ n lt t text honest genuine. let s = unforged i le n lt t text honest genuine in sealed_early i s.position t s.earlier s.within s.text }

  pub holds_at : (i : ℕ) → i ≤ run.calls → Holds kind.number (sealed_at i) (run.world i)
  unfolding sealed_at
  holds_at zero le = subst (λ w. Holds kind.number [] w) (sym run.opens) (opened_holds kind v start opened)
  holds_at (suc i) le =
      let before : i ≤ run.calls = omega arith in
      let within : i < run.calls = omega arith in
      subst (λ m. Holds kind.number (sealed_with (sealed_by i (dec_lt i run.calls)) (sealed_at i)) (run.world m)) (add-one i)
      (subst (λ t. Holds kind.number (sealed_with t (sealed_at i)) (run.world (i + 1))) (sym (sealed_same i within (dec_lt i run.calls)))
      (step_keeps kind (sealed_at i) (run.world i) (run.world (i + 1)) (run.answer i) lawful.numbered (holds_at i before) (unforged_at i before) (run.call i) (run.steps i within)))
