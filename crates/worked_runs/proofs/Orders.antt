-- Where one call alone writes: what a list of operations holds is the opening value, or that write stands in the list.
use Rattle.std.proofs.Common.{◌≡◌, ℕ, Bool, true, ◌||◌, ◌⊎◌, eqb, List, [], ◌∷◌, length, None, is_none, refl, sym, ap, ◌∙◌, ⊎_elim, inl, inr, arith}
use Rattle.std.proofs.lemmas.Bool.{cases_eq, cases_lt, ne_eqb, or_from, both_ways, cases_Bool}
use Rattle.std.proofs.lemmas.List.{get_or_past}
use mathlib.Core.List.Memᴰ.{head as here}
use mathlib.Core.List.Memᴰ.{tail as there}
use Rattle.orders.specs.Order.{◌∈◌}
use Rattle.kinds.specs.Kinds.{RecordKind}
use Rattle.model.specs.Halls.{World}
use Rattle.model.specs.Calls.{Call, redeem}
use Rattle.model.specs.Order.{value_written, newer, held_after}
use Rattle.worked_runs.specs.Lists.{call_at, AnySeal}
use Rattle.worked_runs.proofs.Lists.{run_of}
use Rattle.worked_runs.proofs.Tests.{all_from, each}
use Rattle.worked_runs.proofs.Ends.{is_nothing}

module _ {V : Type 0} (kind : RecordKind V) (calls : List (Call V)) (start : World) (any : AnySeal start) (w : ℕ) where
  -- the call at this position writes nothing, or it is the one at w
  abbrev pub writes_alone : ℕ → Bool
  writes_alone p = is_none (value_written (call_at calls p)) || eqb p w

  module _ (tried : all_from writes_alone 0 (length calls) ≡ true) where
    no_other : (p : ℕ) → (p ≡ w → ⊥) → value_written (call_at calls p) ≡ None
    no_other p other =
        ⊎_elim
        (λ within. ⊎_elim
        (λ yes. is_nothing _ yes)
        (λ no. absurd (both_ways (writes_alone p) (or_from _ _ no (ne_eqb p w other))
        (each writes_alone 0 (length calls) p tried (omega arith) (omega arith))))
        (cases_Bool (is_none (value_written (call_at calls p)))))
        (λ past. ap value_written (get_or_past calls p (redeem 0) past))
        (cases_lt p (length calls))

    pub written_or_not : (v : V) (l : List ℕ) → (w ∈ l) ⊎ (held_after (run_of kind calls start any) v l ≡ v)
    written_or_not v [] = inr refl
    written_or_not v (o ∷ rest) =
        ⊎_elim
        (λ same. inl (here (sym same)))
        (λ other.
        let none : value_written (call_at calls o) ≡ None = no_other o other in
        ⊎_elim
        (λ there_is. inl (there there_is))
        (λ stays. inr (ap (λ x. held_after (run_of kind calls start any) (newer (run_of kind calls start any) x v) rest) none ∙ stays))
        (written_or_not v rest))
        (cases_eq o w)
