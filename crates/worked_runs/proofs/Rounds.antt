-- When a round of a list of calls is open: what its client posted last, and its operation under way.
use Rattle.std.proofs.Common.{◌≡◌, ℕ, suc, ◌+◌, ◌-◌, ◌<◌, ◌≤◌, Bool, true, false, not, eqb, List, length, Some, refl, sym, ap, ◌∙◌, ⊎_elim, arith}
use Rattle.std.proofs.Math.Nat.{eq-or-lt_of_le}
use Rattle.std.proofs.lemmas.Bool.{eq-eqb, not-true, true≢false}
use Rattle.std.proofs.lemmas.Option.{none-some}
use Rattle.kinds.specs.Kinds.{RecordKind}
use Rattle.model.specs.Halls.{World}
use Rattle.model.specs.Calls.{Call, issue, begin_read, begin_write, deliver, call_off, collect, lodge, redeem, meddle}
use Rattle.model.specs.Delivering.{entry_of}
use Rattle.model.specs.Order.{Operation, value_written}
use Rattle.model.specs.Order.Operation.{a_read, a_write}
use Rattle.model.specs.Response.{Asks, LastAsked, UnderWay}
use Rattle.worked_runs.specs.Lists.{world_at, call_at, AnySeal}
use Rattle.worked_runs.proofs.Ends.{is_open, nothing}
use Rattle.worked_runs.proofs.Lists.{run_of}
use Rattle.worked_runs.proofs.Tests.{all_from, each}

-- the call begins an operation of client c, or calls one off
abbrev pub begins_or_ends : {V : Type 0} → ℕ → Call V → Bool
begins_or_ends c (issue set) = false
begins_or_ends c (begin_read d) = eqb d c
begins_or_ends c (begin_write d v) = eqb d c
begins_or_ends c (deliver number party) = false
begins_or_ends c (call_off d k) = eqb d c
begins_or_ends c (collect d k) = false
begins_or_ends c (lodge d k) = false
begins_or_ends c (redeem d) = false
begins_or_ends c (meddle party e) = false

module _ {V : Type 0} (kind : RecordKind V) (calls : List (Call V)) (start : World) (any : AnySeal start) where
  -- the entry is none of client c's
  abbrev pub is_other : (c i n : ℕ) → Bool
  is_other c i n = not (eqb (entry_of (world_at kind calls start i).hall n).sender c)

  pub last_asked : (i number c r asked more : ℕ) → length (world_at kind calls start i).hall.post.list ≡ suc number + more
      → (entry_of (world_at kind calls start i).hall number).sender ≡ c
      → (entry_of (world_at kind calls start i).hall number).kind ≡ asked
      → Asks asked
      → (entry_of (world_at kind calls start i).hall number).round ≡ r
      → all_from (is_other c i) (suc number) more ≡ true
      → LastAsked (run_of kind calls start any) i c r asked
  last_asked i number c r asked more many sender kind_asked asks round others = record {
    number = number;
    posted = omega (arith, many);
    sender = sender;
    kind_asked = kind_asked;
    asks = asks;
    round = round;
    last = λ n above within same asking.
        let other = not-true _ (each (is_other c i) (suc number) more n others above (omega (arith, many))) in
        true≢false (sym (eq-eqb _ c same) ∙ other);
  }

  -- the call at this position begins nothing of client c's, and calls nothing off
  abbrev pub goes_on : (c p : ℕ) → Bool
  goes_on c p = not (begins_or_ends c (call_at calls p))

  neither : (c p : ℕ) (call : Call V) → goes_on c p ≡ true → call_at calls p ≡ call → begins_or_ends c call ≡ true → ⊥
  neither c p call going at does = true≢false (sym (ap (begins_or_ends c) at ∙ does) ∙ not-true _ going)

  begins_not : (c k o : ℕ) → goes_on c o ≡ true → Operation (run_of kind calls start any) o c k → ⊥
  begins_not c k o going (a_read within call answer) = neither c o (begin_read c) going call (eq-eqb c c refl)
  begins_not c k o going (a_write within v call answer) = neither c o (begin_write c v) going call (eq-eqb c c refl)

  -- the first call begins a write, and up to position i it has not ended
  pub under_way : (i c k end : ℕ) (v : V) → 0 < i → i ≤ end → Operation (run_of kind calls start any) 0 c k
      → all_from (is_open kind calls start any c k) 0 end ≡ true
      → all_from (goes_on c) 1 (i - 1) ≡ true
      → value_written (call_at calls 0) ≡ Some v
      → UnderWay (run_of kind calls start any) i c
  under_way i c k end v later before operation opened going writes = record {
    position = 0;
    place = k;
    began = later;
    operation = operation;
    last = λ o l after_begin within other. begins_not c l o (each (goes_on c) 1 _ o going after_begin (omega arith)) other;
    not_ended = λ p within. nothing kind calls start any c k end p opened (omega arith);
    not_called_off = λ p within call answer.
        ⊎_elim
        (λ first. none-some v (sym (ap value_written (ap (call_at calls) first ∙ call)) ∙ writes))
        (λ above. neither c p (call_off c k) (each (goes_on c) 1 _ p going above (omega arith)) call (eq-eqb c c refl))
        (eq-or-lt_of_le (omega arith));
  }
