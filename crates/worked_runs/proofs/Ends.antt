-- When an operation of a list of calls has ended: nothing is collected by its slip up to there, and then a value is.
use Rattle.std.proofs.Common.{◌≡◌, ℕ, ◌+◌, ◌<◌, Bool, true, List, length, Some, None, Option, refl, sym, ap₂, ◌∙◌, is_none, arith}
use Rattle.std.proofs.lemmas.Bool.{false≢true}
use Rattle.std.proofs.lemmas.Option.{none-some}
use Rattle.kinds.specs.Kinds.{RecordKind}
use Rattle.model.specs.Halls.{World}
use Rattle.model.specs.Answers.{slip}
use Rattle.model.specs.Calls.{Call}
use Rattle.model.specs.Runs.{Run}
use Rattle.model.specs.Order.{collects, Operation, Ended, Finished}
use Rattle.model.specs.Order.Operation.{a_read, a_write}
use Rattle.worked_runs.specs.Lists.{world_at, AnySeal}
use Rattle.worked_runs.proofs.Lists.{run_of}
use Rattle.worked_runs.proofs.Tests.{all_from, each}

pub is_nothing : {V : Type 0} (x : Option V) → is_none x ≡ true → x ≡ None
is_nothing None e = refl
is_nothing (Some v) e = absurd (false≢true e)

-- an operation has the slip that its begin was answered with
its_slip : {V : Type 0} {kind : RecordKind V} {start : World} (run : Run kind start) (o c k d l : ℕ)
    → run.answer o ≡ slip d l → Operation run o c k → (c ≡ d) × (k ≡ l)
its_slip run o c k d l begun (a_read within call answer) =
    let same : slip d l ≡ slip c k = sym begun ∙ answer in
    (cc, cc)
its_slip run o c k d l begun (a_write within v call answer) =
    let same : slip d l ≡ slip c k = sym begun ∙ answer in
    (cc, cc)

module _ {V : Type 0} (kind : RecordKind V) (calls : List (Call V)) (start : World) (any : AnySeal start) (c k : ℕ) where
  -- after the call at this position nothing is collected by the slip
  abbrev pub is_open : ℕ → Bool
  is_open p = is_none (collects kind (world_at kind calls start (p + 1)) c k)

  pub nothing : (end p : ℕ) → all_from is_open 0 end ≡ true → p < end → collects kind (world_at kind calls start (p + 1)) c k ≡ None
  nothing end p opened lt = is_nothing _ (each is_open 0 end p opened (omega arith) (omega arith))

  pub ended : (o p : ℕ) (v : V) → Operation (run_of kind calls start any) o c k → p < length calls
      → all_from is_open 0 p ≡ true → collects kind (world_at kind calls start (p + 1)) c k ≡ Some v → Ended (run_of kind calls start any) o p v
  ended o p v operation within opened answered = record {
    client = c;
    place = k;
    operation = operation;
    within = within;
    answers = answered;
    first = λ q lt. nothing p q opened lt;
  }

  -- where nothing is collected by its slip up to the last call, the operation never ends
  pub never : (o : ℕ) → (run_of kind calls start any).answer o ≡ slip c k → all_from is_open 0 (length calls) ≡ true
      → Finished (run_of kind calls start any) o → ⊥
  never o begun opened f =
      let e = f.ended in
      let same : (e.client ≡ c) × (e.place ≡ k) = its_slip (run_of kind calls start any) o e.client e.place c k begun e.operation in
      let none : collects kind (world_at kind calls start (f.position + 1)) c k ≡ None = nothing (length calls) f.position opened e.within in
      none-some f.value (sym none
      ∙ (sym (ap₂ (collects kind (world_at kind calls start (f.position + 1))) same.0 same.1) ∙ e.answers))
