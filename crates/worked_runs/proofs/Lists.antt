-- Every list of calls is a run, and no seal is forged in it.
use Rattle.std.proofs.Common.{◌≡◌, ℕ, zero, suc, ◌+◌, ◌<◌, false, List, [], ◌∷◌, length, refl, sym, ap, ◌∙◌, subst, arith}
use Rattle.wire.specs.declared.pair.Seal.{Seal}
use Rattle.wire.specs.declared.text.Text.{Text}
use Rattle.sealers.specs.Sealing.{none_beside}
use Rattle.kinds.specs.Kinds.{RecordKind}
use Rattle.model.specs.Halls.{World}
use Rattle.model.specs.Calls.{Call, Step}
use Rattle.model.specs.Runs.{Run, OnlyGiven}
use Rattle.model.proofs.Unforged.{none_forged}
use Rattle.worked_runs.specs.Lists.{given_to, made, after, world_at, call_at, AnySeal, EveryListRuns}

module _ {V : Type 0} (kind : RecordKind V) where
  step : (call : Call V) (w : World) → AnySeal w → Step kind w call (made kind call w).answer (after kind call w)
  step call w any = record {
    given = given_to kind call w;
    sealed = (made kind call w).sealed;
    outcome = refl;
    seals = record { allowed = λ t is. any t _; genuine = refl };
  }

  next : (calls : List (Call V)) (w : World) (i : ℕ) → i < length calls
      → world_at kind calls w (suc i) ≡ after kind (call_at calls i) (world_at kind calls w i)
  next [] w i lt = absurd (omega arith)
  next (call ∷ rest) w zero lt = refl
  next (call ∷ rest) w (suc i) lt = next rest (after kind call w) i (omega arith)

  -- what is left open stays as it was at the start
  open_stays : (calls : List (Call V)) (w : World) (i : ℕ) → (world_at kind calls w i).left_open ≡ w.left_open
  open_stays calls w zero = refl
  open_stays [] w (suc i) = refl
  open_stays (call ∷ rest) w (suc i) = open_stays rest (after kind call w) i

  pub steps : (calls : List (Call V)) (w : World) → AnySeal w → (i : ℕ) → i < length calls
      → Step kind (world_at kind calls w i) (call_at calls i) (made kind (call_at calls i) (world_at kind calls w i)).answer (world_at kind calls w (i + 1))
  steps calls w any i lt =
      let call = call_at calls i in
      let before = world_at kind calls w i in
      let one_more : suc i ≡ i + 1 = omega arith in
      let same : after kind call before ≡ world_at kind calls w (i + 1) =
      sym (next calls w i lt) ∙ ap (world_at kind calls w) one_more in
      subst (λ x. Step kind before call (made kind call before).answer x) same
      (step call before (λ t s. ap (λ o. o.allowed t s) (open_stays calls w i) ∙ any t s))

  -- the run of a list
  abbrev pub run_of : (calls : List (Call V)) (start : World) → AnySeal start → Run kind start
  run_of calls start any = record {
    calls = length calls;
    world = world_at kind calls start;
    call = call_at calls;
    answer = λ i. (made kind (call_at calls i) (world_at kind calls start i)).answer;
    opens = refl;
    steps = steps calls start any;
  }

  pub only_given : (calls : List (Call V)) (start : World)
      → ((t : Text) (s : Seal) → start.genuine t s ≡ false) → (any : AnySeal start)
      → start.left_open.beside ≡ none_beside → OnlyGiven (run_of calls start any)
  only_given calls start none any only = record {
    none = none;
    beside = λ i lt text t s. ap (λ o. o.beside text t s) (open_stays calls start i) ∙ ap (λ f. f text t s) only;
  }

  abbrev pub every_list : EveryListRuns kind
  every_list start none any only calls = record {
    run = run_of calls start any;
    many = refl;
    call = λ i. refl;
    only_given = only_given calls start none any only;
    unforged = none_forged (run_of calls start any) (only_given calls start none any only);
  }
