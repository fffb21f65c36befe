-- The calls of a script's lines, each of them a step, make up a run. Assumes nothing.
use Rattle.std.proofs.Common.{◌≡◌, ℕ, zero, suc, ◌+◌, ◌<◌, false, List, [], ◌∷◌, ◌++◌, length, slice_index_or, Option, refl, sym, ap, ◌∙◌, subst, arith}
use Rattle.kinds.specs.declared.bin_weight.BinWeight.{BinWeight}
use Rattle.refusals.specs.declared.Refusal.{Refusal}
use Rattle.wire.specs.declared.pair.Seal.{Seal}
use Rattle.wire.specs.declared.text.Text.{Text}
use Rattle.model.specs.Halls.{World}
use Rattle.model.specs.Answers.{Answer, done}
use Rattle.model.specs.Calls.{Call, redeem, Step}
use Rattle.runner.specs.declared.fault.ScriptFault.{ScriptFault}
use Rattle.model.specs.Kinds.{bin_weights}
use Rattle.runner.specs.Asks.{Asks}
use Rattle.runner.specs.Plays.{BookStep, Does, stops, goes_on, Plays, ended, line, calls_in, calls_of}
use Rattle.runner.specs.Outputs.{RunOf}

-- steps from one world to another
data Chain (last : World) : World → Type 0 where
  none : Chain last last
  more : {w next : World} {call : Call BinWeight} {answer : Answer BinWeight} → BookStep w call answer next → Chain last next → Chain last w

abbrev of_asks : {last before after : World} {asked : Asks} {fault : Option ScriptFault} → Does before asked fault after → Chain last after → Chain last before
of_asks stops rest = rest
of_asks (goes_on step does) rest = more step (of_asks does rest)

abbrev of_lines : {number : ℕ} {before last : World} {lines : List (List ℕ)} {refusals : List Refusal} → Plays number before lines refusals last → Chain last before
of_lines ended = none
of_lines (line does plays) = of_asks does (of_lines plays)

abbrev many : {last w : World} → Chain last w → ℕ
many none = 0
many (more step rest) = suc (many rest)

abbrev world_at : {last w : World} → Chain last w → ℕ → World
world_at {last} none i = last
world_at {w = w} (more step rest) zero = w
world_at (more step rest) (suc i) = world_at rest i

abbrev call_at : {last w : World} → Chain last w → ℕ → Call BinWeight
call_at none i = redeem 0
call_at (more {call = call} step rest) zero = call
call_at (more step rest) (suc i) = call_at rest i

abbrev answer_at : {last w : World} → Chain last w → ℕ → Answer BinWeight
answer_at none i = done
answer_at (more {answer = answer} step rest) zero = answer
answer_at (more step rest) (suc i) = answer_at rest i

first : {last w : World} (chain : Chain last w) → world_at chain 0 ≡ w
first none = refl
first (more step rest) = refl

at_end : {last w : World} (chain : Chain last w) → world_at chain (many chain) ≡ last
at_end none = refl
at_end (more step rest) = at_end rest

step_at : {last w : World} (chain : Chain last w) (i : ℕ) → i < many chain → BookStep (world_at chain i) (call_at chain i) (answer_at chain i) (world_at chain (suc i))
step_at none i lt = absurd (omega arith)
step_at (more {w = w} {call = call} {answer = answer} step rest) zero lt = subst (λ x. BookStep w call answer x) (sym (first rest)) step
step_at (more step rest) (suc i) lt = step_at rest i (omega arith)

abbrev calls : {last w : World} → Chain last w → List (Call BinWeight)
calls none = []
calls (more {call = call} step rest) = call ∷ calls rest

as_many : {last w : World} (chain : Chain last w) → many chain ≡ length (calls chain)
as_many none = refl
as_many (more step rest) = omega (arith, as_many rest)

same_call : {last w : World} (chain : Chain last w) (i : ℕ) → call_at chain i ≡ slice_index_or (calls chain) i (redeem 0)
same_call none i = refl
same_call (more step rest) zero = refl
same_call (more step rest) (suc i) = same_call rest i

asked_calls : {last before after : World} {asked : Asks} {fault : Option ScriptFault} (does : Does before asked fault after) (rest : Chain last after) → calls (of_asks does rest) ≡ calls_in does ++ calls rest
unfolding calls_in
asked_calls stops rest = refl
asked_calls (goes_on {call = call} step does) rest = ap (λ cs. call ∷ cs) (asked_calls does rest)

all_calls : {number : ℕ} {before last : World} {lines : List (List ℕ)} {refusals : List Refusal} (plays : Plays number before lines refusals last) → calls (of_lines plays) ≡ calls_of plays
unfolding calls_of
all_calls ended = refl
all_calls (line does plays) = asked_calls does (of_lines plays) ∙ ap (λ cs. calls_in does ++ cs) (all_calls plays)

run_of : {start last : World} → ((t : Text) (s : Seal) → start.genuine t s ≡ false) → (chain : Chain last start) → RunOf start last (calls chain)
run_of none_yet chain = record {
  run = record {
    calls = many chain;
    world = world_at chain;
    call = call_at chain;
    answer = answer_at chain;
    opens = first chain;
    steps = λ i lt. let next : suc i ≡ i + 1 = omega arith in
        subst (λ m. Step bin_weights (world_at chain i) (call_at chain i) (answer_at chain i) (world_at chain m)) next (step_at chain i lt).step;
  };
  many = as_many chain;
  each = same_call chain;
  ends = at_end chain;
  only = record { none = none_yet; beside = λ i lt text t s. ap (λ f. f text t s) (step_at chain i lt).only };
}

pub run_to : {number : ℕ} {start last : World} {lines : List (List ℕ)} {refusals : List Refusal} → ((t : Text) (s : Seal) → start.genuine t s ≡ false)
    → (plays : Plays number start lines refusals last) → RunOf start last (calls_of plays)
run_to {start = start} {last = last} none_yet plays = subst (λ cs. RunOf start last cs) (all_calls plays) (run_of none_yet (of_lines plays))
