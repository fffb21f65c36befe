-- What the calls of a line do, from what each call answers and leaves. Assumes nothing.
use Rattle.std.proofs.Common.{◌≡◌, ℕ, true, false, Some, None, Ok, Err, Option, Result, IsErrAnd, sym, ap, ◌∙◌, subst}
use Rattle.std.specs.Option.{option_map, ok_or}
use Rattle.std.specs.Result.{result_err, is_ok}
use Rattle.std.proofs.lemmas.Bool.{cond-true, cond-false, true≢false}
use Rattle.kinds.specs.declared.bin_weight.BinWeight.{BinWeight}
use Rattle.kinds.specs.declared.fault.KindFault.{KindFault}
use Rattle.kinds.specs.declared.fault.KindFault.TheVariants.{NoValue}
use Rattle.script.specs.declared.command.SetUp.{SetUp}
use Rattle.script.specs.declared.command.Command.{Command}
use Rattle.script.specs.declared.command.Command.TheVariants.{SetUp as Sets}
use Rattle.halls.specs.declared.fault.HallFault.{HallFault}
use Rattle.halls.specs.declared.fault.HallFault.TheVariants.{NotItsSlip}
use Rattle.model.specs.Halls.{World}
use Rattle.model.specs.Answers.{slip, refused}
use Rattle.model.specs.Calls.{Call, begin_write, redeem}
use Rattle.register.specs.declared.slip.Slip.{Slip}
use Rattle.register.specs.Worlds.{done_or, slip_or}
use Rattle.runner.specs.declared.fault.ScriptFault.{ScriptFault}
use Rattle.runner.specs.declared.fault.ScriptFault.TheVariants.{Unreadable, Kind, Hall}
use Rattle.runner.specs.Asks.{Asks, calls, over, asks, ending, lodging, lodging_again, spending, redeeming, writing}
use Rattle.runner.specs.Plays.{BookStep, Does, stops, goes_on}
use Rattle.runner.specs.Slips.{holds_its_slip}
use Rattle.runner.specs.Views.{hall_fault, Lodges, Redeems}

-- what a refusal that is passed on is told as
pub passed_on : {A E : Type 0} (r : Result A E) (x : E) → IsErrAnd r (λ e. e ≡ x) → result_err r ≡ Some x
passed_on (Ok u) x is = absurd is
passed_on (Err e) x is = ap Some is

pub as_passed : {before after : World} {asked : Asks} (r : Result (Unit {0}) HallFault) (fault : HallFault) → IsErrAnd r (λ e. e ≡ fault)
    → Does before asked (Some (Hall fault)) after → Does before asked (hall_fault r) after
as_passed {before} {after} {asked} r fault is does = subst (λ f. Does before asked (option_map Hall f) after) (sym (passed_on r fault is)) does

pub as_kept : {before after : World} {asked : Asks} (given kept : HallFault) → given ≡ kept → Does before asked (Some (Hall kept)) after → Does before asked (Some (Hall given)) after
as_kept {before} {after} {asked} given kept is does = subst (λ f. Does before asked (Some (Hall f)) after) (sym is) does

module _ {before after : World} where
  -- a line of one call
  pub ends : {call : Call BinWeight} (r : Result (Unit {0}) HallFault) → BookStep before call (done_or r) after → Does before (calls call ending) (hall_fault r) after
  ends (Ok u) step = goes_on step stops
  ends (Err fault) step = goes_on step stops

  -- a begin that is refused
  pub begins_not : {call : Call BinWeight} (fault : HallFault) → BookStep before call (refused fault) after → Does before (calls call lodging) (Some (Hall fault)) after
  begins_not fault step = goes_on step stops

-- a begin, and then its slip is lodged
pub begins : {before between after : World} {call : Call BinWeight} (c k : ℕ) → BookStep before call (slip c k) between → Lodges between c k after → Does before (calls call lodging) None after
begins c k step lodges = goes_on step (lodges None)

module _ {before : World} {client : ℕ} where
  -- a line that asks for a slip, where one of the present operation is lodged
  holding : (call : ℕ → ℕ → Call BinWeight) {fault : Option ScriptFault} {after : World} → holds_its_slip before.hall client ≡ true
      → Does before (calls (redeem client) (spending call)) fault after → Does before (redeeming call before.hall client) fault after
  holding call {fault} {after} holds does =
      subst (λ asked. Does before asked fault after) (sym (cond-true (holds_its_slip before.hall client) _ _ holds)) does

  module _ {between : World} {c k : ℕ} (holds : holds_its_slip before.hall client ≡ true) (redeemed : BookStep before (redeem client) (slip c k) between) where
    pub spends : (call : ℕ → ℕ → Call BinWeight) {next : World} → Does between (calls (call c k) (lodging_again c k)) None next → Does before (redeeming call before.hall client) None next
    spends call does = holding call holds (goes_on redeemed does)

    -- the call is refused, and the slip is lodged again
    pub spends_not : (call : ℕ → ℕ → Call BinWeight) {next after : World} (fault : HallFault) → BookStep between (call c k) (refused fault) next → Lodges next c k after
        → Does before (redeeming call before.hall client) (Some (Hall fault)) after
    spends_not call fault step lodges = holding call holds (goes_on redeemed (goes_on step (lodges (Some (Hall fault)))))

-- what is redeemed is a slip, or ends the line
pub redeems : {before after : World} (client : ℕ) (r : Result Slip HallFault) → holds_its_slip before.hall client ≡ true
    → BookStep before (redeem client) (slip_or r) after → Redeems before client r after
redeems client (Ok s) holds step = (holds, step)
redeems client (Err fault) holds step = λ call. holding call holds (goes_on step stops)

-- no slip of its own is lodged with the client
pub holds_none : (w : World) (client : ℕ) → holds_its_slip w.hall client ≡ false → Redeems w client (Err (NotItsSlip client)) w
holds_none w client none = λ call. subst (λ asked. Does w asked (Some (Hall (NotItsSlip client))) w) (sym (cond-false (holds_its_slip w.hall client) _ _ none)) stops

pub ok_err : {A E P : Type 0} {x : A} {y : E} → ◌≡◌ {A = Result A E} (Ok x) (Err y) → P
ok_err e = absurd (true≢false (ap is_ok e))

pub ok_same : {A E : Type 0} {x y : A} → ◌≡◌ {A = Result A E} (Ok x) (Ok y) → x ≡ y
ok_same e = cc

err_same : {A E : Type 0} {x y : E} → ◌≡◌ {A = Result A E} (Err x) (Err y) → x ≡ y
err_same e = cc

-- what a line asks for, once it was read
pub read_as : (read asked : Option Command) (r : Result Command ScriptFault) (command : Command) → read ≡ asked → r ≡ ok_or read Unreadable → r ≡ Ok command → asked ≡ Some command
read_as None asked r command e o is = ok_err (sym is ∙ o)
read_as (Some x) asked r command e o is = sym e ∙ ap Some (sym (ok_same (sym is ∙ o)))

-- a line that cannot be read
pub unread : (w : World) (read asked : Option Command) (r : Result Command ScriptFault) (given : ScriptFault) (answer : Result (Unit {0}) ScriptFault)
    → read ≡ asked → r ≡ ok_or read Unreadable → r ≡ Err given → IsErrAnd answer (λ e. e ≡ given) → Does w (asks w.hall asked) (result_err answer) w
unread w None asked r given answer e o is told =
    subst (λ x. Does w (asks w.hall x) (result_err answer) w) e
    (subst (λ f. Does w (over (Some Unreadable)) f w) (sym (passed_on answer given told ∙ ap Some (err_same (sym is ∙ o)))) stops)
unread w (Some x) asked r given answer e o is told = ok_err (sym o ∙ is)

-- another set-up
pub not_here : (w : World) (read asked : Option Command) (r : Result Command ScriptFault) (command : Command) (its : SetUp) → read ≡ asked → r ≡ ok_or read Unreadable → r ≡ Ok command
    → command ≡ Sets its → Does w (asks w.hall asked) (Some Unreadable) w
not_here w read asked r command its e o is sets =
    subst (λ x. Does w (asks w.hall x) (Some Unreadable) w) (sym (read_as read asked r command e o is ∙ ap Some sets)) stops

-- a write of what is no value
pub valueless : (w : World) (client : ℕ) (v : Option BinWeight) (made : Result BinWeight KindFault) (fault : KindFault) (answer : Result (Unit {0}) ScriptFault)
    → made ≡ ok_or v NoValue → made ≡ Err fault → IsErrAnd answer (λ e. e ≡ Kind fault) → Does w (writing client v) (result_err answer) w
valueless w client None made fault answer m is told =
    subst (λ f. Does w (over (Some (Kind NoValue))) f w) (sym (passed_on answer (Kind fault) told ∙ ap (λ f. Some (Kind f)) (err_same (sym is ∙ m)))) stops
valueless w client (Some v) made fault answer m is told = ok_err (sym m ∙ is)

-- a write of a value
pub valued : {w after : World} (client : ℕ) (v : Option BinWeight) (made : Result BinWeight KindFault) (value : BinWeight) (fault : Option ScriptFault)
    → made ≡ ok_or v NoValue → made ≡ Ok value → Does w (calls (begin_write client value) lodging) fault after → Does w (writing client v) fault after
valued client None made value fault m is does = ok_err (sym is ∙ m)
valued {w} {after} client (Some v) made value fault m is does = subst (λ x. Does w (calls (begin_write client x) lodging) fault after) (ok_same (sym is ∙ m)) does
