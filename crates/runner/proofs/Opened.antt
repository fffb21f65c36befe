-- What an opening answers, from what each of its calls answers. Assumes nothing.
use Rattle.std.proofs.Common.{◌≡◌, is_some, Some, None, Ok, Err, Option, Result, sym, ap, ◌∙◌}
use Rattle.std.specs.Option.{ok_or}
use Rattle.std.proofs.lemmas.Bool.{true≢false}
use Rattle.kinds.specs.declared.bin_weight.BinWeight.{BinWeight}
use Rattle.kinds.specs.declared.fault.KindFault.{KindFault}
use Rattle.kinds.specs.declared.fault.KindFault.TheVariants.{NoValue}
use Rattle.kinds.specs.BinWeights.{weight, weight_word}
use Rattle.halls.specs.declared.fault.HallFault.{HallFault}
use Rattle.script.specs.declared.command.SetUp.{SetUp}
use Rattle.stores.specs.Saved.{Shelf}
use Rattle.sealers.specs.Sealing.{Desk}
use Rattle.model.specs.Halls.{Hall, Lengths}
use Rattle.register.specs.declared.setup.Setup.{Setup}
use Rattle.register.specs.Setups.{Settings, set_up}
use Rattle.register.specs.Openings.{Lent, admitted, opened, opening_with, refused_by}
use Rattle.register.specs.Views.{settings, settings_or}
use Rattle.runner.specs.declared.fault.ScriptFault.TheVariants.{Hall as OfHall}
use Rattle.runner.specs.Openings.{marks, marked, opened_if, opened_as, valued_as, opening_over}
use Rattle.runner.proofs.Steps.{ok_same, ok_err}

-- a value that was made is that of these grams and this lot
pub made_of : (v : Option BinWeight) (made : Result BinWeight KindFault) (value : BinWeight) → made ≡ ok_or v NoValue → made ≡ Ok value → v ≡ Some value
made_of None made value m is = ok_err (sym is ∙ m)
made_of (Some v) made value m is = ap Some (ok_same (sym m ∙ is))

-- the settings that were set up
pub set_up_as : (r : Result Setup HallFault) (s : Setup) (asked : Result Settings HallFault) → settings_or r ≡ asked → r ≡ Ok s → asked ≡ Ok (settings s)
set_up_as r s asked e is = sym e ∙ ap settings_or is

module _ (t : Lent) (shelf : Shelf) (desk : Desk) (asked : SetUp) (v : BinWeight) (first s : Settings) (valued : weight asked.grams asked.lot ≡ Some v)
    (made : set_up asked.faults asked.replicas asked.clients asked.set ≡ Ok first) (marks_all : marks 64 asked.marked.0 first ≡ Ok s) where
  admits : opening_over t shelf desk asked ≡ opened_if t shelf desk s v (admitted s.rules t shelf.saves)
  admits =
      ap (valued_as t shelf desk asked) valued
      ∙ ap (λ r. opened_as t shelf desk v (marked asked.marked.0 r)) made
      ∙ ap (opened_as t shelf desk v) marks_all

  pub opening_is : (h : Hall) → None ≡ refused_by (admitted s.rules t shelf.saves) → h ≡ opened (opening_with s.rules (weight_word v)) s.marked.0 t shelf desk
      → Ok h ≡ opening_over t shelf desk asked
  opening_is h none is = sym (admits ∙ by_answer (admitted s.rules t shelf.saves) none)
    where
      by_answer : (r : Result Lengths HallFault) → None ≡ refused_by r → opened_if t shelf desk s v r ≡ Ok h
      by_answer (Ok l) e = ap Ok (sym is)
      by_answer (Err f) e = absurd (true≢false (ap is_some (sym e)))

  pub opening_not : (fault : HallFault) → Some fault ≡ refused_by (admitted s.rules t shelf.saves) → Err (OfHall fault) ≡ opening_over t shelf desk asked
  opening_not fault some = sym (admits ∙ by_answer (admitted s.rules t shelf.saves) some)
    where
      by_answer : (r : Result Lengths HallFault) → Some fault ≡ refused_by r → opened_if t shelf desk s v r ≡ Err (OfHall fault)
      by_answer (Ok l) e = absurd (true≢false (ap is_some e))
      by_answer (Err f) e = let same : f ≡ fault = cc in ap (λ x. Err (OfHall x)) same
