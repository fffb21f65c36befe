-- Each call of the opening answers as the definition of an opening has it.
use Rattle.std.proofs.Common.{◌≡◌, sym, ap, ◌∙◌, rules, w64, to_z, of_z}
use Rattle.std.specs.Option.{ok_or}
use Rattle.std.proofs.lemmas.Int.{to_z-of_z}
use Rattle.kinds.specs.declared.fault.KindFault.TheVariants.{NoValue}
use Rattle.kinds.specs.BinWeights.{weight}
use Rattle.stores.specs.Cabinets.{cabinet_shelf}
use Rattle.sealers.specs.Books.{book_desk}
use Rattle.register.specs.Views.{settings, lent}
use Rattle.runner.specs.Opened.{settings_if}
use Rattle.runner.proofs.Opened.{made_of, set_up_as, opening_is, opening_not}
use Rattle.runner.proofs.opening.open.Goals as goal

pub returns-in-Ok-clause-answer : goal.returns-in-Ok-clause-answer
returns-in-Ok-clause-answer c =
    let asked = c.args.asked in
    let grams : to_z w64 (of_z w64 asked.grams) ≡ asked.grams = to_z-of_z w64 asked.grams (search rules) in
    let valued = made_of (weight asked.grams asked.lot) _ _ (c.new.ensures ∙ ap (λ z. ok_or (weight z asked.lot) NoValue) grams) c.in_ok-value.was in
    opening_is (lent c.args.tables.now) (cabinet_shelf c.args.store.now) (book_desk c.args.sealer.now) asked c.in_ok-value.value (settings c.in_ok-setup.setup) (settings c.mark.new.setup)
    valued (set_up_as _ _ _ c.new-2.ensures c.in_ok-setup.was) (sym c.mark.ensures ∙ ap (λ r. settings_if r (settings c.mark.new.setup)) c.in_ok-mark.was)
    _ c.in-Ok.ensures.fault c.in-Ok.ensures.leaves

pub returns-in-Ok-clause-promise : goal.returns-in-Ok-clause-promise
returns-in-Ok-clause-promise c =
    let asked = c.args.asked in
    let grams : to_z w64 (of_z w64 asked.grams) ≡ asked.grams = to_z-of_z w64 asked.grams (search rules) in
    record {
      value = c.in_ok-value.value;
      valued = made_of (weight asked.grams asked.lot) _ _ (c.new.ensures ∙ ap (λ z. ok_or (weight z asked.lot) NoValue) grams) c.in_ok-value.was;
      promised = c.in-Ok.ensures.promise;
    }

pub returns-in-Err-clause-answer : goal.returns-in-Err-clause-answer
returns-in-Err-clause-answer c =
    let asked = c.args.asked in
    let grams : to_z w64 (of_z w64 asked.grams) ≡ asked.grams = to_z-of_z w64 asked.grams (search rules) in
    let valued = made_of (weight asked.grams asked.lot) _ _ (c.new.ensures ∙ ap (λ z. ok_or (weight z asked.lot) NoValue) grams) c.in_ok-value.was in
    opening_not (lent c.args.tables.now) (cabinet_shelf c.args.store.now) (book_desk c.args.sealer.now) asked c.in_ok-value.value (settings c.in_ok-setup.setup) (settings c.mark.new.setup)
    valued (set_up_as _ _ _ c.new-2.ensures c.in_ok-setup.was) (sym c.mark.ensures ∙ ap (λ r. settings_if r (settings c.mark.new.setup)) c.in_ok-mark.was)
    c.in-Err.fault c.in-Err.ensures.fault
