-- The card in the record at the place that the search answers.
use Rattle.std.proofs.Common.{Some, sym, ap, ◌∙◌}
use Rattle.std.specs.Option.{option_map}
use Rattle.wire.proofs.Made.{replica_below}
use Rattle.tapes.specs.Tapes.{lent, card_in}
use Rattle.tapes.proofs.Loads.{loaded_by}
use Rattle.tapes.proofs.tape.TapeStore.load.Goals as goal

pub returns-in_err-place : goal.returns-in_err-place
returns-in_err-place c =
    let all = loaded_by (lent c.args.self.now) c.args.replica.number (replica_below c.args.replica) _ _ _ c.records.ensures.value c.records.ensures.count c.number.ensures.value c.last_record.ensures.within c.last_record.ensures.value in
    c.from_residual.ensures ∙ ap (option_map (card_in c.args.self.now.bytes.now)) (sym c.in_err-place.was) ∙ all

pub returns : goal.returns
returns c =
    let all = loaded_by (lent c.args.self.now) c.args.replica.number (replica_below c.args.replica) _ _ _ c.records.ensures.value c.records.ensures.count c.number.ensures.value c.last_record.ensures.within c.last_record.ensures.value in
    ap Some c.card_at.ensures ∙ ap (option_map (card_in c.args.self.now.bytes.now)) (sym c.in_ok-place.was) ∙ all
