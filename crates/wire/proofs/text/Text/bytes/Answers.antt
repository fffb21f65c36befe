-- The bytes of the two longer numbers, one by one; and they tell the text.
use Rattle.std.proofs.Common.{sym, ◌∙◌, rules}
use Rattle.wire.specs.Texts.{Fitting}
use Rattle.wire.proofs.Bytes.{le_4, le_8, twelve, text_same}
use Rattle.wire.proofs.text.Text.bytes.Goals as goal

pub returns : goal.returns
returns c =
    let t = c.args.self in
    let value = twelve t.tag t.party t.number t.body _ _ (le_4 t.number ∙ sym c.to_le_bytes-number.ensures) (le_8 t.body ∙ sym c.to_le_bytes-body.ensures) in
    let fits : Fitting t = search rules in
    record { value = value; exact = λ u fit e. text_same u t fit fits (e ∙ value) }
