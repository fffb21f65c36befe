-- The party's row is spent, and the seal is the one that its key gives.
use Rattle.std.proofs.Common.{◌≡◌, Some, set, vec_items, sym, refl, ap, ◌∙◌, arith}
use Rattle.std.proofs.lemmas.Option.{slice_get_within}
use Rattle.sealers.specs.Keys.{key_place, key_row, row_at}
use Rattle.sealers.specs.Lending.{with_row}
use Rattle.sealers.proofs.KeyRows.{spent_if, change_if, sealed_now}
use Rattle.sealers.proofs.keyed.KeyedSealer.seal.Goals as goal

pub row-requires : goal.row-requires
row-requires c =
    let k = c.args.self.now in
    let there : key_place c.args.text.party ≡ Some c.in_ok-place.place = sym c.place.ensures ∙ c.in_ok-place.ensures.ok_part in
    let held = sym (ap (row_at (vec_items k.rows)) there) ∙ sym c.row_of.ensures ∙ c.in_ok-row.ensures.ok_part in
    omega (arith, slice_get_within (vec_items k.rows) c.in_ok-place.place c.in_ok-row.row held, k.rows.ok.0)

pub returns : goal.returns
returns c =
    let k = c.args.self.now in
    let text = c.args.text in
    let place = c.in_ok-place.place in
    let row = c.in_ok-row.row in
    let there : key_place text.party ≡ Some place = sym c.place.ensures ∙ c.in_ok-place.ensures.ok_part in
    let has : key_row k text.party ≡ Some row = sym c.row_of.ensures ∙ c.in_ok-row.ensures.ok_part in
    let w = spent_if k (with_row k place c.spend.new.self) text.party place row c.row.result.now there has k.rows.ok.0 c.row.ensures.value (ap (set (vec_items k.rows) place) c.spend.ensures) in
    record {
      change = change_if w text c.seal_of.result refl c.if-row-eq0.false;
      grows = sealed_now w text c.seal_of.result refl c.seal_of.ensures;
    }
