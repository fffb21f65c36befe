-- The text stands in its party's next row, and nothing else has changed.
use Rattle.std.proofs.Common.{◌≡◌, ◌+◌, ◌<◌, ◌≤◌, length, get_or, set, refl, ap, length-set, ◌∙◌, arith}
use borrow.Rule.Slice.Mut.{set_vals}
use Rattle.sealers.specs.declared.book.Book.{Book}
use Rattle.sealers.specs.Books.{book_seals}
use Rattle.sealers.proofs.Rows.{has_seal, party_below, written_if, change_if, sealed_now}
use Rattle.sealers.proofs.Shares.{one_more_used}
use Rattle.sealers.proofs.book.BookSealer.seal.Goals as goal

pub returns : goal.returns
returns c =
    let b = c.args.self.now in
    let text = c.args.text in
    let row = c.next_row-row.result in
    let at = c.next_row-row.ensures in
    let some : book_seals b text.party ≡ 0 → ⊥ = λ e. c.if-left-eq0.false (c.left.ensures ∙ e) in
    let long : length b.used ≡ 164 = omega arith in
    let has = has_seal b text.party some in
    let room : get_or b.used text.party 0 < b.share = omega (arith, has.1, b.within text.party) in
    let there : c.from.result < length b.used = omega (arith, party_below text.party has.0, c.from.ensures) in
    let more : get_or b.used c.from.result 0 + 1 ≤ b.share = rw c.from.ensures (omega arith) in
    let b' : Book = record { rows = set_vals (set b.rows.now row text) b.rows; share = b.share; used = set b.used c.from.result (get_or b.used c.from.result 0 + 1); sized = length-set _ _ _ ∙ b.sized; within = one_more_used b.used b.share c.from.result (get_or b.used c.from.result 0 + 1) b.within there more } in
    let w = written_if b b' text row at some long refl refl (ap (λ k. set b.used k (get_or b.used k 0 + 1)) c.from.ensures) in
    record {
      change = change_if {b' = b'} row some w;
      grows = sealed_now {b' = b'} w row at;
    }
