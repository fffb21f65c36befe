-- A row of the book is written: one seal fewer for that party, the new seal genuine, the others still, and no more. Assumes nothing.
use Rattle.std.proofs.Common.{◌≡◌, ℕ, ◌+◌, ◌-◌, ◌*◌, ◌<◌, ◌≤◌, min, true, false, ◌&&◌, eqb, ltb, leb, length, replicate, get_or, set, is_some, Some, Ok, sym, refl, ap, ◌∙◌, subst, ⊎_elim, mul_comm, mul-le-mul_left, mul-one, mul-add, arith, length-set, get_or-set_other, get_or-set_same}
use Rattle.std.proofs.lemmas.Bool.{cases_eq, cases_lt, cases_order, cases_Bool, both_ways, cond-true, cond-false, eq-eqb, ne_eqb, le-leb, lt-ltb, leb-true, ltb-true, and_parts, and_from}
use Rattle.std.proofs.lemmas.Bool.Decides.{nat_tests}
use Rattle.std.proofs.lemmas.List.{get_or-replicate}
use Rattle.wire.specs.declared.pair.Seal.{Seal}
use Rattle.wire.specs.declared.text.Text.{Text}
use Rattle.wire.specs.Parties.{party_of}
use Rattle.sealers.specs.declared.book.Book.{Book}
use Rattle.sealers.specs.Books.{no_text, next_row, end_row, book_seals, book_genuine, book_allowed, book_desk}
use Rattle.sealers.specs.Sealing.{Seals, same_text, spent, sealed, genuine_with}
use Rattle.sealers.proofs.Sealing.{same_itself, text_is, of_text, still_with, given_with, exactly}

-- b' is b with the text in its party's next row
pub record Written (b b' : Book) (text : Text) : Type 0 where
  pub party : is_some (party_of text.party) ≡ true
  pub free : next_row b text.party < end_row b text.party
  pub long : text.party < length b.used
  pub rows : b'.rows.now ≡ set b.rows.now (next_row b text.party) text
  pub share : b'.share ≡ b.share
  pub used : b'.used ≡ set b.used text.party (get_or b.used text.party 0 + 1)

-- what it is for a seal to be genuine, part by part
record Parts (b : Book) (t : Text) (s : Seal) : Type 0 where
  party : is_some (party_of t.party) ≡ true
  low : t.party * b.share ≤ s.0
  used : s.0 < next_row b t.party
  inside : s.0 < length b.rows.now
  holds : same_text (get_or b.rows.now s.0 no_text) t ≡ true

genuine_from : (b : Book) (t : Text) (s : Seal) → Parts b t s → book_genuine b t s ≡ true
genuine_from b t s h =
    and_from _ _ h.party
    (and_from _ _ (le-leb (t.party * b.share) s.0 h.low)
    (and_from _ _ (lt-ltb s.0 (min (next_row b t.party) (length b.rows.now)) (let u = h.used in let i = h.inside in omega arith)) h.holds))

genuine_parts : (b : Book) (t : Text) (s : Seal) → book_genuine b t s ≡ true → Parts b t s
genuine_parts b t s g =
    let known = and_parts (is_some (party_of t.party)) (leb (t.party * b.share) s.0 && (ltb s.0 (min (next_row b t.party) (length b.rows.now)) && same_text (get_or b.rows.now s.0 no_text) t)) g in
    let above = and_parts _ _ known.1 in
    let below = and_parts _ _ above.1 in
    let high = ltb-true s.0 (min (next_row b t.party) (length b.rows.now)) below.0 in
    record { party = known.0; low = leb-true (t.party * b.share) s.0 above.0; used = omega arith; inside = omega arith; holds = below.1 }

-- a party that has a seal left, and none but a party has one
pub has_seal : (b : Book) (p : ℕ) → (book_seals b p ≡ 0 → ⊥) → (is_some (party_of p) ≡ true) × (next_row b p < end_row b p)
has_seal b p some =
    ⊎_elim
    (λ e. (e, let h = rw e at some in ⊎_elim (λ lt. lt) (λ le. absurd (h (omega arith))) (cases_lt (next_row b p) (end_row b p))))
    (λ e. absurd (rw e at some refl))
    (cases_Bool (is_some (party_of p)))

pub party_below : (p : ℕ) → is_some (party_of p) ≡ true → p < 164
party_below p e = ⊎_elim (λ lt. lt) (λ le. absurd (both_ways (is_some (party_of p)) (grind (arith, nat_tests)) e)) (cases_lt p 164)

-- in an empty book no seal is genuine
pub none_genuine : (b : Book) → b.used ≡ replicate 164 0 → (t : Text) (s : Seal) → book_genuine b t s ≡ false
none_genuine b empty t s = ⊎_elim
    (λ e.
    let g = genuine_parts b t s e in
    let none : get_or b.used t.party 0 ≡ 0 = ap (λ us. get_or us t.party 0) empty ∙ get_or-replicate {A = ℕ} 164 t.party 0 0 (party_below t.party g.party) in
    absurd (omega (arith, g.low, g.used, none)))
    (λ e. e)
    (cases_Bool (book_genuine b t s))

-- one row more is used
fell : (first share used rows : ℕ) → first + min used share < min (first + share) rows → min (first + share) rows - (first + min (used + 1) share) ≡ min (first + share) rows - (first + min used share) - 1
fell first share used rows h = omega arith

next_up : (first share used rows : ℕ) → first + min used share < min (first + share) rows → first + min (used + 1) share ≡ first + min used share + 1
next_up first share used rows h = omega arith

-- two parties' shares lie apart
apart : (p q share s : ℕ) → p < q → s < p * share + share → q * share ≤ s → ⊥
apart p q share s h below above =
    let more : share * (p + 1) ≤ share * q = mul-le-mul_left share (omega arith) in
    let first : share * (p + 1) ≡ share * p + share = mul-add share p 1 ∙ ap (λ n. share * p + n) (mul-one share) in
    omega (arith, mul_comm share p, mul_comm share q)

module _ {b b' : Book} {text : Text} (w : Written b b' text) where
  as_many : length b'.rows.now ≡ length b.rows.now
  as_many = ap length w.rows ∙ length-set _ _ _

  used_there : get_or b'.used text.party 0 ≡ get_or b.used text.party 0 + 1
  used_there = ap (λ l. get_or l text.party 0) w.used ∙ get_or-set_same b.used text.party _ 0 w.long

  used_elsewhere : (q : ℕ) → (q ≡ text.party → ⊥) → get_or b'.used q 0 ≡ get_or b.used q 0
  used_elsewhere q ne = ap (λ l. get_or l q 0) w.used ∙ get_or-set_other b.used text.party q _ 0 ne

  seals_there : book_seals b' text.party ≡ book_seals b text.party - 1
  seals_there = rw w.party (rw (w.share, as_many, used_there) (fell (text.party * b.share) b.share (get_or b.used text.party 0) (length b.rows.now) w.free))

  seals_elsewhere : (q : ℕ) → (q ≡ text.party → ⊥) → book_seals b' q ≡ book_seals b q
  seals_elsewhere q ne = rw (w.share, as_many, used_elsewhere q ne)

  pub seals_fall : (q : ℕ) → book_seals b' q ≡ spent (book_seals b) text.party q
  seals_fall q =
      ⊎_elim
      (λ e. subst (λ x. book_seals b' x ≡ spent (book_seals b) text.party x) (sym e) (seals_there ∙ sym (cond-true (eqb text.party text.party) _ _ (eq-eqb text.party text.party refl))))
      (λ ne. seals_elsewhere q ne ∙ sym (cond-false (eqb q text.party) _ _ (ne_eqb q text.party ne)))
      (cases_eq q text.party)

  -- the row that was written holds the text, and the others what they held
  written : get_or b'.rows.now (next_row b text.party) no_text ≡ text
  written = ap (λ l. get_or l (next_row b text.party) no_text) w.rows ∙ get_or-set_same b.rows.now (next_row b text.party) text no_text (let h = w.free in omega arith)

  unwritten : (s : ℕ) → (s ≡ next_row b text.party → ⊥) → get_or b'.rows.now s no_text ≡ get_or b.rows.now s no_text
  unwritten s ne = ap (λ l. get_or l s no_text) w.rows ∙ get_or-set_other b.rows.now (next_row b text.party) s text no_text ne

  new_genuine : book_genuine b' text (record { 0 = next_row b text.party }) ≡ true
  new_genuine =
      let h = w.free in
      genuine_from b' text (record { 0 = next_row b text.party }) (record {
        party = w.party;
        low = rw w.share (omega arith);
        used = rw (w.share, used_there) (omega arith);
        inside = rw as_many (omega arith);
        holds = ap (λ t. same_text t text) written ∙ same_itself text;
      })

  -- no row is used by less than before
  next_no_less : (q : ℕ) → next_row b q ≤ next_row b' q
  next_no_less q =
      ⊎_elim
      (λ e. subst (λ x. next_row b x ≤ next_row b' x) (sym e) (rw (w.share, used_there) (omega arith)))
      (λ ne. rw (w.share, used_elsewhere q ne) (omega arith))
      (cases_eq q text.party)

  -- a used row is not the one that was written
  other_row : (q s : ℕ) → q * b.share ≤ s → s < next_row b q → s ≡ next_row b text.party → ⊥
  other_row q s low high e =
      let h = w.free in
      ⊎_elim
      (λ same. let there = subst (λ x. s < next_row b x) same high in omega arith)
      (⊎_elim
      (λ before. apart q text.party b.share s before (omega arith) (omega arith))
      (λ after. apart text.party q b.share s after (omega arith) low))
      (cases_order q text.party)

  still_genuine : (t : Text) (s : Seal) → book_genuine b t s ≡ true → book_genuine b' t s ≡ true
  still_genuine t s g =
      let old = genuine_parts b t s g in
      let more = next_no_less t.party in
      genuine_from b' t s (record {
        party = old.party;
        low = rw w.share old.low;
        used = omega (arith, old.used);
        inside = rw as_many old.inside;
        holds = ap (λ x. same_text x t) (unwritten s.0 (other_row t.party s.0 old.low old.used)) ∙ old.holds;
      })

  -- a row that is used now was used before, unless it is the one that was written
  used_before : (q s : ℕ) → s < next_row b' q → (s ≡ next_row b text.party → ⊥) → s < next_row b q
  used_before q s used other =
      ⊎_elim
      (λ e.
      let now = subst (λ x. s < next_row b' x) e used in
      let more : next_row b' text.party ≡ next_row b text.party + 1 = rw (w.share, used_there) (next_up (text.party * b.share) b.share (get_or b.used text.party 0) (length b.rows.now) w.free) in
      ⊎_elim
      (λ lt. subst (λ x. s < next_row b x) (sym e) lt)
      (λ le. absurd (other (omega (arith, le, now, more))))
      (cases_lt s (next_row b text.party)))
      (λ ne. let same : next_row b' q ≡ next_row b q = rw (w.share, used_elsewhere q ne) refl in omega (arith, used, same))
      (cases_eq q text.party)

  -- the seal that is given
  next_seal : Seal
  next_seal = record { 0 = next_row b text.party }

  old_or_new : (t : Text) (s : Seal) → book_genuine b' t s ≡ true → genuine_with (book_desk b) text next_seal t s ≡ true
  unfolding next_seal
  old_or_new t s g =
      let now = genuine_parts b' t s g in
      ⊎_elim
      (λ here. given_with (book_desk b) text next_seal t s (sym (text_is text t (ap (λ x. same_text x t) (sym (ap (λ k. get_or b'.rows.now k no_text) here ∙ written)) ∙ now.holds))) here)
      (λ elsewhere. still_with (book_desk b) text next_seal t s (genuine_from b t s (record {
        party = now.party;
        low = rw (sym w.share) now.low;
        used = used_before t.party s.0 now.used elsewhere;
        inside = rw (sym as_many) now.inside;
        holds = ap (λ x. same_text x t) (sym (unwritten s.0 elsewhere)) ∙ now.holds;
      })))
      (cases_eq s.0 (next_row b text.party))

  -- the book after it has given the text the next row of its party
  pub sealed_now : (row : ℕ) → row ≡ next_row b text.party → Seals (book_desk b) (Some text) (record { 0 = row }) (book_desk b')
  unfolding next_seal
  sealed_now row at = subst (λ r. Seals (book_desk b) (Some text) (record { 0 = r }) (book_desk b')) (sym at) (record {
    allowed = of_text (λ t. book_allowed b t (record { 0 = next_row b text.party }) ≡ true) (eq-eqb (next_row b text.party) (next_row b text.party) refl);
    genuine = exactly (book_desk b) text next_seal (book_genuine b') (λ t s. refl) old_or_new still_genuine new_genuine;
  })

-- what sealing has to show: b' has the text in this row, and the row is the party's next
pub written_if : (b b' : Book) (text : Text) (row : ℕ) → row ≡ next_row b text.party → (book_seals b text.party ≡ 0 → ⊥) → length b.used ≡ 164 → b'.rows.now ≡ set b.rows.now row text → b'.share ≡ b.share → b'.used ≡ set b.used text.party (get_or b.used text.party 0 + 1) → Written b b' text
written_if b b' text row at some long rows share used =
    let has = has_seal b text.party some in
    let small = party_below text.party has.0 in
    record { party = has.0; free = has.1; long = omega arith; rows = rows ∙ ap (λ i. set b.rows.now i text) at; share = share; used = used }

pub change_if : {b b' : Book} {text : Text} (row : ℕ) → (book_seals b text.party ≡ 0 → ⊥) → Written b b' text → record { answer = Ok (record { 0 = row }); seals = book_seals b' } ≡ sealed (book_seals b) (record { 0 = row }) text
change_if {b} {b'} {text} row some w =
    (λ i. record { answer = Ok (record { 0 = row }); seals = λ q. seals_fall w q i })
    ∙ sym (cond-false (eqb (book_seals b text.party) 0) _ _ (ne_eqb (book_seals b text.party) 0 some))
