-- A party's row of keys is spent: one seal fewer for that party, and the same seals genuine. Assumes nothing.
use Rattle.std.proofs.Common.{◌≡◌, ℕ, zero, suc, ◌-◌, true, false, eqb, List, [], ◌∷◌, length, get_or, set, Some, None, Ok, vec_items, vec_len, Option, unwrap_or, sym, refl, ap, ◌∙◌, subst, ⊎_elim, arith}
use Rattle.std.specs.List.{slice_get}
use Rattle.std.specs.Option.{option_map}
use Rattle.std.proofs.lemmas.Option.{slice_get_read, slice_get_within}
use Rattle.std.proofs.lemmas.Bool.{cases_eq, cond-true, cond-false, eq-eqb, ne_eqb}
use Rattle.std.proofs.lemmas.Bool.Decides.{nat_tests}
use Rattle.wire.specs.declared.pair.Seal.{Seal}
use Rattle.wire.specs.declared.text.Text.{Text}
use Rattle.sealers.specs.declared.keyed.Keyed.{Keyed}
use Rattle.sealers.specs.declared.keyed.KeyRow.{KeyRow}
use Rattle.sealers.specs.Keys.{key_place, row_at, key_row, key_seal, spent_row, keyed_seals, keyed_genuine, keyed_desk}
use Rattle.sealers.specs.Sealing.{Seals, spent, sealed}
use Rattle.sealers.proofs.Sealing.{of_text, still_with, exactly}

nth_set_same : (rows : List KeyRow) (i : ℕ) (row new : KeyRow) → slice_get rows i ≡ Some row → slice_get (set rows i new) i ≡ Some new
nth_set_same [] i row new e = absurd (let z : ◌≡◌ {A = ℕ} 0 1 = cc in omega arith)
nth_set_same (x ∷ xs) zero row new e = refl
nth_set_same (x ∷ xs) (suc i) row new e = nth_set_same xs i row new e

nth_set_other : (rows : List KeyRow) (i j : ℕ) (new : KeyRow) → (j ≡ i → ⊥) → slice_get (set rows i new) j ≡ slice_get rows j
nth_set_other [] i j new ne = refl
nth_set_other (x ∷ xs) zero zero new ne = absurd (ne refl)
nth_set_other (x ∷ xs) zero (suc j) new ne = refl
nth_set_other (x ∷ xs) (suc i) zero new ne = refl
nth_set_other (x ∷ xs) (suc i) (suc j) new ne = nth_set_other xs i j new (λ e. ne (ap suc e))

-- two parties have two places
place_own : (p q i : ℕ) → key_place p ≡ Some i → key_place q ≡ Some i → p ≡ q
place_own p q i a b = grind (arith, nat_tests)

-- k' is k with the row of this party spent
pub record Spent (k k' : Keyed) (party : ℕ) (row : KeyRow) : Type 0 where
  pub place : ℕ
  pub there : key_place party ≡ Some place
  pub held : slice_get (vec_items k.rows) place ≡ Some row
  pub rows : vec_items k'.rows ≡ set (vec_items k.rows) place (spent_row row)

module _ {k k' : Keyed} {party : ℕ} {row : KeyRow} (w : Spent k k' party row) where
  pub row_before : key_row k party ≡ Some row
  row_before = ap (row_at (vec_items k.rows)) w.there ∙ w.held

  row_after : key_row k' party ≡ Some (spent_row row)
  row_after = ap (row_at (vec_items k'.rows)) w.there ∙ ap (λ l. slice_get l w.place) w.rows ∙ nth_set_same (vec_items k.rows) w.place row (spent_row row) w.held

  other : (q : ℕ) (o : Option ℕ) → key_place q ≡ o → (q ≡ party → ⊥) → row_at (vec_items k'.rows) o ≡ row_at (vec_items k.rows) o
  other q None e ne = refl
  other q (Some j) e ne =
      ap (λ l. slice_get l j) w.rows
      ∙ nth_set_other (vec_items k.rows) w.place j (spent_row row) (λ same. ne (place_own q party w.place (e ∙ ap Some same) w.there))

  row_elsewhere : (q : ℕ) → (q ≡ party → ⊥) → key_row k' q ≡ key_row k q
  row_elsewhere q ne = other q (key_place q) refl ne

  seals_there : keyed_seals k' party ≡ keyed_seals k party - 1
  seals_there = ap (λ o. unwrap_or (option_map (λ r. r.left) o) 0) row_after ∙ sym (ap (λ o. unwrap_or (option_map (λ r. r.left) o) 0 - 1) row_before)

  pub seals_fall : (q : ℕ) → keyed_seals k' q ≡ spent (keyed_seals k) party q
  seals_fall q =
      ⊎_elim
      (λ e. subst (λ x. keyed_seals k' x ≡ spent (keyed_seals k) party x) (sym e) (seals_there ∙ sym (cond-true (eqb party party) _ _ (eq-eqb party party refl))))
      (λ ne. ap (λ o. unwrap_or (option_map (λ r. r.left) o) 0) (row_elsewhere q ne) ∙ sym (cond-false (eqb q party) _ _ (ne_eqb q party ne)))
      (cases_eq q party)

  same_genuine : (t : Text) (s : Seal) → keyed_genuine k' t s ≡ keyed_genuine k t s
  same_genuine t s =
      let by = λ (o : Option KeyRow). unwrap_or (option_map (λ r. eqb (key_seal r t).0 s.0) o) false in
      ⊎_elim
      (λ e. ap (λ p. by (key_row k' p)) e ∙ ap by row_after ∙ sym (ap by row_before) ∙ sym (ap (λ p. by (key_row k p)) e))
      (λ ne. ap by (row_elsewhere t.party ne))
      (cases_eq t.party party)

  given_genuine : (t : Text) (s : Seal) → t.party ≡ party → s ≡ key_seal row t → keyed_genuine k' t s ≡ true
  given_genuine t s at e =
      ap (λ p. unwrap_or (option_map (λ r. eqb (key_seal r t).0 s.0) (key_row k' p)) false) at
      ∙ ap (λ o. unwrap_or (option_map (λ r. eqb (key_seal r t).0 s.0) o) false) row_after
      ∙ eq-eqb (key_seal row t).0 s.0 (ap (λ x. x.0) (sym e))

  -- the seal that is given was genuine before: a key makes the same seal of a text always
  pub sealed_now : (t : Text) (s : Seal) → t.party ≡ party → s ≡ key_seal row t → Seals (keyed_desk k) (Some t) s (keyed_desk k')
  sealed_now t s at e = record {
    allowed = of_text (λ u. keyed_genuine k u s ≡ true) (sym (same_genuine t s) ∙ given_genuine t s at e);
    genuine = exactly (keyed_desk k) t s (keyed_genuine k') (λ u s. refl)
        (λ u r g. still_with (keyed_desk k) t s u r (sym (same_genuine u r) ∙ g))
        (λ u r g. same_genuine u r ∙ g)
        (given_genuine t s at e);
  }

  pub change_if : (t : Text) (s : Seal) → t.party ≡ party → (row.left ≡ 0 → ⊥) → record { answer = Ok s; seals = keyed_seals k' } ≡ sealed (keyed_seals k) s t
  change_if t s at some =
      let left : keyed_seals k party ≡ row.left = ap (λ o. unwrap_or (option_map (λ r. r.left) o) 0) row_before in
      let more : eqb (keyed_seals k t.party) 0 ≡ false = ne_eqb (keyed_seals k t.party) 0 (λ z. some (sym left ∙ sym (ap (keyed_seals k) at) ∙ z)) in
      (λ i. record { answer = Ok s; seals = λ q. (seals_fall q ∙ ap (λ p. spent (keyed_seals k) p q) (sym at)) i })
      ∙ sym (cond-false (eqb (keyed_seals k t.party) 0) _ _ more)

-- the row that was lent is the party's row
pub spent_if : (k k' : Keyed) (party place : ℕ) (row lent : KeyRow) → key_place party ≡ Some place → key_row k party ≡ Some row → vec_len k.rows ≡ length (vec_items k.rows) → lent ≡ get_or (vec_items k.rows) place lent → vec_items k'.rows ≡ set (vec_items k.rows) place (spent_row lent) → Spent k k' party row
spent_if k k' party place row lent there has long read rows =
    let held : slice_get (vec_items k.rows) place ≡ Some row = sym (ap (row_at (vec_items k.rows)) there) ∙ has in
    let same : slice_get (vec_items k.rows) place ≡ Some lent = slice_get_read (vec_items k.rows) (length (vec_items k.rows)) place lent refl (slice_get_within (vec_items k.rows) place row held) read in
    let one : lent ≡ row = cc in
    record { place = place; there = there; held = held; rows = rows ∙ ap (λ x. set (vec_items k.rows) place (spent_row x)) one }
