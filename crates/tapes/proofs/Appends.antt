-- What a record behind the others makes of the cards of a tape. Assumes nothing.
use Rattle.std.proofs.Common.{◌≡◌, ℕ, suc, ◌+◌, ◌-◌, ◌*◌, ◌/◌, ◌≤◌, min, true, false, cond, eqb, ltb, List, [], ◌∷◌, ◌++◌, length, take, drop, find, is_ok, Some, None, Ok, Err, Option, Result, Bool, refl, sym, ap, ◌∙◌, ⊎_elim, add-one, arith, length-append, length-drop, take-append-drop}
use Rattle.std.specs.Option.{option_map}
use Rattle.std.specs.Simd.{first_chunks}
use Rattle.std.proofs.lemmas.List.{length-take-le, reverse-append}
use Rattle.std.proofs.lemmas.Bool.{ltb-true, ltb-false, eqb-true, eq-eqb, ne_eqb, cond-true, cond-false, cases_Bool}
use Rattle.stores.specs.declared.card.Card.{Card}
use Rattle.stores.specs.declared.fault.StoreFault.{StoreFault}
use Rattle.stores.specs.declared.fault.StoreFault.TheVariants.{NoSave}
use Rattle.tapes.specs.Records.{encoded, decoded, Fitting}
use Rattle.stores.specs.Saved.{after, put, saved}
use Rattle.tapes.specs.Tapes.{found, last_card, Lent, whole, room, card_of, Changed, written, longer, appended, shelf_of}
use Rattle.tapes.proofs.Codec.{length_encoded, decoded_encoded}
use Rattle.tapes.proofs.Chunks.{chunks_front, chunks_more}

module _ (xs : List ℕ) (k n : ℕ) (card : Card) (fit : k * 72 + 72 ≤ length xs) where
  front : length (take (k * 72) xs) ≡ k * 72
  front = length-take-le (k * 72) xs (omega arith)

  pub length_written : length (written xs k n card) ≡ length xs
  length_written =
      length-append (take (k * 72) xs) (encoded n card ++ drop (k * 72 + 72) xs)
      ∙ omega (arith, front, length-append (encoded n card) (drop (k * 72 + 72) xs), length_encoded n card, length-drop (k * 72 + 72) xs)

  -- those before it, and the new record
  records_new : first_chunks 72 (suc k) (written xs k n card) ≡ first_chunks 72 k xs ++ encoded n card ∷ []
  records_new =
      let low : k * 72 ≤ length (take (k * 72) xs) = omega (arith, front) in
      chunks_more 72 k (take (k * 72) xs) (encoded n card) (drop (k * 72 + 72) xs) front (length_encoded n card)
      ∙ ap (λ l. l ++ encoded n card ∷ [])
      (sym (chunks_front 72 k (take (k * 72) xs) (drop (k * 72) xs) low) ∙ ap (first_chunks 72 k) (take-append-drop (k * 72) xs))

  option_cond : (o : Option (List ℕ)) (b : Bool) → option_map (λ r. (decoded r).card) (cond b (Some (encoded n card)) o) ≡ cond b (Some (decoded (encoded n card)).card) (option_map (λ r. (decoded r).card) o)
  option_cond o true = refl
  option_cond o false = refl

  pub found_new : Fitting card → (m : ℕ) → found (written xs k n card) m (k + 1) ≡ cond (eqb m n) (Some card) (found xs m k)
  found_new f m =
      let new : decoded (encoded n card) ≡ record { replica = n; card = card } = decoded_encoded n card f in
      ap (found (written xs k n card) m) (add-one k)
      ∙ ap (λ rs. last_card rs m) records_new
      ∙ ap (λ rs. option_map (λ r. (decoded r).card) (find (λ r. eqb m (decoded r).replica) rs)) (reverse-append (first_chunks 72 k xs) (encoded n card ∷ []))
      ∙ option_cond _ (eqb m (decoded (encoded n card)).replica)
      ∙ (λ i. cond (eqb m (new i).replica) (Some (new i).card) (found xs m k))

-- the choice of a number below 64, before or after that of one number below 64
swapped : (m n : ℕ) → ltb n 64 ≡ true → (x y : Option Card) → cond (ltb m 64) (cond (eqb m n) x y) None ≡ cond (eqb m n) x (cond (ltb m 64) y None)
swapped m n small x y = ⊎_elim
    (λ (t : eqb m n ≡ true).
    let within : ltb m 64 ≡ true = ap (λ j. ltb j 64) (eqb-true m n t) ∙ small in
    cond-true (ltb m 64) _ _ within ∙ cond-true (eqb m n) _ _ t ∙ sym (cond-true (eqb m n) _ _ t))
    (λ (t : eqb m n ≡ false). ap (λ z. cond (ltb m 64) z None) (cond-false (eqb m n) x y t) ∙ sym (cond-false (eqb m n) _ _ t))
    (cases_Bool (eqb m n))

module _ (l : Lent) (n : ℕ) (card : Card) (small : ltb n 64 ≡ true) where
  module _ (more : ltb (whole l) (length l.bytes / 72) ≡ true) where
    fit : whole l * 72 + 72 ≤ length l.bytes
    fit = omega (arith, ltb-true (whole l) (length l.bytes / 72) more)

    long : length (longer l n card).bytes ≡ length l.bytes
    long = length_written l.bytes (whole l) n card fit

    whole_new : whole (longer l n card) ≡ whole l + 1
    whole_new = ap (λ j. min (whole l * 72 + 72) j / 72) long ∙ (let h = fit in omega arith)

    room_new : room (longer l n card) ≡ room l - 1
    room_new = (λ i. long i / 72 - whole_new i) ∙ omega arith

    cards_new : Fitting card → (m : ℕ) → card_of (longer l n card) m ≡ put (card_of l) n card m
    cards_new f m =
        ap (λ j. cond (ltb m 64) (found (longer l n card).bytes m j) None) whole_new
        ∙ ap (λ z. cond (ltb m 64) z None) (found_new l.bytes (whole l) n card fit f m)
        ∙ swapped m n small (Some card) (found l.bytes m (whole l))

    pub saved_more : Fitting card → after (Ok tt) (card_of (longer l n card)) (Some (room (longer l n card))) ≡ saved (shelf_of l) n card
    saved_more f =
        let left : eqb (room l) 0 ≡ false = ne_eqb (room l) 0 (λ e. omega (arith, e, ltb-true (whole l) (length l.bytes / 72) more)) in
        (λ i. after (Ok tt) (λ m. cards_new f m i) (Some (room_new i)))
        ∙ sym (cond-false (eqb (room l) 0) _ _ left)

  pub saved_none : ltb (whole l) (length l.bytes / 72) ≡ false → after (Err (NoSave (whole l))) (card_of l) (Some (room l)) ≡ saved (shelf_of l) n card
  saved_none full =
      let left : eqb (room l) 0 ≡ true = eq-eqb (room l) 0 (omega (arith, ltb-false (whole l) (length l.bytes / 72) full)) in
      sym (cond-true (eqb (room l) 0) _ _ left)

  -- what a save answers and leaves, by its record
  pub saved_by : (r : Result (Unit {0}) StoreFault) (l' : Lent) → ◌≡◌ {A = Changed} record { answer = r; tape = l' } (appended l n card) → (is_ok r ≡ true → Fitting card)
      → after r (card_of l') (Some (room l')) ≡ saved (shelf_of l) n card
  saved_by r l' e f = ⊎_elim
      (λ (t : ltb (whole l) (length l.bytes / 72) ≡ true).
      let is = e ∙ cond-true _ _ _ t in
      (λ i. after (is i).answer (card_of (is i).tape) (Some (room (is i).tape))) ∙ saved_more t (f (ap (λ x. is_ok x.answer) is)))
      (λ (t : ltb (whole l) (length l.bytes / 72) ≡ false).
      let is = e ∙ cond-false _ _ _ t in
      (λ i. after (is i).answer (card_of (is i).tape) (Some (room (is i).tape))) ∙ saved_none t)
      (cases_Bool (ltb (whole l) (length l.bytes / 72)))
