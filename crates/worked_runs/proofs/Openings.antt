-- The world that a small opening leaves is one that an opening leaves.
use Rattle.std.proofs.Common.{◌≡◌, ℕ, zero, suc, ◌-◌, ◌*◌, ◌<◌, ◌≤◌, true, false, not, ◌&&◌, eqb, leb, ltb, length, replicate, get_or, is_some, refl, sym, ap, ◌∙◌, cond, Some, None, Option, ⊎_elim, arith}
use Rattle.std.proofs.lemmas.Bool.{lt-ltb, eqb-true, eq-eqb, ne_eqb, cond-true, cond-false, cases_eq, cases_Bool, and_parts, not_from_true}
use Rattle.std.proofs.lemmas.Bool.Decides.{nat_tests}
use Rattle.std.proofs.lemmas.List.{get_or-replicate, length-replicate}
use Rattle.wire.specs.Parties.{party_of}
use Rattle.stores.specs.declared.cabinet.Cabinet.{Cabinet}
use Rattle.stores.specs.declared.card.Card.{Card}
use Rattle.stores.specs.Cabinets.{kept, cabinet_shelf}
use Rattle.sealers.specs.declared.book.Book.{Book}
use Rattle.sealers.specs.Books.{book_seals, book_desk}
use Rattle.sealers.proofs.Rows.{party_below, none_genuine}
use Rattle.rules.specs.declared.rules.Rules.{Rules}
use Rattle.model.specs.Halls.{no_seat, has_its_tables}
use Rattle.model.specs.Issuing.{is_right_set, has_too_many_marked}
use Rattle.model.specs.Runs.{Opened, first_card, first_seat}
use Rattle.model.specs.Kinds.{bin_weights}
use Rattle.register.specs.Openings.{right_tables, with_first_cards, opened as opened_by}
use Rattle.worked_runs.specs.Openings.{opening_weight, rules_for, opened_hall, opened_world, lent_for, Unused, LeftByOpening}

module _ (replicas clients marked : ℕ) where
  pub opened : replicas ≤ 64 → clients ≤ 32
      → is_right_set (rules_for replicas clients) 15 ≡ true
      → has_too_many_marked (rules_for replicas clients) marked 15 ≡ false
      → has_its_tables (opened_hall (rules_for replicas clients) marked) ≡ true
      → Opened bin_weights opening_weight (opened_hall (rules_for replicas clients) marked)
  opened few_replicas few_clients right unmarked tables = record {
    faults = omega arith;
    replicas = few_replicas;
    clients = few_clients;
    first = right;
    marked = unmarked;
    opening = refl;
    tables = tables;
    post_limit = omega arith;
    log_limit = omega arith;
    roll_limit = omega arith;
    source = refl;
    moment = refl;
    post = refl;
    log = refl;
    roll = refl;
    seats = λ c from to. get_or-replicate clients (c - 1) (first_seat (rules_for replicas clients)) no_seat (omega arith);
    cards = λ n lt. ap (λ b. cond b (Some (first_card (rules_for replicas clients) n)) None) (lt-ltb n replicas lt);
  }

-- the first k replicas have their first cards, and the others what was there
cards : (rules : Rules) (place : ℕ → Option Card) (k n : ℕ)
    → with_first_cards rules place k n ≡ cond (ltb n k) (Some (first_card rules n)) (place n)
unfolding with_first_cards
cards rules place zero n = sym (cond-false (ltb n 0) _ _ (grind (arith, nat_tests)))
cards rules place (suc k) n =
    ⊎_elim
    (λ e.
    cond-true (eqb n k) _ _ (eq-eqb n k e)
    ∙ (ap (λ m. Some (first_card rules m)) (sym e) ∙ sym (cond-true (ltb n (suc k)) _ _ (lt-ltb n (suc k) (omega arith)))))
    (λ ne.
    cond-false (eqb n k) _ _ (ne_eqb n k ne)
    ∙ (cards rules place k n ∙ ap (λ b. cond b (Some (first_card rules n)) (place n)) (grind (arith, nat_tests))))
    (cases_eq n k)

module _ (cabinet : Cabinet) (book : Book) (unused : Unused cabinet book) where
  cabinet_cards : (rules : Rules) (n : ℕ)
      → cond (ltb n rules.replicas) (Some (first_card rules n)) None ≡ with_first_cards rules (kept cabinet) rules.replicas n
  cabinet_cards rules n =
      ap (λ card. cond (ltb n rules.replicas) (Some (first_card rules n)) card) (sym (unused.no_card n))
      ∙ sym (cards rules (kept cabinet) rules.replicas n)

  no_used : (p : ℕ) → p < 164 → get_or book.used p 0 ≡ 0
  no_used p low = ap (λ used. get_or used p 0) unused.no_row.3 ∙ get_or-replicate {A = ℕ} 164 p 0 0 low

  rows : length book.rows.now ≡ 164 * 64
  rows =
      let many = eqb (length unused.rows) (164 * 64) in
      let fits = and_parts (leb 64 256) many (and_parts (leb 1 64) (leb 64 256 && many) unused.no_row.0).1 in
      ap length unused.no_row.1 ∙ eqb-true _ _ fits.1

  share : book.share ≡ 64
  share = unused.no_row.2

  book_left : (p : ℕ) → cond (is_some (party_of p)) 64 0 ≡ book_seals book p
  book_left p =
      ⊎_elim
      (λ is.
      let low = party_below p is in
      let none = no_used p low in
      rw is (rw (share, none, rows) (omega arith)))
      (λ is. rw is refl)
      (cases_Bool (is_some (party_of p)))

  pub left : (rules : Rules) (marked : ℕ)
      → (opened_world rules marked).hall ≡ opened_by rules marked (lent_for rules) (cabinet_shelf cabinet) (book_desk book)
  left rules marked = λ i. record (opened_hall rules marked) {
    seats = replicate (sym (length-replicate rules.clients no_seat) i) (first_seat rules);
    place = λ n. cabinet_cards rules n i;
    seals = λ p. book_left p i;
  }

pub left_by_opening : (rules : Rules) (marked : ℕ) → LeftByOpening rules marked (opened_world rules marked)
left_by_opening rules marked = record {
  taken = cond-false (not (right_tables rules (lent_for rules))) _ _
      (not_from_true _ (eq-eqb _ _ (length-replicate rules.clients no_seat)));
  left = λ cabinet book unused. left cabinet book unused rules marked;
  genuine = λ cabinet book unused i t s. sym (none_genuine book unused.no_row.3 t s) i;
}
