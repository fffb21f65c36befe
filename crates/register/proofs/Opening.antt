-- What an opening leaves is what every run starts from.
use Rattle.std.proofs.Common.{◌≡◌, ℕ, zero, suc, ◌+◌, ◌-◌, ◌*◌, ◌<◌, ◌≤◌, ◌&&◌, Bool, true, false, cond, not, Ok, Err, eqb, leb, List, [], ◌∷◌, ◌++◌, length, Some, Option, refl, sym, ap, ◌∙◌, subst, arith}
use Rattle.std.proofs.lemmas.Bool.{leb-true, eqb-true, eqb-false, eq-eqb, and_parts}
use Rattle.std.proofs.lemmas.List.{get_or-replicate, length-append, length-replicate}
use Rattle.stores.specs.declared.card.Card.{Card}
use Rattle.stores.specs.Saved.{Shelf}
use Rattle.sealers.specs.Sealing.{Desk}
use Rattle.rules.specs.declared.rules.Rules.{Rules}
use Rattle.rules.specs.Genuine.{first_configuration}
use Rattle.stores.specs.declared.fault.StoreFault.TheVariants.{NoSave}
use Rattle.halls.specs.declared.fault.HallFault.TheVariants.{Limit, Store as OfStore}
use Rattle.model.specs.Tables.{Table, places}
use Rattle.kinds.specs.Kinds.{RecordKind}
use Rattle.model.specs.Halls.{Hall, Lengths, no_seat}
use Rattle.model.specs.Issuing.{is_right_set, has_too_many_marked}
use Rattle.model.specs.Runs.{Opened, first_card, first_seat}
use Rattle.model.proofs.Ways.{not_ok}
use Rattle.register.specs.Grown.{grown}
use Rattle.register.specs.Setups.{within_limits}
use Rattle.register.specs.Openings.{Lent, right_tables, right_lengths, too_few, admitted, lengths_of, with_first_cards, emptied, opened}

-- each of the first n replicas has its first card
cards_saved : (rules : Rules) (place : ℕ → Option Card) (n m : ℕ) → m < n → with_first_cards rules place n m ≡ Some (first_card rules m)
unfolding with_first_cards
cards_saved rules place zero m less = absurd (omega (arith, less))
cards_saved rules place (suc n) m less = by_last (eqb m n) refl (cards_saved rules place n m)
  where
    by_last : (b : Bool) → eqb m n ≡ b → (m < n → with_first_cards rules place n m ≡ Some (first_card rules m)) → cond b (Some (first_card rules n)) (with_first_cards rules place n m) ≡ Some (first_card rules m)
    by_last true is before = ap (λ k. Some (first_card rules k)) (sym (eqb-true m n is))
    by_last false is before = before (let other : m ≡ n → ⊥ = eqb-false m n is in omega (arith, less, other))

-- an emptied list has all its places
emptied_places : {T : Type 0} (t : Table T) → places (emptied t) ≡ places t
emptied_places t = let e = length-append t.list t.rest in omega (arith, e)

-- with at least one place, the first item is the whole list
first_item : {T : Type 0} (t : Table T) (x : T) → 1 ≤ places t → (grown (emptied t) x).list ≡ x ∷ []
first_item {T} t x some = by_room (t.list ++ t.rest) (subst (λ n. 1 ≤ n) (sym (length-append t.list t.rest)) some)
  where
    by_room : (xs : List T) → 1 ≤ length xs → (grown (record { list = []; rest = xs }) x).list ≡ x ∷ []
    by_room [] none = absurd (omega (arith, none))
    by_room (y ∷ xs) some = refl

grown_places : {T : Type 0} (t : Table T) (x : T) → places (grown t x) ≡ places t
grown_places t x = by_room t.rest
  where
    by_room : (xs : List _) → places (grown (record { list = t.list; rest = xs }) x) ≡ length t.list + length xs
    by_room [] = refl
    by_room (y ∷ xs) = let e = length-append t.list (x ∷ []) in omega (arith, e)

-- what admits an opening
pub tables_right : (rules : Rules) (t : Lent) (saves : Option ℕ) (l : Lengths) → Ok l ≡ admitted rules t saves → right_tables rules t ≡ true
tables_right rules t saves l is = by_tables (right_tables rules t) is
  where
    by_tables : (b : Bool) → Ok l ≡ cond (not b) (Err Limit) (cond (too_few saves rules.replicas) (Err (OfStore (NoSave 0))) (Ok (lengths_of t))) → b ≡ true
    by_tables true is = refl
    by_tables false is = not_ok (sym is)

all_true : {a b : Bool} → a ≡ true → b ≡ true → (a && b) ≡ true
all_true p q = rw (p, q) refl

module _ {V : Type 0} (kind : RecordKind V) (v : V) (rules : Rules) (marked : ℕ) (t : Lent) (shelf : Shelf) (desk : Desk) where
  opening_right : within_limits rules.faults rules.replicas rules.clients ≡ true
      → is_right_set rules rules.first.0 ≡ true
      → has_too_many_marked rules marked rules.first.0 ≡ false
      → right_tables rules t ≡ true
      → rules.opening ≡ kind.word v
      → Opened kind v (opened rules marked t shelf desk)
  opening_right limits right few tables word =
      let l = and_parts (leb 1 rules.faults && leb rules.faults 5) _ limits in
      let faults = and_parts (leb 1 rules.faults) (leb rules.faults 5) l.0 in
      let counts = and_parts (leb (3 * rules.faults + 1) rules.replicas && leb rules.replicas 64) (leb 1 rules.clients && leb rules.clients 32) l.1 in
      let replicas = and_parts (leb (3 * rules.faults + 1) rules.replicas) (leb rules.replicas 64) counts.0 in
      let clients = and_parts (leb 1 rules.clients) (leb rules.clients 32) counts.1 in
      let lent = and_parts (right_lengths (places t.post) (places t.log) (places t.roll)) (eqb (length t.seats) rules.clients) tables in
      let lengths = and_parts (leb 1 (places t.post) && leb (places t.post) 4096) _ lent.0 in
      let post = and_parts (leb 1 (places t.post)) (leb (places t.post) 4096) lengths.0 in
      let others = and_parts (leb 1 (places t.log) && leb (places t.log) 1024) (leb 1 (places t.roll) && leb (places t.roll) 256) lengths.1 in
      let log = and_parts (leb 1 (places t.log)) (leb (places t.log) 1024) others.0 in
      let roll = and_parts (leb 1 (places t.roll)) (leb (places t.roll) 256) others.1 in
      let seats : length t.seats ≡ rules.clients = eqb-true (length t.seats) rules.clients lent.1 in
      let roll_places : places (grown (emptied t.roll) (first_configuration rules)) ≡ places t.roll = grown_places (emptied t.roll) (first_configuration rules) ∙ emptied_places t.roll in
      record {
        faults = leb-true 1 rules.faults faults.0;
        replicas = leb-true rules.replicas 64 replicas.1;
        clients = leb-true rules.clients 32 clients.1;
        first = right;
        marked = few;
        opening = word;
        tables = all_true
            (all_true (eq-eqb _ _ (emptied_places t.post)) (eq-eqb _ _ (emptied_places t.log)))
            (all_true (eq-eqb _ _ roll_places) (eq-eqb _ _ (length-replicate (length t.seats) (first_seat rules) ∙ seats)));
        post_limit = subst (λ n. n ≤ 4096) (sym (emptied_places t.post)) (leb-true (places t.post) 4096 post.1);
        log_limit = subst (λ n. n ≤ 1024) (sym (emptied_places t.log)) (leb-true (places t.log) 1024 log.1);
        roll_limit = subst (λ n. n ≤ 256) (sym roll_places) (leb-true (places t.roll) 256 roll.1);
        source = refl;
        moment = refl;
        post = refl;
        log = refl;
        roll = first_item t.roll (first_configuration rules) (leb-true 1 (places t.roll) roll.0);
        seats = λ c above below. get_or-replicate (length t.seats) (c - 1) (first_seat rules) no_seat (omega (arith, above, below, seats));
        cards = λ n less. cards_saved rules shelf.place rules.replicas n less;
      }

  pub opening_holds : within_limits rules.faults rules.replicas rules.clients ≡ true
      → is_right_set rules rules.first.0 ≡ true
      → has_too_many_marked rules marked rules.first.0 ≡ false
      → right_tables rules t ≡ true
      → rules.opening ≡ kind.word v
      → (h : Hall) → h ≡ opened rules marked t shelf desk → Opened kind v h
  opening_holds limits right few tables word h is = subst (λ (h : Hall). Opened kind v h) (sym is) (opening_right limits right few tables word)
