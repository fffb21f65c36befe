-- What an opening leaves meets every rule: nothing is posted, logged or sealed yet.
-- The world has any sealer and any store that the opening could leave.
use Rattle.std.proofs.Common.{◌≡◌, ℕ, ◌+◌, ◌*◌, ◌/◌, ◌^◌, ◌<◌, ◌≤◌, true, eqb, List, [], ◌∷◌, reverse, length, get_or, sym, refl, ap, ◌∙◌, subst, arith, eq-eqb, eqb-true, leb-true}
use Rattle.std.proofs.lemmas.Bool.{and_parts}
use Rattle.std.proofs.Math.Nat.{lt-div-mul-add, zero-mul}
use Rattle.std.proofs.lemmas.Nat.{pow_pos}
use mathlib.Core.List.Memᴰ
use lib.Bits.{bit_and}
use lib.Count.{ones}
use borrow.Author.Tests.{clash, not-false}
use Rattle.wire.specs.declared.entry.Entry.{Entry}
use Rattle.wire.specs.declared.pair.Pair.{Pair}
use Rattle.rules.specs.declared.rules.Rules.{Rules}
use Rattle.rules.specs.Genuine.{same_pair, opening_pair, first_configuration, genuine_pair}
use Rattle.quorums.specs.Quorums.{Sound}
use Rattle.histories.specs.Places.{Somewhere, here, there, done}
use Rattle.histories.specs.Histories.{Good}
use Rattle.kinds.specs.Kinds.{RecordKind}
use Rattle.model.specs.Halls.{World, no_configuration}
use Rattle.model.specs.Issuing.{is_right_set}
use Rattle.model.specs.Runs.{Opened, first_card, first_seat}
use Rattle.model.proofs.Invariants.{views, history, issued_as, CardRule, the_opening, SeatRule, ends, Holds}

-- nothing stands in an empty history
stands : List Entry → Type 0
stands [] = ⊥
stands (x ∷ h) = Unit {0}

somewhere_stands : {P : Entry → List Entry → Type 0} {h : List Entry} → Somewhere P h → stands h
unfolding stands
somewhere_stands (here p) = tt
somewhere_stands (there s) = tt

nowhere : {P : Entry → List Entry → Type 0} {h : List Entry} → h ≡ [] → Somewhere P h → ⊥
unfolding stands
nowhere e s = subst stands e (somewhere_stands s)

pub same_pair_self : (p : Pair) → same_pair p p ≡ true
same_pair_self p = rw (eq-eqb p.stamp.count p.stamp.count refl, eq-eqb p.stamp.writer p.stamp.writer refl, eq-eqb p.word.0 p.word.0 refl, eq-eqb p.seal.0 p.seal.0 refl)

-- a set that may be issued is one of the hall's replicas
pub right_below : (rules : Rules) (set : ℕ) → is_right_set rules set ≡ true → set < 2 ^ rules.replicas
right_below rules set right = omega (arith, lt-div-mul-add {a = set} (pow_pos rules.replicas), none, zero-mul (2 ^ rules.replicas))
  where
    none : set / 2 ^ rules.replicas * 2 ^ rules.replicas ≡ 0 * 2 ^ rules.replicas
    none = ap (λ m. m * 2 ^ rules.replicas) (eqb-true (set / 2 ^ rules.replicas) 0 (and_parts (eqb (ones set) (3 * rules.faults + 1)) (eqb (set / 2 ^ rules.replicas) 0) right).1)

module _ {V : Type 0} (kind : RecordKind V) (v : V) (w : World) (o : Opened kind v w.hall) where
  one_issued : length w.hall.roll.list ≡ 1
  one_issued = ap length o.roll

  first_issued : issued_as w.hall 0 ≡ first_configuration w.hall.rules
  first_issued = ap (λ l. get_or l 0 no_configuration) o.roll

  no_history : history w.hall ≡ []
  unfolding history
  no_history = ap reverse o.post

  zero_epoch : (e : ℕ) → e < length w.hall.roll.list → 0 ≡ e
  zero_epoch e lt = omega (arith, one_issued)

  set_is : (e : ℕ) → e < length w.hall.roll.list → w.hall.rules.first.0 ≡ (issued_as w.hall e).set.0
  set_is e lt = sym (ap (λ c. c.set.0) first_issued) ∙ ap (λ n. (issued_as w.hall n).set.0) (zero_epoch e lt)

  sound_first : Sound (views w.hall)
  sound_first = record { sized = λ e lt. at_first e lt right; few = λ e lt. few_first e lt low }
    where
      right : ones w.hall.rules.first.0 ≡ 3 * w.hall.rules.faults + 1
      right = eqb-true _ _ (and_parts _ _ o.first).0

      low : ones (bit_and w.hall.rules.first.0 w.hall.marked) ≤ w.hall.rules.faults
      low = leb-true _ _ (not-false _ o.marked)

      at_first : (e : ℕ) → e < length w.hall.roll.list → ones w.hall.rules.first.0 ≡ 3 * w.hall.rules.faults + 1 → ones (issued_as w.hall e).set.0 ≡ 3 * w.hall.rules.faults + 1
      at_first e lt r = subst (λ s. ones s ≡ 3 * w.hall.rules.faults + 1) (set_is e lt) r

      few_first : (e : ℕ) → e < length w.hall.roll.list → ones (bit_and w.hall.rules.first.0 w.hall.marked) ≤ w.hall.rules.faults → ones (bit_and (issued_as w.hall e).set.0 w.hall.marked) ≤ w.hall.rules.faults
      few_first e lt r = subst (λ s. ones (bit_and s w.hall.marked) ≤ w.hall.rules.faults) (set_is e lt) r

  first_genuine : genuine_pair w.hall.rules kind.number w.genuine (opening_pair w.hall.rules) ≡ true
  first_genuine = rw (same_pair_self (opening_pair w.hall.rules))

  first_rule : (q : ℕ) → CardRule kind.number w q (first_card w.hall.rules q)
  first_rule q = record {
    issued = omega (arith, one_issued);
    set = sym (ap (λ c. c.set.0) first_issued);
    previous = λ a e. absurd (none a e);
    served = λ s. absurd (nowhere no_history s);
    stocked = λ s. absurd (nowhere no_history s);
    left = λ e lt m. absurd (omega arith);
    ready = λ y. record { fetched = λ a e. absurd (none a e) };
    heard = λ n a m e. absurd (none a e);
    heard_within = λ a e. absurd (none a e);
    known = the_opening refl refl refl;
    genuine = first_genuine;
  }
    where
      none : (a : ℕ) → 0 ≡ a + 1 → ⊥
      none a e = omega arith

  none_logged : (k : ℕ) → k < length w.hall.log.list → ⊥
  none_logged k lt = omega (arith, ap length o.log, lt)

  seat_rule : (c : ℕ) → SeatRule kind.number w c (first_seat w.hall.rules)
  seat_rule c = record {
    base = record {
      configuration = record { issued = omega (arith, one_issued); set = sym (ap (λ z. z.set.0) first_issued) };
      past = record {
        reads = λ p. absurd (nowhere no_history p);
        writes = λ p. absurd (nowhere no_history p);
        round_low = omega arith;
        count_low = omega arith;
        counts = λ k s. absurd (none_logged k s.logged);
        newest = λ k lt. absurd (none_logged k lt);
      };
      own = λ busy. absurd (clash (sym busy));
      opens = λ o. absurd (clash o);
    };
    stage = tt;
  }

  pub opened_holds : Holds kind.number [] w
  unfolding history ends
  opened_holds = record {
    sized = record { tables = o.tables; limits = record { faults = o.faults; replicas = o.replicas; clients = o.clients }; post_limit = o.post_limit; log_limit = o.log_limit };
    roll = record {
      sound = sound_first;
      some = omega (arith, one_issued);
      first = ap (λ c. c.set.0) first_issued;
      epochs = λ e lt. first_epoch e lt;
      source = omega (arith, one_issued, o.source);
      inside = λ e lt. subst (λ s. s < 2 ^ w.hall.rules.replicas) (set_is e lt) (right_below w.hall.rules w.hall.rules.first.0 o.first);
    };
    good = subst (λ h. Good (views w.hall) h) (sym no_history) done;
    answers = λ n lt. absurd (none_posted n lt);
    cards = λ q lt. record { card = first_card w.hall.rules q; kept = o.cards q lt; rule = λ honest. first_rule q };
    seats = λ c low high. subst (λ s. SeatRule kind.number w c s) (sym (o.seats c low high)) (seat_rule c);
    log = record {
      moments = o.moment ∙ sym (ap (λ l. length l + ends l) o.log);
      each = λ k lt. absurd (none_logged k lt);
      rising = λ j k lt lk. absurd (none_logged k lk);
      own_stamp = λ j k sj sk e. absurd (none_logged j sj.logged);
      falls_not = λ j k ov lk y z. absurd (none_logged k lk);
      rises = λ j k ov sk. absurd (none_logged k sk.logged);
    };
    texts = λ t m. absurd (Memᴰ.not-nil m);
  }
    where
      none_posted : (n : ℕ) → n < length w.hall.post.list → ⊥
      none_posted n lt = omega (arith, ap length o.post, lt)

      first_epoch : (e : ℕ) → e < length w.hall.roll.list → (issued_as w.hall e).epoch ≡ e
      first_epoch e lt = ap (λ n. (issued_as w.hall n).epoch) (sym (zero_epoch e lt)) ∙ ap (λ c. c.epoch) first_issued ∙ zero_epoch e lt
