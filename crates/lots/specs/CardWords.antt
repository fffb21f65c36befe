-- A lot card's word gives back its tag, its reason and its day. Assumes nothing.
use Rattle.std.specs.Prelude.{◌≡◌, ℕ, ◌+◌, ◌*◌, ◌/◌, ◌%◌, ◌<◌, cond, Some, None, Option, ◌==◌, refl}
use Rattle.std.proofs.Common.{ap, sym, subst, ◌∙◌, arith}
use Rattle.std.specs.Option.{option_map}
use Rattle.std.proofs.lemmas.Bool.{cond_both, ltb-true, eqb-true}
use Rattle.std.proofs.lemmas.Option.{none-some}
use Rattle.kinds.specs.declared.word.Word.{Word}
use Rattle.lots.specs.declared.lot_card.Day.{Day}
use Rattle.lots.specs.declared.lot_card.Reason.{Reason}
use Rattle.lots.specs.declared.lot_card.LotCard.{LotCard}
use Rattle.lots.specs.declared.lot_card.LotCard.TheVariants.{Quarantined, Released, Blocked}
use Rattle.lots.specs.LotCards.{day_of, reason_of, blocked, card, card_tag, card_reason, card_day, card_word, card_value}
use Rattle.kinds.specs.Partials.{only_if_true, only_if_some}

-- a day and a reason are those of their numbers
pub day_is : (d : Day) → Some d ≡ day_of d.number
day_is d = sym (only_if_true _ _ d.ok)

pub reason_is : (r : Reason) → Some r ≡ reason_of r.code
reason_is r = sym (only_if_true _ _ r.ok)

-- the three numbers that a word is put together from
module _ (tag reason day : ℕ) (small : reason < 65536) (short : day < 65536) where
  pub card_of_parts : card ((tag * 4294967296 + reason * 65536 + day) / 4294967296) ((tag * 4294967296 + reason * 65536 + day) / 65536 % 65536) ((tag * 4294967296 + reason * 65536 + day) % 65536) ≡ card tag reason day
  card_of_parts =
      let t : (tag * 4294967296 + reason * 65536 + day) / 4294967296 ≡ tag = omega arith in
      let r : (tag * 4294967296 + reason * 65536 + day) / 65536 % 65536 ≡ reason = omega arith in
      let d : (tag * 4294967296 + reason * 65536 + day) % 65536 ≡ day = omega arith in
      λ i. card (t i) (r i) (d i)

pub card_kept : (c : LotCard) → card_value (card_word c) ≡ Some c
card_kept (Quarantined since) =
    let d = ltb-true since.number 65536 since.ok in
    card_of_parts 1 0 since.number (omega arith) d ∙ ap (option_map Quarantined) (sym (day_is since))
card_kept (Released until) =
    let d = ltb-true until.number 65536 until.ok in
    card_of_parts 2 0 until.number (omega arith) d ∙ ap (option_map Released) (sym (day_is until))
card_kept (Blocked reason since) =
    let r = ltb-true reason.code 256 reason.ok in
    let d = ltb-true since.number 65536 since.ok in
    card_of_parts 3 reason.code since.number (omega arith) d ∙ (λ i. blocked (sym (reason_is reason) i) (sym (day_is since) i))

-- tag, reason and day of a card are those it is made from
record Parts (c : LotCard) (tag reason day : ℕ) : Type 0 where
  tagged : card_tag c ≡ tag
  reasoned : card_reason c ≡ reason
  dated : card_day c ≡ day

day_number : (n : ℕ) (d : Day) → day_of n ≡ Some d → d.number ≡ n
day_number n d e = ap (λ x. x.number) (sym (only_if_some _ _ d e).1)

reason_code : (n : ℕ) (r : Reason) → reason_of n ≡ Some r → r.code ≡ n
reason_code n r e = ap (λ x. x.code) (sym (only_if_some _ _ r e).1)

-- a card that has no reason
dated_parts : (tag day : ℕ) (make : Day → LotCard) → ((d : Day) → Parts (make d) tag 0 d.number) → (c : LotCard) (o : Option Day) → day_of day ≡ o → option_map make o ≡ Some c → Parts c tag 0 day
dated_parts tag day make parts c None o e = absurd (none-some c e)
dated_parts tag day make parts c (Some d) o e =
    let same : make d ≡ c = cc in
    subst (λ n. Parts c tag 0 n) (day_number day d o) (subst (λ x. Parts x tag 0 d.number) same (parts d))

blocked_parts : (reason day : ℕ) (c : LotCard) (p : Option Reason) (o : Option Day) → reason_of reason ≡ p → day_of day ≡ o → blocked p o ≡ Some c → Parts c 3 reason day
blocked_parts reason day c None o p q e = absurd (none-some c e)
blocked_parts reason day c (Some r) None p q e = absurd (none-some c e)
blocked_parts reason day c (Some r) (Some d) p q e =
    let same : Blocked r d ≡ c = cc in
    subst (λ x. Parts x 3 reason day) same (record { tagged = refl; reasoned = reason_code reason r p; dated = day_number day d q })

parts_at : (c : LotCard) (tag tag' reason reason' day : ℕ) → tag ≡ tag' → reason ≡ reason' → Parts c tag' reason' day → Parts c tag reason day
parts_at c tag tag' reason reason' day t r h = record { tagged = h.tagged ∙ sym t; reasoned = h.reasoned ∙ sym r; dated = h.dated }

module _ (tag reason day : ℕ) (c : LotCard) where
  unreasoned : (n : ℕ) (o : Option LotCard) → tag ≡ n → (o ≡ Some c → Parts c n 0 day) → cond (reason == 0) o None ≡ Some c → Parts c tag reason day
  unreasoned n o t parts =
      cond_both (reason == 0) o None (λ x. x ≡ Some c → Parts c tag reason day)
      (λ zero e. parts_at c tag n reason 0 day t (eqb-true reason 0 zero) (parts e))
      (λ _ e. absurd (none-some c e))

  card_parts : card tag reason day ≡ Some c → Parts c tag reason day
  card_parts =
      cond_both (tag == 1) _ _ (λ x. x ≡ Some c → Parts c tag reason day)
      (λ one. unreasoned 1 _ (eqb-true tag 1 one) (dated_parts 1 day Quarantined (λ d. record { tagged = refl; reasoned = refl; dated = refl }) c (day_of day) refl))
      (λ _. cond_both (tag == 2) _ _ (λ x. x ≡ Some c → Parts c tag reason day)
      (λ two. unreasoned 2 _ (eqb-true tag 2 two) (dated_parts 2 day Released (λ d. record { tagged = refl; reasoned = refl; dated = refl }) c (day_of day) refl))
      (λ _. cond_both (tag == 3) _ _ (λ x. x ≡ Some c → Parts c tag reason day)
      (λ three e. parts_at c tag 3 reason reason day (eqb-true tag 3 three) refl (blocked_parts reason day c (reason_of reason) (day_of day) refl refl e))
      (λ _ e. absurd (none-some c e))))

-- a word is put together again from what is read from it
pub card_exact : (w : Word) (c : LotCard) → card_value w ≡ Some c → card_word c ≡ w
card_exact w c e =
    let parts = card_parts (w.0 / 4294967296) (w.0 / 65536 % 65536) (w.0 % 65536) c e in
    let n : card_tag c * 4294967296 + card_reason c * 65536 + card_day c ≡ w.0 = omega (arith, parts.tagged, parts.reasoned, parts.dated) in
    ap (λ m. record { 0 = m }) n
