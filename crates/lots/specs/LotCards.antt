-- Lot cards, their words, the lot card of a word, and the rule for drawing a lot.
use Rattle.std.specs.Prelude.{ℕ, ◌+◌, ◌*◌, ◌/◌, ◌%◌, Bool, false, cond, Some, None, Option, ◌==◌, nat_lt}
use Rattle.std.specs.Option.{option_map}
use Rattle.kinds.specs.declared.word.Word.{Word}
use Rattle.lots.specs.declared.lot_card.Day.{Day}
use Rattle.lots.specs.declared.lot_card.Reason.{Reason}
use Rattle.lots.specs.declared.lot_card.LotCard.{LotCard}
use Rattle.lots.specs.declared.lot_card.LotCard.TheVariants.{Quarantined, Released, Blocked}
use Rattle.kinds.specs.Partial.{only_if}

-- a day is at most 65,535, a reason at most 255
abbrev pub day_of : ℕ → Option Day
day_of n = only_if (nat_lt n 65536) (λ e. record { number = n; ok = e })

abbrev pub reason_of : ℕ → Option Reason
reason_of n = only_if (nat_lt n 256) (λ e. record { code = n; ok = e })

abbrev pub blocked : Option Reason → Option Day → Option LotCard
blocked None day = None
blocked (Some reason) None = None
blocked (Some reason) (Some since) = Some (Blocked reason since)

-- the lot card of these numbers, if they are in range
abbrev pub quarantined_since : ℕ → Option LotCard
quarantined_since since = option_map Quarantined (day_of since)

abbrev pub released_until : ℕ → Option LotCard
released_until until = option_map Released (day_of until)

abbrev pub blocked_for : ℕ → ℕ → Option LotCard
blocked_for reason since = blocked (reason_of reason) (day_of since)

-- tag, reason and day of each case
abbrev pub card_tag : LotCard → ℕ
card_tag (Quarantined since) = 1
card_tag (Released until) = 2
card_tag (Blocked reason since) = 3

abbrev pub card_reason : LotCard → ℕ
card_reason (Quarantined since) = 0
card_reason (Released until) = 0
card_reason (Blocked reason since) = reason.code

abbrev pub card_day : LotCard → ℕ
card_day (Quarantined since) = since.number
card_day (Released until) = until.number
card_day (Blocked reason since) = since.number

abbrev pub card_word : LotCard → Word
card_word c = record { 0 = card_tag c * 4294967296 + card_reason c * 65536 + card_day c }

-- the lot card of a tag, a reason and a day: a reason stands only on a blocked lot's
abbrev pub card : ℕ → ℕ → ℕ → Option LotCard
card tag reason day =
    cond (tag == 1) (cond (reason == 0) (quarantined_since day) None)
    (cond (tag == 2) (cond (reason == 0) (released_until day) None)
    (cond (tag == 3) (blocked_for reason day) None))

abbrev pub card_value : Word → Option LotCard
card_value w = card (w.0 / 4294967296) (w.0 / 65536 % 65536) (w.0 % 65536)

-- a lot may be drawn on a day exactly when it is released until a later day
abbrev pub drawable : LotCard → Day → Bool
drawable (Quarantined since) day = false
drawable (Released until) day = nat_lt day.number until.number
drawable (Blocked reason since) day = false
