-- The answer to each question, and how it is printed.
use Rattle.std.specs.Prelude.{ℕ, Bool, true, false, cond, List, Some, None, codes, decimal, Option, Result, ◌==◌}
use Rattle.std.specs.Option.{option_map, ok_or}
use Rattle.kinds.specs.declared.word.Word.{Word}
use Rattle.kinds.specs.declared.fault.KindFault.TheVariants.{NoValue}
use Rattle.kinds.specs.BinWeights.{weight, weight_word, weight_value}
use Rattle.kinds.specs.Shown.{weight_text}
use Rattle.lots.specs.declared.lot_card.Day.{Day}
use Rattle.lots.specs.declared.lot_card.LotCard.{LotCard}
use Rattle.lots.specs.LotCards.{day_of, quarantined_since, released_until, blocked_for, card_word, card_value, drawable}
use Rattle.lots.specs.Shown.{card_text}
use Rattle.queries.specs.declared.fault.QueryFault.{QueryFault}
use Rattle.queries.specs.declared.fault.QueryFault.TheVariants.{Kind}
use Rattle.queries.specs.declared.query.Query.{Query}
use Rattle.queries.specs.declared.query.Query.TheVariants.{Weight, Quarantined, Released, Blocked, Value, Draw}
use Rattle.queries.specs.declared.reply.Reply.{Reply}
use Rattle.queries.specs.declared.reply.Reply.TheVariants.{Spelt, Weighed, Carded, Drawable}

-- the value of a kind that has this word: kind 1 is the bin weight, kind 2 the lot card
abbrev pub value_of : ℕ → Word → Option Reply
value_of kind word = cond (kind == 1) (option_map Weighed (weight_value word)) (cond (kind == 2) (option_map Carded (card_value word)) None)

abbrev drawing : Option LotCard → Option Day → Option Reply
drawing None day = None
drawing (Some card) None = None
drawing (Some card) (Some day) = Some (Drawable (drawable card day))

abbrev pub found : Query → Option Reply
found (Weight grams lot) = option_map (λ v. Spelt (weight_word v)) (weight grams lot)
found (Quarantined since) = option_map (λ c. Spelt (card_word c)) (quarantined_since since)
found (Released until) = option_map (λ c. Spelt (card_word c)) (released_until until)
found (Blocked reason since) = option_map (λ c. Spelt (card_word c)) (blocked_for reason since)
found (Value kind word) = value_of kind word
found (Draw word day) = drawing (card_value word) (day_of day)

-- what it asks about, if there is such a value
abbrev pub answer : Query → Result Reply QueryFault
answer q = ok_or (found q) (Kind NoValue)

abbrev pub verdict_text : Bool → List ℕ
verdict_text true = codes "may be drawn"
verdict_text false = codes "may not be drawn"

abbrev pub reply_text : Reply → List ℕ
reply_text (Spelt word) = decimal word.0
reply_text (Weighed v) = weight_text v
reply_text (Carded c) = card_text c
reply_text (Drawable may) = verdict_text may
