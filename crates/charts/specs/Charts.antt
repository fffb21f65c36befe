-- The layers of a chart, what is put on them, and the text of its picture.
use Rattle.std.specs.Prelude.{ℕ, Bool, true, false, List, [], ◌∷◌, ◌++◌, is_some, Some, None, Option, map, min, ◌+◌}
use Rattle.kinds.specs.declared.bin_weight.BinWeight.{BinWeight}
use Rattle.refusals.specs.declared.Refusal.{Refusal as ARefusal}
use Rattle.wire.specs.declared.party.Party.{Party}
use Rattle.halls.specs.declared.operation.Operation.{Operation}
use Rattle.picture.specs.Pictures.{picture_text}
use Rattle.charts.specs.declared.sign.Sign.{Sign}
use Rattle.charts.specs.declared.caption.Caption.{Caption}
use Rattle.charts.specs.declared.caption.Caption.TheVariants.{Refusal, Epoch, Lot, Operation as AnOperation}
use Rattle.charts.specs.declared.layout.Layout.{Layout}
use Rattle.charts.specs.declared.layout.Place.{Place}
use Rattle.charts.specs.declared.layout.Slot.{Slot}
use Rattle.charts.specs.declared.layout.Slot.TheVariants.{Left, LowerLeft, LowerRight, Within, Head}
use Rattle.charts.specs.declared.mark.Mark.{Mark}
use Rattle.charts.specs.declared.mark.Mark.TheVariants.{Row, RowNumber, Cross, Reason, Band, Bar, Cap, Arrow, Struck, Lost, Note, Halo, Sample, Meaning}
use Rattle.charts.specs.declared.seen.Stay.{Stay}
use Rattle.charts.specs.declared.seen.Delivery.{Delivery}
use Rattle.charts.specs.declared.chart.Chart.{Chart}
use Rattle.charts.specs.Captions.{caption_text}
use Rattle.charts.specs.Layouts.{far_side, picture_width, picture_height}
use Rattle.charts.specs.Marks.{mark_shape}
use Rattle.charts.specs.Seen.{weight_of}

-- what lies below, what runs across it, and what is written over both
pub record Layers : Type 0 where
  pub ground : List Mark
  pub lines : List Mark
  pub notes : List Mark

abbrev pub layers : Chart → Layers
layers c = record { ground = c.ground.items; lines = c.lines.items; notes = c.notes.items }

abbrev pub empty : Layers
empty = record { ground = []; lines = []; notes = [] }

abbrev pub under : Layers → Mark → Layers
under c mark = record { ground = c.ground ++ mark ∷ []; lines = c.lines; notes = c.notes }

abbrev pub across : Layers → Mark → Layers
across c mark = record { ground = c.ground; lines = c.lines ++ mark ∷ []; notes = c.notes }

abbrev pub over : Layers → Mark → Layers
over c mark = record { ground = c.ground; lines = c.lines; notes = c.notes ++ mark ∷ [] }

-- a text by a place, kept apart from what is below it
abbrev pub noted : Layers → Place → Slot → Caption → Layers
noted c at slot caption = over (over c (Halo at slot caption)) (Note at slot caption)

abbrev pub place_at : Party → ℕ → Place
place_at party row = record { party = party; row = row }

-- the head of a lane, above so many rows and below them
abbrev pub headed : Layers → Party → Caption → ℕ → Layers
headed c party caption rows =
    noted (noted c (place_at party 0) Head caption) (place_at party (min (rows + 1) 65535)) Head caption

abbrev pub rowed : Layers → ℕ → Layers
rowed c row = under (under c (Row row)) (RowNumber row)

abbrev pub refused : Layers → ℕ → ARefusal → Layers
refused c row refusal = over (over c (Cross row)) (Reason row (Refusal refusal))

-- a party was in an epoch up to some row
abbrev pub stayed : Layers → Stay → ℕ → Layers
stayed c stay until =
    over (under c (Band (place_at stay.party stay.since) until stay.epoch)) (Note (place_at stay.party stay.since) Within (Epoch stay.epoch))

abbrev pub struck : Layers → Place → Bool → Layers
struck c at true = over c (Struck at)
struck c at false = c

-- an entry was handed over
abbrev pub delivered : ℕ → Layers → Delivery → Layers
delivered clients c d = struck (noted (across c (Arrow d.from d.to d.stroke)) d.to (far_side clients d.from d.to) d.name) d.to d.refused

-- an entry that was posted here was handed to nobody
abbrev pub lost : Layers → Place → Caption → Layers
lost c at name = noted (over c (Lost at)) at LowerRight name

abbrev pub capped : Layers → Place → Bool → Layers
capped c at true = under c (Cap at)
capped c at false = c

abbrev pub lotted : Layers → Place → Option BinWeight → Layers
lotted c at None = c
lotted c at (Some weight) = noted c at LowerLeft (Lot weight)

-- an operation from the place where it began to another row
abbrev pub worked : Layers → Place → ℕ → Operation → Layers
worked c at until op =
    lotted (noted (capped (under c (Bar at until (is_some op.ended))) (place_at at.party until) (is_some op.ended)) at Left (AnOperation op.writes (weight_of op))) at (weight_of op)

abbrev pub explained : Layers → Sign → Layers
explained c sign = under (under c (Sample sign)) (Meaning sign)

-- the shapes of the marks below, of those across them, and of those over both
abbrev pub chart_text : Layout → Layers → List ℕ
chart_text l c =
    picture_text caption_text (picture_width l) (picture_height l) (map (mark_shape l) c.ground ++ map (mark_shape l) c.lines ++ map (mark_shape l) c.notes)
