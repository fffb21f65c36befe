-- The shape of each mark.
use Rattle.std.specs.Prelude.{ℕ, ◌+◌, ◌-◌, ◌%◌, Bool, true, false, cond, nat_lt, ◌==◌}
use Rattle.picture.specs.declared.colour.Colour.{Colour}
use Rattle.picture.specs.declared.colour.Colour.TheVariants.{Ink, Grey, Faint, Green, PaleBlue, PaleOrange, PaleGreen, PalePink}
use Rattle.picture.specs.declared.shape.Anchor.{Anchor}
use Rattle.picture.specs.declared.shape.Anchor.TheVariants.{Start, End}
use Rattle.picture.specs.declared.shape.Stroke.{Stroke}
use Rattle.picture.specs.declared.shape.Stroke.TheVariants.{Whole, Dashed}
use Rattle.picture.specs.declared.shape.Shape.{Shape}
use Rattle.picture.specs.declared.shape.Shape.TheVariants.{Line, Arrow as AnArrow, Turn, Block, Cross as ACross, Ring, Text, Halo as AHalo}
use Rattle.charts.specs.declared.sign.Sign.{Sign}
use Rattle.charts.specs.declared.sign.Sign.TheVariants.{Handed, Lied, Lost as SaysLost, Refused, Epoch, Operation, Unfinished}
use Rattle.charts.specs.declared.caption.Caption.{Caption}
use Rattle.charts.specs.declared.caption.Caption.TheVariants.{Row as SaysRow, Meaning as SaysMeaning}
use Rattle.charts.specs.declared.layout.Layout.{Layout}
use Rattle.charts.specs.declared.layout.Place.{Place}
use Rattle.charts.specs.declared.mark.Mark.{Mark}
use Rattle.charts.specs.declared.mark.Mark.TheVariants.{Title, Row, RowNumber, Cross, Reason, Band, Bar, Cap, Arrow, Struck, Lost, Note, Halo, Sample, Meaning}
use Rattle.charts.specs.Layouts.{column, height, point_at, point_of, spot_of, legend_height, picture_width}

-- the colour of an epoch's bands: four colours in turn
abbrev pub tint : ℕ → Colour
tint epoch =
    cond (epoch % 4 == 0) PaleBlue
    (cond (epoch % 4 == 1) PaleOrange
    (cond (epoch % 4 == 2) PaleGreen PalePink))

-- the colour of an operation's bar: whether it is over
abbrev pub bar_colour : Bool → Colour
bar_colour true = Green
bar_colour false = Grey

-- where it ends: at the line of its last row, or at the foot of that row
abbrev pub bar_end : ℕ → Bool → ℕ
bar_end until true = height until
bar_end until false = height until + 12

abbrev pub block_of : ℕ → ℕ → ℕ → ℕ → Colour → Shape Caption
block_of x top bottom width colour = Block (point_at x top) width (bottom - top) colour

abbrev pub text_of : ℕ → ℕ → Anchor → ℕ → Caption → Shape Caption
text_of x y anchor size label = Text (record { at = point_at x y; anchor = anchor; size = size }) label

-- an arrow between two columns and heights: from band to band, or out and back to the same one
abbrev pub arrow_between : ℕ → ℕ → ℕ → ℕ → Stroke → Shape Caption
arrow_between x1 y1 x2 y2 stroke =
    cond (nat_lt x1 x2) (AnArrow (point_at (x1 + 12) y1) (point_at (x2 - 12) y2) stroke)
    (cond (nat_lt x2 x1) (AnArrow (point_at (x1 - 12) y1) (point_at (x2 + 12) y2) stroke)
    (Turn (point_at (x1 + 12) y1) (point_at (x2 + 12) y2) (x1 + 60) stroke))

abbrev pub arrow_shape : ℕ → Place → Place → Stroke → Shape Caption
arrow_shape clients from to stroke =
    arrow_between (column clients from.party) (height from.row) (column clients to.party) (height to.row) stroke

-- the sample of a sign at this height
abbrev pub sample_shape : Sign → ℕ → Shape Caption
sample_shape Handed y = AnArrow (point_at 30 y) (point_at 90 y) Whole
sample_shape Lied y = AnArrow (point_at 30 y) (point_at 90 y) Dashed
sample_shape SaysLost y = Ring (point_at 60 y)
sample_shape Refused y = ACross (point_at 60 y)
sample_shape Epoch y = block_of 48 (y - 8) (y + 8) 24 PaleBlue
sample_shape Operation y = block_of 57 (y - 8) (y + 8) 6 Green
sample_shape Unfinished y = block_of 57 (y - 8) (y + 8) 6 Grey

abbrev pub mark_shape : Layout → Mark → Shape Caption
mark_shape l (Title caption) = text_of 20 28 Start 16 caption
mark_shape l (Row row) = Line (point_at 44 (height row)) (point_at (picture_width l) (height row)) Faint
mark_shape l (RowNumber row) = text_of 36 (height row) End 10 (SaysRow row)
mark_shape l (Cross row) = ACross (point_at 54 (height row))
mark_shape l (Reason row caption) = text_of 64 (height row) Start 10 caption
mark_shape l (Band at until epoch) = block_of (column l.clients at.party - 12) (height at.row - 13) (height until - 13) 24 (tint epoch)
mark_shape l (Bar at until over) = block_of (column l.clients at.party - 10) (height at.row) (bar_end until over) 6 (bar_colour over)
mark_shape l (Cap place) = block_of (column l.clients place.party - 12) (height place.row - 1) (height place.row + 2) 10 Ink
mark_shape l (Arrow from to stroke) = arrow_shape l.clients from to stroke
mark_shape l (Struck place) = ACross (point_of l.clients place)
mark_shape l (Lost place) = Ring (point_at (column l.clients place.party + 12) (height place.row + 11))
mark_shape l (Note at slot caption) = Text (spot_of l.clients at slot) caption
mark_shape l (Halo at slot caption) = AHalo (spot_of l.clients at slot) caption
mark_shape l (Sample sign) = sample_shape sign (legend_height l.rows sign)
mark_shape l (Meaning sign) = text_of 110 (legend_height l.rows sign) Start 11 (SaysMeaning sign)
