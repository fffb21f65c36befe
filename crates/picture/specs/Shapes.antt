-- The text of each shape: one element of an SVG, with its line end.
use Rattle.std.specs.Prelude.{ℕ, List, [], ◌∷◌, ◌++◌, codes, decimal}
use Rattle.picture.specs.declared.colour.Colour.{Colour}
use Rattle.picture.specs.declared.shape.Point.{Point}
use Rattle.picture.specs.declared.shape.Anchor.{Anchor}
use Rattle.picture.specs.declared.shape.Anchor.TheVariants.{Start, Middle, End}
use Rattle.picture.specs.declared.shape.Spot.{Spot}
use Rattle.picture.specs.declared.shape.Stroke.{Stroke}
use Rattle.picture.specs.declared.shape.Stroke.TheVariants.{Whole, Dashed}
use Rattle.picture.specs.declared.shape.Shape.{Shape}
use Rattle.picture.specs.declared.shape.Shape.TheVariants.{Line, Arrow, Turn, Block, Cross, Ring, Text, Halo}
use Rattle.picture.specs.Colours.{colour_code}

-- these pieces, one behind the other
abbrev pub joined : List (List ℕ) → List ℕ
joined [] = []
joined (p ∷ []) = p
joined (p ∷ q ∷ ps) = p ++ joined (q ∷ ps)

abbrev pub anchor_name : Anchor → List ℕ
anchor_name Start = codes "start"
anchor_name Middle = codes "middle"
anchor_name End = codes "end"

abbrev pub stroke_text : Stroke → List ℕ
stroke_text Whole = codes "fill='none' stroke='#0072b2' marker-end='url(#whole)'"
stroke_text Dashed = codes "fill='none' stroke='#d55e00' stroke-dasharray='6 3' marker-end='url(#dashed)'"

-- the two ends of a line
abbrev pub ends_text : Point → Point → List ℕ
ends_text from to =
    joined (codes "x1='" ∷ decimal from.x ∷ codes "' y1='" ∷ decimal from.y
    ∷ codes "' x2='" ∷ decimal to.x ∷ codes "' y2='" ∷ decimal to.y ∷ codes "'" ∷ [])

-- the anchor of a text and its size, and where it stands with them
abbrev pub font_text : Anchor → ℕ → List ℕ
font_text anchor size = joined (codes "text-anchor='" ∷ anchor_name anchor ∷ codes "' font-size='" ∷ decimal size ∷ codes "'" ∷ [])

abbrev pub spot_text : Spot → List ℕ
spot_text s = joined (codes "x='" ∷ decimal s.at.x ∷ codes "' y='" ∷ decimal s.at.y ∷ codes "' dy='0.35em' " ∷ font_text s.anchor s.size ∷ [])

-- two coordinates on a path
abbrev pub step_text : ℕ → ℕ → List ℕ
step_text x y = joined (decimal x ∷ codes " " ∷ decimal y ∷ [])

-- the elements, some of them drawn by attributes that are given
abbrev pub line_text : Point → Point → List ℕ → List ℕ
line_text from to drawn = joined (codes "<line " ∷ ends_text from to ∷ codes " " ∷ drawn ∷ codes "/>\n" ∷ [])

abbrev pub curve_text : Point → Point → ℕ → List ℕ → List ℕ
curve_text from to bend drawn =
    joined (codes "<path d='M " ∷ step_text from.x from.y ∷ codes " C " ∷ step_text bend from.y ∷ codes " " ∷ step_text bend to.y
    ∷ codes " " ∷ step_text to.x to.y ∷ codes "' " ∷ drawn ∷ codes "/>\n" ∷ [])

abbrev pub block_text : Point → ℕ → ℕ → Colour → List ℕ
block_text corner width height colour =
    joined (codes "<rect x='" ∷ decimal corner.x ∷ codes "' y='" ∷ decimal corner.y
    ∷ codes "' width='" ∷ decimal width ∷ codes "' height='" ∷ decimal height
    ∷ codes "' fill='" ∷ colour_code colour ∷ codes "'/>\n" ∷ [])

abbrev pub cross_text : Point → List ℕ
cross_text at =
    joined (codes "<path d='M " ∷ step_text at.x at.y ∷ codes " m -4 -4 l 8 8 m 0 -8 l -8 8' fill='none' stroke='#222222' stroke-width='2'/>\n" ∷ [])

abbrev pub ring_text : Point → List ℕ
ring_text at =
    joined (codes "<circle cx='" ∷ decimal at.x ∷ codes "' cy='" ∷ decimal at.y
    ∷ codes "' r='3' fill='#ffffff' stroke='#222222'/>\n" ∷ [])

abbrev pub written_text : Spot → List ℕ → List ℕ → List ℕ
written_text spot said drawn = joined (codes "<text " ∷ spot_text spot ∷ codes " " ∷ drawn ∷ codes ">" ∷ said ∷ codes "</text>\n" ∷ [])

-- the element of a shape whose labels say this
abbrev pub shape_text : {L : Type 0} → (L → List ℕ) → Shape L → List ℕ
shape_text said (Line from to colour) = line_text from to (joined (codes "stroke='" ∷ colour_code colour ∷ codes "'" ∷ []))
shape_text said (Arrow from to stroke) = line_text from to (stroke_text stroke)
shape_text said (Turn from to bend stroke) = curve_text from to bend (stroke_text stroke)
shape_text said (Block corner width height colour) = block_text corner width height colour
shape_text said (Cross at) = cross_text at
shape_text said (Ring at) = ring_text at
shape_text said (Text spot label) = written_text spot (said label) (codes "fill='#222222'")
shape_text said (Halo spot label) = written_text spot (said label) (codes "fill='#ffffff' stroke='#ffffff' stroke-width='3'")
