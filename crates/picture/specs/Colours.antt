-- The colours of a picture, as an SVG names them.
use Rattle.std.specs.Prelude.{ℕ, List, codes}
use Rattle.picture.specs.declared.colour.Colour.{Colour}
use Rattle.picture.specs.declared.colour.Colour.TheVariants.{Ink, Grey, Faint, Green, PaleBlue, PaleOrange, PaleGreen, PalePink}

abbrev pub colour_code : Colour → List ℕ
colour_code Ink = codes "#222222"
colour_code Grey = codes "#666666"
colour_code Faint = codes "#e4e4e4"
colour_code Green = codes "#009e73"
colour_code PaleBlue = codes "#c3e3f6"
colour_code PaleOrange = codes "#f7dca3"
colour_code PaleGreen = codes "#b3e2d2"
colour_code PalePink = codes "#ecc9dd"
