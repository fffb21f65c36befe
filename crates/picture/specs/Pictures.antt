-- The text of a picture: an SVG of its shapes.
use Rattle.std.specs.Prelude.{ℕ, List, [], ◌∷◌, ◌++◌, codes, decimal}
use Rattle.picture.specs.declared.shape.Shape.{Shape}
use Rattle.picture.specs.Shapes.{joined, shape_text}

-- the heads of arrows, one for each stroke
unfoldable pub heads_text : List ℕ
heads_text = codes "<defs>\n<marker id='whole' viewBox='0 0 10 10' refX='10' refY='5' markerWidth='9' markerHeight='9' orient='auto'><path d='M 0 1 L 10 5 L 0 9 z' fill='#0072b2'/></marker>\n<marker id='dashed' viewBox='0 0 10 10' refX='10' refY='5' markerWidth='9' markerHeight='9' orient='auto'><path d='M 0 1 L 10 5 L 0 9 z' fill='#d55e00'/></marker>\n</defs>\n"

abbrev pub size_text : ℕ → ℕ → List ℕ
size_text width height = joined (codes "width='" ∷ decimal width ∷ codes "' height='" ∷ decimal height ∷ codes "'" ∷ [])

abbrev pub root_text : ℕ → ℕ → List ℕ
root_text width height =
    joined (codes "<svg xmlns='http://www.w3.org/2000/svg' version='1.1' " ∷ size_text width height ∷ codes " font-family='sans-serif'>\n" ∷ [])

-- what stands before the shapes: the root, the heads of arrows, and the paper
abbrev pub head_text : ℕ → ℕ → List ℕ
head_text width height = joined (root_text width height ∷ heads_text ∷ codes "<rect " ∷ size_text width height ∷ codes " fill='#ffffff'/>\n" ∷ [])

-- the elements of these shapes, one behind the other
abbrev pub elements : {L : Type 0} → (L → List ℕ) → List (Shape L) → List ℕ
elements said [] = []
elements said (x ∷ xs) = shape_text said x ++ elements said xs

abbrev pub picture_text : {L : Type 0} → (L → List ℕ) → ℕ → ℕ → List (Shape L) → List ℕ
picture_text said width height shapes = head_text width height ++ (elements said shapes ++ codes "</svg>\n")
