use Rattle.std.proofs.Common.{◌≡◌, ◌++◌, drop, string_bytes}
use Rattle.picture.specs.Pictures.{head_text, elements}
use Rattle.picture.proofs.svg.svg_of.Given as goal

-- what is written, and the elements of the shapes that are left, make up the picture but for its end
abbrev pub invariant-loop-shape : goal.invariant-loop-shape
invariant-loop-shape g l = string_bytes l.out ++ elements g.L.Label.said (drop l.shape-index l.shapes) ≡ head_text l.width l.height ++ elements g.L.Label.said l.shapes
