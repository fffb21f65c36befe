use Rattle.std.proofs.Common.{◌≡◌, ◌++◌, drop, map}
use Rattle.stores.specs.Cabinets.{kept}
use Rattle.charts.specs.Looks.{move_in}
use Rattle.charts.proofs.look.moves.Given as goal

-- what is there, and the moves of the parties that are left
abbrev pub invariant-loop-stay : goal.invariant-loop-stay
invariant-loop-stay l = l.moves.items ++ map (move_in l.roll l.seats (kept l.store)) (drop l.stay-index l.stays) ≡ map (move_in l.roll l.seats (kept l.store)) l.stays
