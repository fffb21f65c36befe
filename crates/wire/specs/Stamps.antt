-- The order of stamps: counts compare first, then writers.
use Rattle.std.specs.Prelude.{Bool, cond, ◌==◌, nat_lt}
use Rattle.wire.specs.declared.pair.Stamp.{Stamp}

-- s is higher than t
abbrev pub above : Stamp → Stamp → Bool
above s t = cond (s.count == t.count) (nat_lt t.writer s.writer) (nat_lt t.count s.count)
