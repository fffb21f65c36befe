-- A table that takes one more item only where there is room.
use Rattle.std.specs.Prelude.{cond}
use Rattle.model.specs.Tables.{Table, is_full, added}

-- the table with one more behind the list, if there is room
abbrev pub grown : {T : Type 0} → Table T → T → Table T
grown t x = cond (is_full t) t (added t x)
