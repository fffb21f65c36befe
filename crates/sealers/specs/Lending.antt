-- The row that a keyed sealer lends, to be changed.
use Rattle.std.specs.Prelude.{ℕ}
use Rattle.std.specs.Borrow.{Lends, MutBor, Fml}
use Rattle.std.specs.Vec.{with_item}
use Rattle.sealers.specs.declared.keyed.Keyed.{Keyed}
use Rattle.sealers.specs.declared.keyed.KeyRow.{KeyRow}
use Rattle.sealers.specs.contracts.keyed.Keyed.{the_row as keyed_type}
use Rattle.sealers.specs.contracts.keyed.KeyRow.{the_row as row_type}

-- a sealer with this row at a place
abbrev pub with_row : Keyed → ℕ → KeyRow → Keyed
with_row k place row = record { rows = with_item k.rows place row }

-- the sealer ends with what is left in the row at this place
abbrev pub LendsRow : MutBor Keyed → ℕ → MutBor KeyRow → Fml
LendsRow k place row = Lends keyed_type row_type k row (with_row k.now place)
