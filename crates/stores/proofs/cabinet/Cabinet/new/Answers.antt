-- A number reads one of the 64 places, or lies past them.
use Rattle.std.proofs.Common.{replicate, ⊎_elim}
use Rattle.std.proofs.lemmas.Bool.{cases_lt}
use Rattle.std.proofs.lemmas.List.{get_or-replicate, get_or_past}
use Rattle.stores.proofs.cabinet.Cabinet.new.Goals as goal

pub returns : goal.returns
returns c n = ⊎_elim (get_or-replicate 64 n _ _) (get_or_past (replicate 64 _) n _) (cases_lt n 64)
