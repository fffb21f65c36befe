-- The theorem, at the laws that every record kind owes.
use Rattle.model.proofs.Linear.{linearizable}
use Rattle.model.proofs.operations_stand_in_one_order.Goals as goal

pub returns : goal.returns
returns g c v start opened run unforged =
    linearizable _ v start (record { numbered = g.met.K.Kind.numbered.1; kept = g.met.K.Kind.kept; exact = g.met.K.Kind.exact }) opened run unforged
