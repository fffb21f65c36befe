-- The theorem, at the laws that every record kind owes.
use Rattle.model.proofs.InTime.{moments_in_order}
use Rattle.model.proofs.log_keeps_time.Goals as goal

pub returns : goal.returns
returns g c v start opened run unforged =
    moments_in_order _ v start (record { numbered = g.met.K.Kind.numbered.1; kept = g.met.K.Kind.kept; exact = g.met.K.Kind.exact }) opened run unforged
