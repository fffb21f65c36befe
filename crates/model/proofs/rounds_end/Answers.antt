-- The theorem, at the laws that every record kind owes.
use Rattle.model.proofs.Responding.{responsive}
use Rattle.model.proofs.rounds_end.Goals as goal

pub returns : goal.returns
returns g c v start opened run unforged =
    responsive _ v start (record { numbered = g.met.K.Kind.numbered.1; kept = g.met.K.Kind.kept; exact = g.met.K.Kind.exact }) opened run unforged
