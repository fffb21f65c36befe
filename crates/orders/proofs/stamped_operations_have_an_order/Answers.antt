-- The theorem itself.
use Rattle.orders.proofs.Theorem.{stamped_operations_have_an_order}
use Rattle.orders.proofs.stamped_operations_have_an_order.Goals as goal

pub returns : goal.returns
returns c = stamped_operations_have_an_order
