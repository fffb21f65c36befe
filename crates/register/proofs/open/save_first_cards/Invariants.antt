use Rattle.std.proofs.Common.{◌≡◌}
use Rattle.register.specs.Openings.{fewer, with_first_cards}
use Rattle.register.proofs.open.save_first_cards.Given as goal

-- the first cards of the replicas below this number are saved
abbrev pub invariant-loop-number : goal.invariant-loop-number
invariant-loop-number g l =
    ((g.S.Store.shelf l.store).place ≡ with_first_cards l.rules (g.S.Store.shelf l.fn.store).place l.number)
    × ((g.S.Store.shelf l.store).saves ≡ fewer (g.S.Store.shelf l.fn.store).saves l.number)
