use Rattle.std.proofs.Common.{◌≡◌, ◌<◌, ◌∙◌, ap, ap₂, rules}
use Rattle.stores.specs.Saved.{Saved, saved}
use Rattle.model.specs.Runs.{first_card}
use Rattle.register.proofs.FirstCards.{none_saved, none_fewer, one_more, shelf_after}
use Rattle.register.proofs.open.save_first_cards.Goals as goal

pub loop-number-init : goal.loop-number-init
loop-number-init g c =
    let before = g.S.Store.shelf c.args.store.now in
    (none_saved c.args.rules.now before.place, none_fewer before.saves)

pub loop-number-preserved : goal.loop-number-preserved
loop-number-preserved g c =
    let before = g.S.Store.shelf c.args.store.now in
    let now = g.S.Store.shelf c.loop-number.store in
    let n = c.loop-number.number in
    let here : now ≡ shelf_after c.args.rules.now before n now.next =
    ap₂ (λ p s. record { place = p; saves = s; next = now.next }) c.loop-number.invariant.0 c.loop-number.invariant.1
    in
    let more : n < c.args.rules.now.replicas = search rules in
    let step = c.save_first_card.ensures ∙ (ap (λ s. saved s n (first_card c.args.rules.now n)) here ∙ one_more c.args.rules.now before n c.args.rules.now.replicas now.next c.requires.enough more) in
    (ap (λ (s : Saved). s.place) step, ap (λ (s : Saved). s.saves) step)
