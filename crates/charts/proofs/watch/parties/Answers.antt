-- One number more is looked at.
use Rattle.std.proofs.Common.{◌≡◌, ℕ, ◌+◌, [], ◌∷◌, ◌++◌, refl, sym, ap, ◌∙◌, rules, add-one, append-nil}
use Rattle.wire.specs.Parties.{party_of}
use Rattle.charts.specs.declared.layout.Layout.{Layout}
use Rattle.charts.specs.Watches.{as_list, with_lane, parties_below}
use Rattle.charts.proofs.watch.parties.Goals as goal
use Rattle.charts.proofs.watch.parties.Goals.{in-Some+in_ok-push, in_default}

one_more : (l : Layout) (n : ℕ) → parties_below l (n + 1) ≡ parties_below l n ++ with_lane l (party_of n)
unfolding parties_below
one_more l n = rw add-one refl

pub loop-number-init : goal.loop-number-init
unfolding parties_below
loop-number-init c = search rules

pub loop-number-preserved : goal.loop-number-preserved
loop-number-preserved c =
    let known = parties_below c.args.layout c.loop-number.number in
    let more = one_more c.args.layout c.loop-number.number in
    elim c.match-with_lane.branch [
      | in-Some+in_ok-push w ↦
          let lane : (w.in-Some.party ∷ []) ≡ with_lane c.args.layout (party_of c.loop-number.number) = sym (ap as_list w.in-Some.is) ∙ c.with_lane.ensures in
          (λ i. (w.parties-is i).items) ∙ w.in_ok-push.ensures.items ∙ (λ i. c.loop-number.invariant i ++ lane i) ∙ sym more
      | in_default w ↦
          let lane : [] ≡ with_lane c.args.layout (party_of c.loop-number.number) = sym (ap as_list w.in_default.is) ∙ c.with_lane.ensures in
          (λ i. (w.parties-is i).items) ∙ c.loop-number.invariant ∙ sym (append-nil known) ∙ (λ i. known ++ lane i) ∙ sym more
    ]
