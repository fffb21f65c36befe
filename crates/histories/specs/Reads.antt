-- A read that begins after a write settled takes a stamp that is no lower.
use Rattle.std.specs.Prelude.{◌≡◌, ℕ, ◌≤◌, true, List, ◌++◌}
use Rattle.wire.specs.declared.entry.Entry.{Entry}
use Rattle.wire.specs.Sets.{member}
use Rattle.quorums.specs.Quorums.{Views, Sound, Quorum, Honest}
use Rattle.histories.specs.Places.{Posted}
use Rattle.histories.specs.Shapes.{PairEntry}
use Rattle.histories.specs.Histories.{Settled, Good}

-- replica q has answered a READ of epoch e by stamp m or a lower one
pub record Answered (h : List Entry) (q e m : ℕ) : Type 0 where
  pub stamp : ℕ
  pub low : stamp ≤ m
  pub pair : Posted (PairEntry q e stamp) h

-- the honest members of a quorum of epoch e have answered READs by no stamp above m
pub record Collected (v : Views) (h : List Entry) (e m : ℕ) : Type 0 where
  pub from : ℕ
  pub quorum : Quorum v e from
  pub answered : (q : ℕ) → member from q ≡ true → Honest v q → Answered h q e m

-- epoch e' and stamp m are no lower than epoch e and stamp t
pub record NoLower (e t e' m : ℕ) : Type 0 where
  pub epochs : e ≤ e'
  pub stamps : t ≤ m

-- Stamp t has settled in epoch e when the history is h. After that a quorum of epoch e' answers READs, by no stamp above m. Then e' and m are no lower.
abbrev pub LaterReadsSeeSettledWrites : Type 0
LaterReadsSeeSettledWrites =
    (v : Views) → Sound v → (h new : List Entry) → Good v (new ++ h)
    → (e t e' m : ℕ) → Settled v h e t → Collected v new e' m → NoLower e t e' m
