-- The replica sets of epochs, quorums of them, and that quorums meet. A set of replicas is a number, of which bit n stands for replica n.
use Rattle.std.specs.Prelude.{◌≡◌, ℕ, ◌+◌, ◌*◌, ◌<◌, ◌≤◌, true, false, bit_and, count_ones}
use Rattle.wire.specs.Sets.{member}

-- every member of a is a member of b
pub record Within (a b : ℕ) : Type 0 where
  pub each : (n : ℕ) → member a n ≡ true → member b n ≡ true

-- the epochs that were issued, numbered from 0, with the replica set of each; how many of a set may be faulty; and the replicas that may lie
pub record Views : Type 0 where
  pub faults : ℕ
  pub issued : ℕ
  pub set : ℕ → ℕ
  pub marked : ℕ

-- with f faults, each set has 3 f + 1 replicas, and at most f of them may lie
pub record Sound (v : Views) : Type 0 where
  pub sized : (e : ℕ) → e < v.issued → count_ones (v.set e) ≡ 3 * v.faults + 1
  pub few : (e : ℕ) → e < v.issued → count_ones (bit_and (v.set e) v.marked) ≤ v.faults

-- a has 2 f + 1 replicas or more, all from the set of epoch e
pub record Quorum (v : Views) (e a : ℕ) : Type 0 where
  pub issued : e < v.issued
  pub within : Within a (v.set e)
  pub large : 2 * v.faults + 1 ≤ count_ones a

-- w has the epochs of v, and perhaps more; the same replicas may lie
pub record Extends (v w : Views) : Type 0 where
  pub faults : w.faults ≡ v.faults
  pub marked : w.marked ≡ v.marked
  pub issued : v.issued ≤ w.issued
  pub sets : (e : ℕ) → e < v.issued → w.set e ≡ v.set e

-- replica n does not lie
pub record Honest (v : Views) (n : ℕ) : Type 0 where
  pub unmarked : member v.marked n ≡ false

-- an honest replica that is in a and in b
pub record Shared (v : Views) (a b : ℕ) : Type 0 where
  pub replica : ℕ
  pub first : member a replica ≡ true
  pub second : member b replica ≡ true
  pub honest : Honest v replica

-- any two quorums of one epoch share an honest replica
abbrev pub QuorumsMeet : Type 0
QuorumsMeet = (v : Views) → Sound v → (e a b : ℕ) → Quorum v e a → Quorum v e b → Shared v a b
