-- Sets of replicas as numbers: bit n of a set stands for replica n.
use Rattle.std.specs.Prelude.{◌≡◌, ℕ, ◌/◌, ◌%◌, ◌^◌, Bool, ◌||◌, ◌==◌, bit_or}

unfoldable pub member : ℕ → ℕ → Bool
member set n = (set / 2 ^ n % 2) == 1

unfoldable pub inserted : ℕ → ℕ → ℕ
inserted set n = bit_or set (2 ^ n)

-- the new set has n and what was in the old one, and nothing else
abbrev pub Added : ℕ → ℕ → ℕ → Type 0
Added set n new = (m : ℕ) → member new m ≡ (m == n || member set m)
