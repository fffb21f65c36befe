-- How calls are counted.
use Rattle.std.specs.Prelude.{ℕ, ◌+◌, min}

-- so many more, up to the largest number of 64 bits
abbrev pub more : ℕ → ℕ → ℕ
more n m = min (n + m) 18446744073709551615
