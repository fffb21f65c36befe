-- A sum over the lines of a log.
use Rattle.std.specs.Prelude.{ℕ, ◌+◌, ◌*◌, ◌%◌, ◌^◌, unwrap_or}
use Rattle.halls.specs.declared.operation.Operation.{Operation}

abbrev pub wrapped : ℕ → ℕ
wrapped n = n % 2 ^ 64

-- the sum with one more line: its two moments, and all of its pair but the writer
abbrev pub mixed : ℕ → Operation → ℕ
mixed sum op =
    wrapped (wrapped (wrapped (wrapped (wrapped (wrapped (sum * 31) + op.began) + unwrap_or op.ended 0) + op.pair.stamp.count) + op.pair.word.0) + op.pair.seal.0)
