-- What changing an element makes of the first n elements of a slice and of those behind them.
use Rattle.std.proofs.Common.{◌≡◌, ℕ, ◌<◌, true, ltb, List, length, take, drop, set, Ok, Result, arith, length-take, drop-set-lt, lt-ltb}
use lib.Seq.{take-set-lt}
use Rattle.lists.specs.Held.{Changed, replaced}

module _ {T : Type 0} (xs : List T) (n : ℕ) (item : T) where
  pub set_within : (place : ℕ) → place < length (take n xs) → ◌≡◌ {A = Changed (Result (Unit {0}) T) T} record { answer = Ok tt; list = take n (set xs place item); rest = drop n (set xs place item) } (replaced (take n xs) (drop n xs) place item)
  set_within place h =
      let lt : place < n = omega (arith, length-take n xs) in
      let e : ltb place (length (take n xs)) ≡ true = lt-ltb _ _ h in
      rw (e, take-set-lt, drop-set-lt)
