-- The number that bytes write, byte by byte and part by part. Assumes nothing.
use Rattle.std.proofs.Common.{◌≡◌, ℕ, zero, suc, ◌+◌, ◌-◌, ◌*◌, ◌/◌, ◌%◌, ◌^◌, ◌<◌, ◌≤◌, List, [], ◌∷◌, ◌++◌, length, get_or, take, drop, replicate, sym, refl, ap, ◌∙◌, arith}
use Rattle.std.proofs.lemmas.List.{drop_all, get_or-take, get_or-drop, drop-drop}
use Rattle.std.proofs.lemmas.Nat.{shr-shr}
use Rattle.siphash.specs.Words.{little, behind}

-- one byte on
at : (xs : List ℕ) (k : ℕ) → little (drop k xs) ≡ get_or xs k 0 + 256 * little (drop (suc k) xs)
unfolding little
at [] zero = refl
at [] (suc k) = refl
at (x ∷ xs) zero = refl
at (x ∷ xs) (suc k) = at xs k

past : (n : ℕ) (xs : List ℕ) → length xs ≤ n → little (drop n xs) ≡ 0
unfolding little
past n xs h = ap little (drop_all n xs h)

pub little_0 : (xs : List ℕ) → length xs ≡ 0 → little xs ≡ 0
little_0 xs e = past 0 xs (omega arith)

pub little_1 : (xs : List ℕ) → length xs ≡ 1 → little xs ≡ get_or xs 0 0
little_1 xs e = omega (arith, at xs 0, past 1 xs (omega arith))

pub little_2 : (xs : List ℕ) → length xs ≡ 2 → little xs ≡ get_or xs 0 0 + get_or xs 1 0 * 256
little_2 xs e = omega (arith, at xs 0, at xs 1, past 2 xs (omega arith))

pub little_3 : (xs : List ℕ) → length xs ≡ 3 → little xs ≡ get_or xs 0 0 + get_or xs 1 0 * 256 + get_or xs 2 0 * 65536
little_3 xs e = omega (arith, at xs 0, at xs 1, at xs 2, past 3 xs (omega arith))

-- four bytes, and the others behind them
pub little_four : (xs front back : List ℕ) (n : ℕ) → front ≡ take 4 xs → back ≡ drop 4 xs → n ≡ get_or front 0 0 + get_or front 1 0 * 256 + get_or front 2 0 * 65536 + get_or front 3 0 * 16777216 → little xs ≡ n + 4294967296 * little back
little_four xs front back n e b is =
    omega (
      arith,
      at xs 0,
      at xs 1,
      at xs 2,
      at xs 3,
      ap little b,
      byte 0 (omega arith),
      byte 1 (omega arith),
      byte 2 (omega arith),
      byte 3 (omega arith),
    )
  where
    byte : (k : ℕ) → k < 4 → get_or front k 0 ≡ get_or xs k 0
    byte k h = ap (λ l. get_or l k 0) e ∙ get_or-take 4 xs k 0 h

pub little_8 : (xs : List ℕ) → length xs ≤ 8 → little xs ≡ get_or xs 0 0 + get_or xs 1 0 * 256 + get_or xs 2 0 * 65536 + get_or xs 3 0 * 16777216 + get_or xs 4 0 * 4294967296 + get_or xs 5 0 * 1099511627776 + get_or xs 6 0 * 281474976710656 + get_or xs 7 0 * 72057594037927936
little_8 xs h = omega (arith, at xs 0, at xs 1, at xs 2, at xs 3, at xs 4, at xs 5, at xs 6, at xs 7, past 8 xs h)

all_zeros : (n k : ℕ) → little (drop n (replicate k 0)) ≡ 0
unfolding little
all_zeros zero zero = refl
all_zeros zero (suc k) = omega (arith, all_zeros zero k)
all_zeros (suc n) zero = refl
all_zeros (suc n) (suc k) = all_zeros n k

-- zeros behind bytes alter nothing
pub little_zeros : (xs : List ℕ) (n k : ℕ) → little (xs ++ drop n (replicate k 0)) ≡ little xs
unfolding little
little_zeros [] n k = all_zeros n k
little_zeros (x ∷ xs) n k = ap (λ m. x + 256 * m) (little_zeros xs n k)

-- the number x, n bytes up
abbrev up : ℕ → ℕ → ℕ
up zero x = x
up (suc n) x = 256 * up n x

zeros : (k x : ℕ) → little (replicate k 0 ++ (x ∷ [])) ≡ up k x
unfolding little
zeros zero x = omega arith
zeros (suc k) x = omega (arith, zeros k x)

ends : (xs : List ℕ) (k x n : ℕ) → length xs + k ≡ n → little (xs ++ (replicate k 0 ++ (x ∷ []))) ≡ little xs + up n x
unfolding little
ends [] k x n e = let same : k ≡ n = omega arith in omega (arith, zeros k x, ap (λ i. up i x) same)
ends (y ∷ ys) k x zero e = absurd (omega arith)
ends (y ∷ ys) k x (suc n) e = omega (arith, ends ys k x n (omega arith))

-- bytes, then zeros, then the eighth byte
pub little_end : (xs : List ℕ) (k x : ℕ) → length xs + k ≡ 7 → little (xs ++ (replicate k 0 ++ (x ∷ []))) ≡ little xs + x * 2 ^ 56
little_end xs k x e = omega (arith, ends xs k x 7 e)

-- without the low j bytes
shifted : (j : ℕ) (xs : List ℕ) → ((i : ℕ) → get_or xs i 0 < 256) → little xs / 2 ^ (8 * j) ≡ little (drop j xs)
shifted zero xs fit = omega arith
shifted (suc j) xs fit =
    let one : little xs / 2 ^ 8 ≡ little (drop 1 xs) = omega (arith, at xs 0, fit 0) in
    let more : 8 * suc j ≡ 8 + 8 * j = omega arith in
    let next : 1 + j ≡ suc j = omega arith in
    ap (λ k. little xs / 2 ^ k) more
    ∙ sym (shr-shr (little xs) 8 (8 * j))
    ∙ ap (λ n. n / 2 ^ (8 * j)) one
    ∙ shifted j (drop 1 xs) (λ i. omega (arith, fit (1 + i), get_or-drop 1 xs i 0))
    ∙ ap little (drop-drop j 1 xs ∙ ap (λ k. drop k xs) next)

-- the last eight bytes give those behind the whole blocks
pub little_behind : (bs eight : List ℕ) (x : ℕ) → 8 ≤ length bs → ((i : ℕ) → get_or bs i 0 < 256) → eight ≡ drop (length bs - 8) bs → x ≡ little eight → x / 2 ^ 8 / 2 ^ (56 - 8 * (length bs % 8)) ≡ little (behind bs)
little_behind bs eight x long fit same is =
    let n = length bs - 8 in
    let j = 8 - length bs % 8 in
    let bits : 8 + (56 - 8 * (length bs % 8)) ≡ 8 * j = omega arith in
    let all : n + j ≡ length bs / 8 * 8 = omega arith in
    shr-shr x 8 (56 - 8 * (length bs % 8))
    ∙ ap (λ k. x / 2 ^ k) bits
    ∙ ap (λ y. y / 2 ^ (8 * j)) (is ∙ ap little same)
    ∙ shifted j (drop n bs) (λ i. omega (arith, fit (n + i), get_or-drop n bs i 0))
    ∙ ap little (drop-drop j n bs ∙ ap (λ k. drop k bs) all)
