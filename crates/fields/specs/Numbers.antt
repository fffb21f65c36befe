-- The numbers that bytes write in decimal digits.
use Rattle.std.specs.Prelude.{◌≡◌, ℕ, ◌+◌, ◌-◌, ◌*◌, ◌^◌, ◌<◌, Bool, true, cond, ◌&&◌, List, [], ◌∷◌, drop, ℤ, pos, negsuc, neg_ℤ, Some, None, decimal, Option, ◌==◌, nat_le, nat_lt, slice_index}
use Rattle.std.specs.Option.{option_map}
use Rattle.std.specs.Fmt.{signed_decimal}

-- the bytes of the digits 0 to 9
abbrev pub is_digit : ℕ → Bool
is_digit c = nat_le 48 c && nat_le c 57

-- the number read on from n: each digit makes it ten times as much and adds its own value
abbrev pub read_on : ℕ → List ℕ → Option ℕ
read_on n [] = Some n
read_on n (c ∷ cs) = cond (is_digit c) (read_on (n * 10 + (c - 48)) cs) None

-- the number that digits write, however large; none where there is no digit, or another byte
abbrev pub numeral : List ℕ → Option ℕ
numeral [] = None
numeral (c ∷ cs) = read_on 0 (c ∷ cs)

-- a numeral with a minus sign in front, or without one
abbrev pub signed_numeral : List ℕ → Option ℤ
signed_numeral bs = cond (slice_index bs 0 == 45) (option_map (λ n. neg_ℤ (pos n)) (numeral (drop 1 bs))) (option_map pos (numeral bs))

-- the value, if there is one and it passes the test
abbrev pub kept : {A : Type 0} → (A → Bool) → Option A → Option A
kept test None = None
kept test (Some x) = cond (test x) (Some x) None

-- below 2^64
abbrev pub fits_u64 : ℕ → Bool
fits_u64 n = nat_lt n (2 ^ 64)

-- from -2^63 to 2^63 - 1
abbrev pub fits_i64 : ℤ → Bool
fits_i64 (pos n) = nat_lt n (2 ^ 63)
fits_i64 (negsuc n) = nat_lt n (2 ^ 63)

-- n with one more digit behind it, if c is a digit and the number fits
abbrev pub digit_more : ℕ → ℕ → Option ℕ
digit_more n c = cond (is_digit c) (kept fits_u64 (Some (n * 10 + (c - 48)))) None

-- the number that a field writes, if it fits
abbrev pub number_of : List ℕ → Option ℕ
number_of bs = kept fits_u64 (numeral bs)

-- the same with a minus sign in front, or without one
abbrev pub signed_of : List ℕ → Option ℤ
signed_of bs = kept fits_i64 (signed_numeral bs)

-- where bs is what is printed of a number, r is that number
abbrev pub NumberBack : List ℕ → Option ℕ → Type 0
NumberBack bs r = (n : ℕ) → n < 2 ^ 64 → bs ≡ decimal n → r ≡ Some n

-- the same of a number with a sign
abbrev pub SignedBack : List ℕ → Option ℤ → Type 0
SignedBack bs r = (z : ℤ) → fits_i64 z ≡ true → bs ≡ signed_decimal z → r ≡ Some z
