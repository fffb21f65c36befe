-- The bytes of a number, as `to_le_bytes` gives them, and of the two numbers of a text. Assumes nothing.
use Rattle.std.proofs.Common.{◌≡◌, ℕ, zero, suc, ◌/◌, ◌%◌, ◌^◌, ◌<◌, List, [], ◌∷◌, ◌++◌, get_or, take, drop, sym, ap, arith}
use native.Mathlib.Nat.{pow-zero, pow-succ'}
use Rattle.wire.specs.declared.text.Text.{Text}
use Rattle.wire.specs.Texts.{le, text_bytes, Fitting}

pub le_4 : (n : ℕ) → le 4 n ≡ (n % 256) ∷ (n / 256 % 256) ∷ (n / 65536 % 256) ∷ (n / 16777216 % 256) ∷ []
le_4 n =
    let a : n / 256 / 256 ≡ n / 65536 = omega arith in
    let b : n / 256 / 256 / 256 ≡ n / 16777216 = omega arith in
    λ i. (n % 256) ∷ (n / 256 % 256) ∷ (a i % 256) ∷ (b i % 256) ∷ []

pub le_8 : (n : ℕ) → le 8 n ≡ (n % 256) ∷ (n / 256 % 256) ∷ (n / 65536 % 256) ∷ (n / 16777216 % 256) ∷ (n / 4294967296 % 256) ∷ (n / 1099511627776 % 256) ∷ (n / 281474976710656 % 256) ∷ (n / 72057594037927936 % 256) ∷ []
le_8 n =
    let a : n / 256 / 256 ≡ n / 65536 = omega arith in
    let b : n / 256 / 256 / 256 ≡ n / 16777216 = omega arith in
    let c : n / 256 / 256 / 256 / 256 ≡ n / 4294967296 = omega arith in
    let d : n / 256 / 256 / 256 / 256 / 256 ≡ n / 1099511627776 = omega arith in
    let e : n / 256 / 256 / 256 / 256 / 256 / 256 ≡ n / 281474976710656 = omega arith in
    let f : n / 256 / 256 / 256 / 256 / 256 / 256 / 256 ≡ n / 72057594037927936 = omega arith in
    λ i. (n % 256) ∷ (n / 256 % 256) ∷ (a i % 256) ∷ (b i % 256) ∷ (c i % 256) ∷ (d i % 256) ∷ (e i % 256) ∷ (f i % 256) ∷ []

-- xs and ys are the bytes of m and n, of which each is read by its place
pub twelve : (tag party m n : ℕ) (xs ys : List ℕ) → le 4 m ≡ xs → le 8 n ≡ ys → tag ∷ party ∷ get_or xs 0 0 ∷ get_or xs 1 0 ∷ get_or xs 2 0 ∷ get_or xs 3 0 ∷ get_or ys 0 0 ∷ get_or ys 1 0 ∷ get_or ys 2 0 ∷ get_or ys 3 0 ∷ get_or ys 4 0 ∷ get_or ys 5 0 ∷ get_or ys 6 0 ∷ get_or ys 7 0 ∷ [] ≡ tag ∷ party ∷ (le 4 m ++ le 8 n)
twelve tag party m n xs ys p q = λ i. tag ∷ party ∷ get_or (sym p i) 0 0 ∷ get_or (sym p i) 1 0 ∷ get_or (sym p i) 2 0 ∷ get_or (sym p i) 3 0 ∷ get_or (sym q i) 0 0 ∷ get_or (sym q i) 1 0 ∷ get_or (sym q i) 2 0 ∷ get_or (sym q i) 3 0 ∷ get_or (sym q i) 4 0 ∷ get_or (sym q i) 5 0 ∷ get_or (sym q i) 6 0 ∷ get_or (sym q i) 7 0 ∷ []

-- equal bytes are those of one number, if it has no more bytes than these
pub le_same : (k m n : ℕ) → m < 256 ^ k → n < 256 ^ k → le k m ≡ le k n → m ≡ n
le_same zero m n a b e = omega (arith, pow-zero 256)
le_same (suc k) m n a b e =
    let low = ap (λ l. get_or l 0 0) e in
    let high = le_same k (m / 256) (n / 256) (omega (arith, pow-succ' 256 k)) (omega (arith, pow-succ' 256 k)) (ap (drop 1) e) in
    omega arith

-- the text of 14 bytes is told by them
pub text_same : (t u : Text) → Fitting t → Fitting u → text_bytes t ≡ text_bytes u → t ≡ u
text_same t u f g e =
    let tag = ap (λ l. get_or l 0 0) e in
    let party = ap (λ l. get_or l 1 0) e in
    let number = le_same 4 t.number u.number f.number g.number (ap (λ l. take 4 (drop 2 l)) e) in
    let body = le_same 8 t.body u.body f.body g.body (ap (drop 6) e) in
    λ i. record { tag = tag i; party = party i; number = number i; body = body i }
