-- The records of bytes: runs of as many bytes, one behind the other. Assumes nothing.
use Rattle.std.proofs.Common.{◌≡◌, ℕ, zero, suc, ◌-◌, ◌*◌, ◌/◌, ◌%◌, ◌≤◌, not, eqb, ltb, List, [], ◌∷◌, ◌++◌, length, take, drop, position, Option, sym, refl, ap, ◌∙◌, arith, find, reverse, get_or, slice_get, Bool, true, false, None, Some, ◌<◌, length-drop, take-append-drop}
use Rattle.std.proofs.lemmas.Bool.{cond-true, cond-false, eq-eqb, le-ltb}
use Rattle.std.specs.List.{slice_range, position_or_len}
use Rattle.std.specs.Option.{MatchOption, option_and_then}
use Rattle.std.specs.Simd.{first_chunks}
use Rattle.std.proofs.lemmas.List.{take_at, take-append-le, drop-append-le, length-take-le, length-reverse, get_or-reverse}
use Rattle.std.proofs.lemmas.List.Folds.{find_at}
use Rattle.std.proofs.lemmas.List.Sums.{position_or_len_is}
use Rattle.std.proofs.lemmas.Option.{slice_get_past, slice_get-get_or}
use Rattle.tapes.specs.Records.{marked}
use Rattle.tapes.specs.Tapes.{damaged, inspected}

-- the runs that lie in the front
pub chunks_front : (n k : ℕ) (xs ys : List ℕ) → k * n ≤ length xs → first_chunks n k (xs ++ ys) ≡ first_chunks n k xs
chunks_front n zero xs ys h = refl
chunks_front n (suc k) xs ys h =
    let first : n ≤ length xs = omega arith in
    let rest : k * n ≤ length (drop n xs) = omega (arith, length-drop n xs) in
    λ i. take-append-le n xs ys first i ∷ (ap (first_chunks n k) (drop-append-le n xs ys first) ∙ chunks_front n k (drop n xs) ys rest) i

-- a run behind the others
pub chunks_more : (n k : ℕ) (xs run ys : List ℕ) → length xs ≡ k * n → length run ≡ n → first_chunks n (suc k) (xs ++ (run ++ ys)) ≡ first_chunks n k xs ++ run ∷ []
chunks_more n zero [] run ys h l = ap (λ r. r ∷ []) (take_at run ys n l)
chunks_more n zero (x ∷ xs) run ys h l = absurd (omega arith)
chunks_more n (suc k) xs run ys h l =
    let first : n ≤ length xs = omega arith in
    let rest : length (drop n xs) ≡ k * n = omega (arith, length-drop n xs) in
    λ i. take-append-le n xs (run ++ ys) first i ∷ (ap (first_chunks n (suc k)) (drop-append-le n xs (run ++ ys) first) ∙ chunks_more n k (drop n xs) run ys rest l) i

-- the runs of the first m elements
pub chunks_taken : (m : ℕ) (xs : List ℕ) → m ≤ length xs → first_chunks 72 (length (take m xs) / 72) (take m xs) ≡ first_chunks 72 (m / 72) xs
chunks_taken m xs h =
    let long = length-take-le m xs h in
    let low : m / 72 * 72 ≤ length (take m xs) = omega (arith, long) in
    ap (λ n. first_chunks 72 (n / 72) (take m xs)) long
    ∙ sym (chunks_front 72 (m / 72) (take m xs) (drop m xs) low)
    ∙ ap (first_chunks 72 (m / 72)) (take-append-drop m xs)

-- what an inspection of whole records within the bytes answers
pub inspected_by : (xs part : List ℕ) (rs : List (List ℕ)) (used : ℕ) (o : Option ℕ) → used ≤ length xs → used % 72 ≡ 0 → part ≡ slice_range xs 0 used → rs ≡ first_chunks 72 (length part / 72) part → o ≡ position (λ r. not (marked r)) rs → damaged o ≡ inspected xs used
inspected_by xs part rs used o low even is records found =
    let whole : used - 0 ≡ used = omega arith in
    ap damaged (found ∙ ap (position (λ r. not (marked r))) (records ∙ ap (λ l. first_chunks 72 (length l / 72) l) (is ∙ ap (λ n. take n xs) whole) ∙ chunks_taken used xs low))
    ∙ sym (cond-true (eqb (used % 72) 0) _ _ (eq-eqb (used % 72) 0 even))
    ∙ sym (cond-false (ltb (length xs) used) _ _ (le-ltb (length xs) used low))

-- what a search from the back finds, by the place at which it stops
pub last_by : (p : List ℕ → Bool) (rs : List (List ℕ)) (o : Option ℕ) →
    MatchOption o ((k : ℕ) → k < length rs → p (get_or rs k []) ≡ false)
    (λ i. (i < length rs) × (p (get_or rs i []) ≡ true) × ((k : ℕ) → i < k → k < length rs → p (get_or rs k []) ≡ false))
    → option_and_then (slice_get rs) o ≡ find p (reverse rs)
last_by p rs None h =
    let back = reverse rs in
    let long : length back ≡ length rs = length-reverse rs in
    let fails : (k : ℕ) → k < length back → p (get_or back k []) ≡ false =
    λ k below. let inside : k < length rs = omega arith in ap p (get_or-reverse rs k [] inside) ∙ h (length rs - 1 - k) (omega arith) in
    let stops : position_or_len p back ≡ length back = position_or_len_is p back (length back) [] (omega arith) fails (λ below. absurd (omega arith)) in
    sym (find_at p back ∙ slice_get_past back (position_or_len p back) (omega arith))
last_by p rs (Some i) h =
    let back = reverse rs in
    let long : length back ≡ length rs = length-reverse rs in
    let j = length rs - 1 - i in
    let within : i < length rs = h.0 in
    let below_j : j < length rs = omega arith in
    let again : length rs - 1 - j ≡ i = omega arith in
    let same : get_or back j [] ≡ get_or rs i [] = get_or-reverse rs j [] below_j ∙ ap (λ k. get_or rs k []) again in
    let fails : (k : ℕ) → k < j → p (get_or back k []) ≡ false =
    λ k below. let inside : k < length rs = omega arith in ap p (get_or-reverse rs k [] inside) ∙ h.2 (length rs - 1 - k) (omega arith) (omega arith) in
    let stops : position_or_len p back ≡ j = position_or_len_is p back j [] (omega arith) fails (λ below. ap p same ∙ h.1) in
    sym (find_at p back ∙ ap (slice_get back) stops ∙ slice_get-get_or back j [] (omega arith) ∙ ap Some same ∙ sym (slice_get-get_or rs i [] within))
