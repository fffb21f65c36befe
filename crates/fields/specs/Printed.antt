-- What is printed of a number is read back. Assumes nothing.
use Rattle.std.specs.Prelude.{◌≡◌, ℕ, suc, ◌+◌, ◌-◌, ◌*◌, ◌/◌, ◌%◌, ◌^◌, ◌<◌, ◌≤◌, true, false, cond, List, [], ◌∷◌, ◌++◌, ℤ, pos, negsuc, neg_ℤ, Some, None, decimal, Option}
use Rattle.std.specs.Option.{option_map}
use Rattle.std.specs.Fmt.{signed_decimal}
use Rattle.std.proofs.Common.{sym, refl, ap, ◌∙◌, eqb, get_or, arith}
use Rattle.std.proofs.lemmas.Fmt.{decimal_by_steps}
use Rattle.std.proofs.lemmas.Bool.{and_from, ne_eqb, le-leb, lt-ltb, ltb-true, cond-true, cond-false}
use Rattle.std.proofs.lemmas.Option.{none-some}
use Rattle.fields.specs.Numbers.{is_digit, read_on, numeral, kept, fits_u64, fits_i64, number_of, signed_of, NumberBack, SignedBack}

module _ (c : ℕ) (is : is_digit c ≡ true) where
  last_digit : (n k : ℕ) (cs : List ℕ) → read_on n cs ≡ Some k → read_on n (cs ++ c ∷ []) ≡ Some (k * 10 + (c - 48))
  last_digit n k [] e = let same : n ≡ k = cc in cond-true (is_digit c) _ _ is ∙ ap (λ m. Some (m * 10 + (c - 48))) same
  last_digit n k (d ∷ cs) e =
      let m = n * 10 + (d - 48) in
      elim (is_digit d) as (λ b. cond b (read_on m cs) None ≡ Some k → cond b (read_on m (cs ++ c ∷ [])) None ≡ Some (k * 10 + (c - 48)))
      [ true ↦ last_digit m k cs | false ↦ λ no. absurd (none-some k no) ] e

printed_digit : (d : ℕ) → d < 10 → is_digit (48 + d) ≡ true
printed_digit d h = and_from _ _ (le-leb 48 (48 + d) (omega arith)) (le-leb (48 + d) 57 (omega arith))

one_printed : (n : ℕ) → n < 10 → numeral ((48 + n) ∷ []) ≡ Some n
one_printed n h = cond-true (is_digit (48 + n)) _ _ (printed_digit n h) ∙ ap Some (omega arith)

more_printed : (n : ℕ) (ds : List ℕ) → 10 ≤ n → numeral ds ≡ Some (n / 10) → numeral (ds ++ ((48 + n % 10) ∷ [])) ≡ Some n
more_printed n [] h e = absurd (none-some (n / 10) e)
more_printed n (d ∷ ds) h e = last_digit (48 + n % 10) (printed_digit (n % 10) (omega arith)) 0 (n / 10) (d ∷ ds) e ∙ ap Some (omega arith)

-- what is printed of a number is a numeral of it
pub printed : (n : ℕ) → n < 2 ^ 64 → numeral (decimal n) ≡ Some n
printed = decimal_by_steps (λ n ds. numeral ds ≡ Some n) one_printed more_printed

pub number_back : (bs : List ℕ) (r : Option ℕ) → r ≡ number_of bs → NumberBack bs r
number_back bs r is n h e = is ∙ ap number_of e ∙ ap (kept fits_u64) (printed n h) ∙ cond-true (fits_u64 n) _ _ (lt-ltb n (2 ^ 64) h)

pub number_read_back : (n : ℕ) (text : List ℕ) → n < 2 ^ 64 → Some (decimal n) ≡ Some text → number_of text ≡ Some n
number_read_back n text h e = let same : text ≡ decimal n = cc in number_back text _ refl n h same

-- a numeral has no sign
no_sign : (bs : List ℕ) (n : ℕ) → numeral bs ≡ Some n → get_or bs 0 0 ≡ 45 → ⊥
no_sign [] n e is = none-some n e
no_sign (c ∷ cs) n e is = none-some n (sym (cond-false (is_digit c) _ _ (ap is_digit is)) ∙ e)

pub signed_back : (bs : List ℕ) (r : Option ℤ) → r ≡ signed_of bs → SignedBack bs r
signed_back bs r is (pos n) fits e =
    let small = ltb-true n (2 ^ 63) fits in
    let read = printed n (omega arith) in
    is ∙ ap signed_of e ∙ ap (kept fits_i64) (cond-false (eqb (get_or (decimal n) 0 0) 45) _ _ (ne_eqb _ 45 (no_sign (decimal n) n read)) ∙ ap (option_map pos) read) ∙ cond-true (fits_i64 (pos n)) _ _ fits
signed_back bs r is (negsuc n) fits e =
    let small = ltb-true n (2 ^ 63) fits in
    is ∙ ap signed_of e ∙ ap (λ o. kept fits_i64 (option_map (λ n. neg_ℤ (pos n)) o)) (printed (suc n) (omega arith)) ∙ cond-true (fits_i64 (negsuc n)) _ _ fits

pub signed_read_back : (z : ℤ) (text : List ℕ) → fits_i64 z ≡ true → Some (signed_decimal z) ≡ Some text → signed_of text ≡ Some z
signed_read_back z text h e = let same : text ≡ signed_decimal z = cc in signed_back text _ refl z h same
