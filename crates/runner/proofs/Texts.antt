-- A text up to its last line feed, from its end. Assumes nothing.
use Rattle.std.proofs.Common.{◌≡◌, ℕ, suc, ◌+◌, ◌-◌, ◌<◌, ◌≤◌, Bool, true, false, eqb, ltb, List, [], ◌∷◌, ◌++◌, length, length-append, length-take-le, take, min, ◌⊎◌, inl, inr, get_or, refl, sym, ap, ◌∙◌, subst, arith}
use Rattle.std.proofs.lemmas.Bool.{cond-false, cond_both, ne_eqb, cases_lt}
use Rattle.std.proofs.Math.Seq.{take-suc}
use Rattle.std.proofs.lemmas.List.{take_all}
use Rattle.fields.specs.Parts.{lines}
use Rattle.fields.proofs.Counting.{lines_few}
use Rattle.runner.specs.Texts.{limit, kept_by, to_last_feed, whole, left_out as lines_out, script_lines, Numbered, Countable}

keeps : (xs : List ℕ) → to_last_feed (xs ++ (10 ∷ [])) ≡ xs ++ (10 ∷ [])
keeps [] = refl
keeps (c ∷ []) = refl
keeps (c ∷ d ∷ ds) = ap (kept_by (eqb c 10) c) (keeps (d ∷ ds))

drops : (xs : List ℕ) (x : ℕ) → (x ≡ 10 → ⊥) → to_last_feed (xs ++ (x ∷ [])) ≡ to_last_feed xs
drops [] x ne = cond-false (eqb x 10) _ _ (ne_eqb x 10 ne)
drops (c ∷ cs) x ne = ap (kept_by (eqb c 10) c) (drops cs x ne)

module _ (text : List ℕ) (n : ℕ) (low : 0 < n) (high : n ≤ length text) where
  last : take n text ≡ take (n - 1) text ++ (get_or text (n - 1) 0 ∷ [])
  last =
      let one_more : suc (n - 1) ≡ n = omega arith in
      ap (λ m. take m text) (sym one_more) ∙ take-suc text (n - 1) 0 (omega arith)

  -- a byte that is no line feed is left out
  pub left_out : (get_or text (n - 1) 0 ≡ 10 → ⊥) → to_last_feed (take n text) ≡ to_last_feed (take (n - 1) text)
  left_out ne = ap to_last_feed last ∙ drops (take (n - 1) text) _ ne

  -- a line feed ends it
  pub ends : get_or text (n - 1) 0 ≡ 10 → to_last_feed (take n text) ≡ take n text
  ends is =
      let feed : take n text ≡ take (n - 1) text ++ (10 ∷ []) = last ∙ ap (λ x. take (n - 1) text ++ (x ∷ [])) is in
      ap to_last_feed feed ∙ keeps (take (n - 1) text) ∙ sym feed

kept_short : (feeds : Bool) (c : ℕ) (rest : List ℕ) → length (kept_by feeds c rest) ≤ length rest + 1
kept_short true c [] = omega arith
kept_short false c [] = omega arith
kept_short feeds c (d ∷ ds) = omega arith

short : (text : List ℕ) → length (to_last_feed text) ≤ length text
short [] = omega arith
short (c ∷ cs) = omega (arith, kept_short (eqb c 10) c (to_last_feed cs), short cs)

whole_short : (text : List ℕ) → length (whole text) ≤ length text
whole_short text = cond_both (ltb (length text) limit) _ _ (λ z. length z ≤ length text) (λ _. omega arith) (λ _. short text)

one_at_most : (b : Bool) → length (lines_out b) ≤ 1
one_at_most true = omega arith
one_at_most false = omega arith

-- a script has few lines
pub lines_few_enough : (text : List ℕ) → length text ≤ limit → length (script_lines text) ≤ limit + 1
lines_few_enough text le =
    rw (length-append (lines (whole text)) (lines_out (ltb (length (whole text)) (length text))))
    (omega (arith, lines_few (whole text), whole_short text, one_at_most (ltb (length (whole text)) (length text)), le))

-- no more of a text is read than a script can have
pub read_of : (text : List ℕ) (n : ℕ) → n ≡ min (length text) limit → (length (take n text) ≤ limit) × (take n text ≡ take limit text)
read_of text n is = by_length (cases_lt (length text) limit)
  where
    by_length : ((length text < limit) ⊎ (limit ≤ length text)) → (length (take n text) ≤ limit) × (take n text ≡ take limit text)
    by_length (inl lt) =
        let all : take n text ≡ text = take_all n text (omega (arith, is, lt)) in
        (rw all (omega (arith, lt)), all ∙ sym (take_all limit text (omega (arith, lt))))
    by_length (inr le) =
        let e : n ≡ limit = omega (arith, is, le) in
        (rw (length-take-le n text (omega (arith, e, le))) (omega (arith, e)), ap (λ m. take m text) e)

-- there is a number for each of the lines that are read
pub few : (text : List ℕ) (n : ℕ) (l : Numbered) → n ≡ min (length text) limit → l ≡ record { number = 1; lines = script_lines (take n text) } → Countable l
few text n l is e = subst Countable (sym e) (omega (arith, lines_few_enough (take n text) (read_of text n is).0))
