-- A text that is cut at its first separator loses its first part. Assumes nothing.
use Rattle.std.proofs.Common.{◌≡◌, ℕ, suc, ◌<◌, Bool, false, not, eqb, List, [], ◌∷◌, ◌++◌, length, is_some, Some, None, Option, unwrap_or, sym, refl, ap, ◌∙◌, suc-le-suc, arith, Bor}
use Rattle.std.specs.Option.{option_map}
use Rattle.std.specs.Str.Iter.{LacksByte}
use Rattle.std.proofs.lemmas.Bool.{eq-eqb, ne_eqb, cond-true, cond-false, cond_both, not-true, not-false, cases_eq}
use Rattle.std.specs.Iterator.{MakesProgress, item_count}
use Rattle.std.specs.Bool.{⊤}
use Rattle.fields.specs.Parts.{onto, parts, lines, fields, Cut}
use Rattle.fields.specs.Left.{fields_in, nothing}

onto_some : (c : ℕ) (ps : List (List ℕ)) → nothing (onto c ps) ≡ false
onto_some c [] = refl
onto_some c (p ∷ ps) = refl

-- a text with a byte has a part
pub parts_some : (sep : ℕ) (end : List (List ℕ)) (c : ℕ) (cs : List ℕ) → nothing (parts sep end (c ∷ cs)) ≡ false
parts_some sep end c cs = cond_both (eqb c sep) _ _ (λ ps. nothing ps ≡ false) (λ _. refl) (λ _. onto_some c (parts sep end cs))

-- a line has a field
pub fields_some : (line : List ℕ) → nothing (fields line) ≡ false
fields_some [] = refl
fields_some (c ∷ cs) = parts_some 32 ([] ∷ []) c cs

pub done_is : (rest : Option (Bor (List ℕ))) (r : Bool) → is_some rest ≡ not r → r ≡ nothing (fields_in rest)
done_is None r e = not-false r (sym e)
done_is (Some rest) r e = not-true r (sym e) ∙ sym (fields_some rest.now)

module _ (sep : ℕ) (end : List (List ℕ)) where
  -- a byte that is no separator stands in front of the first part
  apart : (c : ℕ) (cs : List ℕ) → LacksByte sep (c ∷ cs) → (rest : List ℕ) → parts sep end (c ∷ rest) ≡ onto c (parts sep end rest)
  apart c cs h rest = cond-false (eqb c sep) _ _ (ne_eqb c sep (h 0 (omega arith)))

  later : (c : ℕ) (cs : List ℕ) → LacksByte sep (c ∷ cs) → LacksByte sep cs
  later c cs h k lt = h (suc k) (suc-le-suc lt)

  first_part : (p rest : List ℕ) → LacksByte sep p → parts sep end (p ++ (sep ∷ rest)) ≡ p ∷ parts sep end rest
  first_part [] rest h = cond-true (eqb sep sep) _ _ (eq-eqb sep sep refl)
  first_part (c ∷ cs) rest h = apart c cs h (cs ++ (sep ∷ rest)) ∙ ap (onto c) (first_part cs rest (later c cs h))

  last_part : ((c : ℕ) → onto c end ≡ (c ∷ []) ∷ []) → (p : List ℕ) → 0 < length p → LacksByte sep p → parts sep end p ≡ p ∷ []
  last_part one [] some h = absurd (omega arith)
  last_part one (c ∷ []) some h = apart c [] h [] ∙ one c
  last_part one (c ∷ d ∷ cs) some h = apart c (d ∷ cs) h (d ∷ cs) ∙ ap (onto c) (last_part one (d ∷ cs) (omega arith) (later c (d ∷ cs) h))

  pub first_of : (bs p rest : List ℕ) → Cut sep bs p (Some rest) → parts sep end bs ≡ p ∷ parts sep end rest
  first_of bs p rest h = ap (parts sep end) h.1 ∙ first_part p rest h.0

last_field : (p : List ℕ) → LacksByte 32 p → fields p ≡ p ∷ []
last_field [] h = refl
last_field (c ∷ cs) h = last_part 32 ([] ∷ []) (λ _. refl) (c ∷ cs) (omega arith) h

-- the first field is what stands before the first space
pub first_field : (bs p : List ℕ) (rest : Option (Bor (List ℕ))) → Cut 32 bs p (option_map (λ r. r.now) rest) → fields bs ≡ p ∷ fields_in rest
first_field bs p None h = ap fields h.1 ∙ last_field p h.0
first_field bs p (Some rest) h = first_of 32 ([] ∷ []) bs p rest.now h

-- and the first line what stands before the first line feed
pub first_line : (bs p : List ℕ) (rest : Option (Bor (List ℕ))) (r none : Bor (List ℕ)) → (length bs ≡ 0 → ⊥) → Cut 10 bs p (option_map (λ r. r.now) rest) → r ≡ unwrap_or rest none → none.now ≡ [] → lines bs ≡ p ∷ lines r.now
first_line bs p None r none some h is e =
    ap lines h.1 ∙ last_part 10 [] (λ _. refl) p (omega (arith, ap length h.1, cases_eq (length bs) 0)) h.0
    ∙ sym (ap (λ l. p ∷ lines l) (ap (λ s. s.now) is ∙ e))
first_line bs p (Some rest) r none some h is e = first_of 10 [] bs p rest.now h ∙ sym (ap (λ s. p ∷ lines s.now) is)

-- a cursor goes on where it gives the first of the parts that were left
pub goes_on : {S : Type 0} (left : S → List (List ℕ)) (s t : S) (p : Bor (List ℕ)) → left s ≡ p.now ∷ left t → MakesProgress (λ _. ⊤) (item_count left) s (Some p) t
goes_on left s t p e = record { on = λ _. (tt, tt, omega (arith, ap length e)); keeps = tt; rests = λ _. tt }
