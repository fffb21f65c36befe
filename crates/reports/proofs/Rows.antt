-- The rows and counts of a text, line by line: what is so far, one line more, and the end. Assumes nothing.
use Rattle.std.proofs.Common.{◌≡◌, ℕ, ◌+◌, ◌≤◌, Bool, true, false, cond, eqb, List, [], ◌∷◌, ◌++◌, length, is_ok, sym, refl, ap, ◌∙◌, subst, append_assoc, append-nil, arith}
use Rattle.std.proofs.lemmas.Bool.{cond_both}
use Rattle.fields.specs.Parts.{lines}
use Rattle.fields.proofs.Counting.{lines_few}
use Rattle.reports.specs.Reports.{tried, row, rows, replies, refused, totals, printed}

-- out is the rows of the lines before left, of which values were answered and refusals refused
pub record Sofar (text : List ℕ) (left : List (List ℕ)) (out : List ℕ) (values refusals : ℕ) : Type 0 where
  pub written : out ++ rows (values + refusals + 1) left ≡ rows 1 (lines text)
  pub answered : values + replies left ≡ replies (lines text)
  pub turned : refusals + refused left ≡ refused (lines text)

-- the lines that are left, as they are found to be
pub left_as : {text out : List ℕ} {ls : List (List ℕ)} {values refusals : ℕ} (left : List (List ℕ)) → Sofar text ls out values refusals → ls ≡ left → Sofar text left out values refusals
left_as {text} {out} {ls} {values} {refusals} left h e = subst (λ x. Sofar text x out values refusals) e h

pub counted_as : {text out out' : List ℕ} {left : List (List ℕ)} {values values' refusals refusals' : ℕ} → out' ≡ out → values' ≡ values → refusals' ≡ refusals → Sofar text left out values refusals → Sofar text left out' values' refusals'
counted_as {text} {out} {out'} {left} o v f h = subst (λ x. x) (λ i. Sofar text left (sym o i) (sym v i) (sym f i)) h

-- each line counts once: by its answer b
one : (b : Bool) (m n : ℕ) → (cond b 1 0 + m) + (cond b 0 1 + n) ≡ m + n + 1
one true m n = omega arith
one false m n = omega arith

counted : (ls : List (List ℕ)) → replies ls + refused ls ≡ length ls
counted [] = refl
counted (l ∷ ls) = omega (arith, one (is_ok (tried l)) (replies ls) (refused ls), counted ls)

-- no more lines are counted than there are bytes
pub few : {text out : List ℕ} {left : List (List ℕ)} {values refusals : ℕ} → Sofar text left out values refusals → values + refusals ≤ length text
few {text} {out} {left} h = omega (arith, h.answered, h.turned, counted left, counted (lines text), lines_few text)

module _ {text : List ℕ} {line : List ℕ} {left : List (List ℕ)} {out : List ℕ} {values refusals : ℕ} (old : Sofar text (line ∷ left) out values refusals) where
  more : (n : ℕ) → n ≡ values + refusals + 1 + 1 → (out ++ row (values + refusals + 1) (tried line)) ++ rows n left ≡ rows 1 (lines text)
  more n e =
      append_assoc out (row (values + refusals + 1) (tried line)) (rows n left)
      ∙ ap (λ m. out ++ (row (values + refusals + 1) (tried line) ++ rows m left)) e
      ∙ old.written

  pub one_value : is_ok (tried line) ≡ true → Sofar text left (out ++ row (values + refusals + 1) (tried line)) (values + 1) refusals
  one_value good = record {
    written = more (values + 1 + refusals + 1) (omega arith);
    answered = omega (arith, rw good at old.answered);
    turned = omega (arith, rw good at old.turned);
  }

  pub one_refusal : is_ok (tried line) ≡ false → Sofar text left (out ++ row (values + refusals + 1) (tried line)) values (refusals + 1)
  one_refusal bad = record {
    written = more (values + (refusals + 1) + 1) (omega arith);
    answered = omega (arith, rw bad at old.answered);
    turned = omega (arith, rw bad at old.turned);
  }

pub all_done : (text : List ℕ) (out : List ℕ) (values refusals : ℕ) → Sofar text [] out values refusals → out ++ totals values refusals ≡ printed text
all_done text out values refusals h =
    let rows_all : out ≡ rows 1 (lines text) = sym (append-nil out) ∙ h.written in
    let v : values ≡ replies (lines text) = omega (arith, h.answered) in
    let f : refusals ≡ refused (lines text) = omega (arith, h.turned) in
    λ i. rows_all i ++ totals (v i) (f i)
