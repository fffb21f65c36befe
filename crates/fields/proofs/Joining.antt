-- Lines and fields have no separator in them, and with one behind each they make up their text. Assumes nothing.
use Rattle.std.proofs.Common.{◌≡◌, ℕ, zero, suc, false, eqb, List, [], ◌∷◌, ◌++◌, sym, refl, ap, ◌∙◌, ⊎_elim, arith}
use Rattle.std.specs.List.{AllByRecursion}
use Rattle.std.specs.Str.Iter.{LacksByte}
use Rattle.std.proofs.lemmas.Bool.{true≢false, eqb-true, eqb-false, cond-true, cond-false, cond_both, cases_Bool}
use Rattle.fields.specs.Parts.{onto, parts, lines, fields, ended, finished, MakesUp}
use Rattle.fields.specs.Left.{nothing}
use Rattle.fields.proofs.Cutting.{parts_some, fields_some}

module _ (sep : ℕ) where
  lacks_none : LacksByte sep []
  lacks_none k lt = absurd (omega arith)

  lacks_more : (c : ℕ) (cs : List ℕ) → (c ≡ sep → ⊥) → LacksByte sep cs → LacksByte sep (c ∷ cs)
  lacks_more c cs other h zero lt = other
  lacks_more c cs other h (suc k) lt = h k (omega arith)

  lacks_onto : (c : ℕ) (ps : List (List ℕ)) → (c ≡ sep → ⊥) → AllByRecursion (LacksByte sep) ps → AllByRecursion (LacksByte sep) (onto c ps)
  lacks_onto c [] other h = (lacks_more c [] other lacks_none, tt)
  lacks_onto c (p ∷ ps) other h = (lacks_more c p other h.0, h.1)

  ended_onto : (c : ℕ) (ps : List (List ℕ)) → nothing ps ≡ false → ended sep (onto c ps) ≡ c ∷ ended sep ps
  ended_onto c [] some = absurd (true≢false some)
  ended_onto c (p ∷ ps) some = refl

  module _ (end : List (List ℕ)) where
    all_lack : AllByRecursion (LacksByte sep) end → (bs : List ℕ) → AllByRecursion (LacksByte sep) (parts sep end bs)
    all_lack h [] = h
    all_lack h (c ∷ cs) =
        cond_both (eqb c sep) _ _ (AllByRecursion (LacksByte sep)) (λ _. (lacks_none, all_lack h cs)) (λ e. lacks_onto c _ (eqb-false c sep e) (all_lack h cs))

    ended_more : (c : ℕ) (cs rest : List ℕ) → nothing (parts sep end cs) ≡ false → ended sep (parts sep end cs) ≡ rest → ended sep (parts sep end (c ∷ cs)) ≡ c ∷ rest
    ended_more c cs rest some h =
        cond_both (eqb c sep) _ _ (λ ps. ended sep ps ≡ c ∷ rest) (λ e. λ i. sym (eqb-true c sep e) i ∷ h i) (λ e. ended_onto c _ some ∙ ap (λ l. c ∷ l) h)

fields_ended : (line : List ℕ) → ended 32 (fields line) ≡ line ++ (32 ∷ [])
fields_ended [] = refl
fields_ended (c ∷ cs) = ended_more 32 ([] ∷ []) c cs _ (fields_some cs) (fields_ended cs)

lines_ended : (text : List ℕ) → ended 10 (lines text) ≡ finished text
lines_ended [] = refl
lines_ended (c ∷ []) =
    ⊎_elim
    (λ e. ap (ended 10) (cond-true (eqb c 10) _ _ e) ∙ ap (λ d. d ∷ []) (sym (eqb-true c 10 e)) ∙ sym (cond-true (eqb c 10) _ _ e))
    (λ e. ap (ended 10) (cond-false (eqb c 10) _ _ e) ∙ sym (cond-false (eqb c 10) _ _ e))
    (cases_Bool (eqb c 10))
lines_ended (c ∷ d ∷ cs) = ended_more 10 [] c (d ∷ cs) _ (parts_some 10 [] d cs) (lines_ended (d ∷ cs))

pub fields_whole : (line : List ℕ) → MakesUp 32 (fields line) (line ++ (32 ∷ []))
fields_whole line = (all_lack 32 ([] ∷ []) (lacks_none 32, tt) line, fields_ended line)

pub lines_whole : (text : List ℕ) → MakesUp 10 (lines text) (finished text)
lines_whole text = (all_lack 10 [] tt text, lines_ended text)
