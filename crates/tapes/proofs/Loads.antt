-- What a load reads, by the place of the record that its search finds. Assumes nothing.
use Rattle.std.proofs.Common.{◌≡◌, ℕ, zero, suc, ◌+◌, ◌-◌, ◌*◌, ◌<◌, ltb, true, List, length, take, drop, slice_get, IfSome, Some, None, Option, refl, sym, ap, ◌∙◌, subst, arith}
use Rattle.std.specs.List.{slice_range}
use Rattle.std.specs.Option.{option_map, option_and_then}
use Rattle.std.specs.Simd.{first_chunks}
use Rattle.std.proofs.lemmas.Bool.{cond-true}
use Rattle.std.proofs.lemmas.List.{drop-drop}
use Rattle.tapes.specs.Records.{decoded}
use Rattle.tapes.specs.Tapes.{Lent, whole, last_of, card_in, card_of}

-- the record at this place
record_at : (k i : ℕ) (xs : List ℕ) → i < k → slice_get (first_chunks 72 k xs) i ≡ Some (slice_range xs (i * 72) (i * 72 + 72))
record_at zero i xs h = absurd (omega arith)
record_at (suc k) zero xs h = refl
record_at (suc k) (suc i) xs h =
    let more : 72 + i * 72 ≡ suc i * 72 = omega arith in
    let wide : i * 72 + 72 - i * 72 ≡ suc i * 72 + 72 - suc i * 72 = omega arith in
    record_at k i (drop 72 xs) (omega arith)
    ∙ ap (λ ys. Some (take (i * 72 + 72 - i * 72) ys)) (drop-drop (i * 72) 72 xs ∙ ap (λ m. drop m xs) more)
    ∙ ap (λ m. Some (take m (drop (suc i * 72) xs))) wide

module _ (l : Lent) (n : ℕ) (small : ltb n 64 ≡ true) where
  loaded : (o : Option ℕ) → IfSome o (λ i. i < whole l) → option_and_then (slice_get (first_chunks 72 (whole l) l.bytes)) o ≡ last_of (first_chunks 72 (whole l) l.bytes) n
      → option_map (card_in l.bytes) o ≡ card_of l n
  loaded None within found = ap (option_map (λ r. (decoded r).card)) found ∙ sym (cond-true (ltb n 64) _ _ small)
  loaded (Some i) within found =
      ap (option_map (λ r. (decoded r).card)) (sym (record_at (whole l) i l.bytes within) ∙ found) ∙ sym (cond-true (ltb n 64) _ _ small)

  pub loaded_by : (rs : List (List ℕ)) (m : ℕ) (o : Option ℕ) → rs ≡ first_chunks 72 (whole l) l.bytes → length rs ≡ whole l → m ≡ n
      → IfSome o (λ i. i < length rs) → option_and_then (slice_get rs) o ≡ last_of rs m
      → option_map (card_in l.bytes) o ≡ card_of l n
  loaded_by rs m o is long same within found =
      let some = subst (λ k. IfSome o (λ i. i < k)) long within in
      let here = subst (λ xs. option_and_then (slice_get xs) o ≡ last_of xs m) is found in
      loaded o some (subst (λ k. option_and_then (slice_get (first_chunks 72 (whole l) l.bytes)) o ≡ last_of (first_chunks 72 (whole l) l.bytes) k) same here)
