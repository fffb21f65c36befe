-- The words of a message: those of its whole blocks, then the last. Assumes nothing.
use Rattle.std.proofs.Common.{◌≡◌, ℕ, zero, suc, ◌+◌, ◌-◌, ◌*◌, ◌/◌, ◌%◌, ◌^◌, ◌≤◌, List, [], ◌∷◌, ◌++◌, map, fold, length, take, drop, refl, sym, ap, ◌∙◌, arith, length-append, length-drop}
use Rattle.std.specs.Simd.{first_chunks}
use Rattle.std.proofs.lemmas.List.Sums.{fold_push}
use Rattle.std.proofs.lemmas.List.{length-replicate, take-append-le, drop-append-le, take_all, drop-drop}
use Rattle.siphash.specs.Sip.{started, absorbed, finished, sip_hash}
use Rattle.siphash.specs.Words.{little, padding, padded, message_words, behind}
use Rattle.siphash.proofs.Bytes.{little_end}

-- the words of k whole blocks, and one more, which ends with bytes of the padding
words_of : (k : ℕ) (xs pad : List ℕ) → k * 8 ≤ length xs → map little (first_chunks 8 (suc k) (xs ++ pad)) ≡ map little (first_chunks 8 k xs) ++ little (take 8 (drop (k * 8) xs ++ pad)) ∷ []
words_of zero xs pad h = refl
words_of (suc k) xs pad h =
    let next : k * 8 + 8 ≡ suc k * 8 = omega arith in
    ap (λ l. little l ∷ map little (first_chunks 8 (suc k) (drop 8 (xs ++ pad)))) (take-append-le 8 xs pad (omega arith))
    ∙ ap (λ l. little (take 8 xs) ∷ map little (first_chunks 8 (suc k) l)) (drop-append-le 8 xs pad (omega arith))
    ∙ ap (λ l. little (take 8 xs) ∷ l) (words_of k (drop 8 xs) pad (omega (arith, length-drop 8 xs)))
    ∙ ap (λ l. map little (first_chunks 8 (suc k) xs) ++ little (take 8 (l ++ pad)) ∷ []) (drop-drop (k * 8) 8 xs ∙ ap (λ n. drop n xs) (omega arith))

-- the last word has the bytes behind the whole blocks, and on top the low byte of the length
last_word : (bs : List ℕ) → little (take 8 (behind bs ++ padding (length bs))) ≡ little (behind bs) + length bs % 256 * 2 ^ 56
last_word bs =
    let n = length bs in
    let few : length (behind bs) + (7 - n % 8) ≡ 7 = omega (arith, length-drop (n / 8 * 8) bs) in
    let long : length (behind bs ++ padding n) ≤ 8 = simp (length-append, length-replicate) (omega arith) in
    ap little (take_all 8 (behind bs ++ padding n) long) ∙ little_end (behind bs) (7 - n % 8) (n % 256) few

words_are : (bs : List ℕ) → message_words bs ≡ map little (first_chunks 8 (length bs / 8) bs) ++ (little (behind bs) + length bs % 256 * 2 ^ 56) ∷ []
unfolding message_words
words_are bs =
    let e : length (padded bs) / 8 ≡ suc (length bs / 8) = simp (length-append, length-replicate) (omega arith) in
    ap (λ k. map little (first_chunks 8 k (padded bs))) e
    ∙ words_of (length bs / 8) bs (padding (length bs)) (omega arith)
    ∙ ap (λ w. map little (first_chunks 8 (length bs / 8) bs) ++ w ∷ []) (last_word bs)

-- the hash takes in the words of the whole blocks one by one, then the last word
pub hash_by_blocks : (low high : ℕ) (bs : List ℕ) → finished (absorbed (fold absorbed (started low high) (map little (first_chunks 8 (length bs / 8) bs))) (little (behind bs) + length bs % 256 * 2 ^ 56)) ≡ sip_hash low high bs
unfolding sip_hash
hash_by_blocks low high bs =
    ap finished (sym (ap (fold absorbed (started low high)) (words_are bs) ∙ fold_push absorbed (started low high) (map little (first_chunks 8 (length bs / 8) bs)) _))
