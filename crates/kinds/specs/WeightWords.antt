-- A bin weight's word gives back its grams and its lot. Assumes nothing.
use Rattle.std.specs.Prelude.{◌≡◌, ℕ, suc, ◌/◌, ◌<◌, true, ℤ, pos, negsuc, ◌-ℤ◌, Some, nat_lt}
use Rattle.std.proofs.Common.{ap, sym, ◌∙◌, arith}
use Rattle.std.proofs.lemmas.Bool.{and_parts, ltb-true, leb-true}
use Rattle.std.proofs.lemmas.Int.{ints}
use Rattle.std.proofs.lemmas.Bool.Decides.{nat_tests}
use Rattle.kinds.specs.declared.bin_weight.BinWeight.{BinWeight}
use Rattle.kinds.specs.BinWeights.{weight}
use Rattle.kinds.specs.Partials.{only_if_true}
use Rattle.kinds.specs.Weights.{raised, in_range, grams_in_range, word_of, grams_of, lot_of}

module _ (grams : ℤ) (lot : ℕ) (ok : in_range grams lot ≡ true) where
  lot_small : lot < 100000
  lot_small = ltb-true lot 100000 (and_parts (grams_in_range grams) (nat_lt lot 100000) ok).1

  pub lot_back : lot_of (word_of grams lot) ≡ lot
  lot_back = let h = lot_small in omega arith

  raised_back : word_of grams lot / 100000 ≡ raised grams
  raised_back = let h = lot_small in omega arith

lowered : (grams : ℤ) → grams_in_range grams ≡ true → pos (raised grams) -ℤ pos 1000000000 ≡ grams
lowered (pos n) e = omega (arith, ints)
lowered (negsuc n) e = let h = leb-true (suc n) 1000000000 e in omega (arith, ints)

pub grams_back : (grams : ℤ) (lot : ℕ) → in_range grams lot ≡ true → grams_of (word_of grams lot) ≡ grams
grams_back grams lot ok =
    ap (λ n. pos n -ℤ pos 1000000000) (raised_back grams lot ok) ∙ lowered grams (and_parts (grams_in_range grams) (nat_lt lot 100000) ok).0

-- a word is the word of the grams and the lot that are read from it
pub word_back : (word : ℕ) → word_of (grams_of word) (lot_of word) ≡ word
word_back word = let h : raised (grams_of word) ≡ word / 100000 = grind (arith, nat_tests) in omega arith

-- a bin weight is the one of its numbers
pub weight_is : (v : BinWeight) (grams : ℤ) (lot : ℕ) → v.grams ≡ grams → v.lot ≡ lot → Some v ≡ weight grams lot
weight_is v grams lot g l = sym (only_if_true _ _ v.ok) ∙ (λ i. weight (g i) (l i))
