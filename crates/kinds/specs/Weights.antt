-- The numbers of a bin weight: their range, and the word that stands for them.
use Rattle.std.specs.Prelude.{ℕ, suc, ◌+◌, ◌-◌, ◌*◌, ◌/◌, ◌%◌, Bool, ◌&&◌, ℤ, pos, negsuc, ◌-ℤ◌, nat_le, nat_lt}

-- grams + 1,000,000,000
abbrev pub raised : ℤ → ℕ
raised (pos n) = n + 1000000000
raised (negsuc n) = 1000000000 - suc n

-- grams within 1,000,000,000 either way
abbrev pub grams_in_range : ℤ → Bool
grams_in_range (pos n) = nat_le n 1000000000
grams_in_range (negsuc n) = nat_le (suc n) 1000000000

abbrev pub in_range : ℤ → ℕ → Bool
in_range grams lot = grams_in_range grams && nat_lt lot 100000

abbrev pub word_of : ℤ → ℕ → ℕ
word_of grams lot = raised grams * 100000 + lot

-- the grams and the lot that a word would stand for
abbrev pub grams_of : ℕ → ℤ
grams_of word = pos (word / 100000) -ℤ pos 1000000000

abbrev pub lot_of : ℕ → ℕ
lot_of word = word % 100000
