-- The words of a message.
use Rattle.std.specs.Prelude.{ℕ, ◌+◌, ◌-◌, ◌*◌, ◌/◌, ◌%◌, List, [], ◌∷◌, ◌++◌, map, length, drop, replicate}
use Rattle.std.specs.Simd.{first_chunks}

-- the number that bytes write, the lowest byte first
unfoldable pub little : List ℕ → ℕ
little [] = 0
little (b ∷ bs) = b + 256 * little bs

-- what follows a message of n bytes: zeros up to one byte short of a multiple of eight, then the low byte of n
abbrev pub padding : ℕ → List ℕ
padding n = replicate (7 - n % 8) 0 ++ (n % 256 ∷ [])

-- a message and its padding
abbrev pub padded : List ℕ → List ℕ
padded bs = bs ++ padding (length bs)

-- the words of a message: the numbers of all runs of eight bytes, one after another
unfoldable pub message_words : List ℕ → List ℕ
message_words bs = map little (first_chunks 8 (length (padded bs) / 8) (padded bs))

-- the bytes of a message behind its whole runs of eight
abbrev pub behind : List ℕ → List ℕ
behind bs = drop (length bs / 8 * 8) bs
