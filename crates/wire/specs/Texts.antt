-- The texts that are sealed, and their bytes.
use Rattle.std.specs.Prelude.{ℕ, zero, suc, ◌/◌, ◌%◌, ◌^◌, ◌<◌, List, [], ◌∷◌, ◌++◌}
use Rattle.wire.specs.declared.pair.Pair.{Pair}
use Rattle.wire.specs.declared.pair.Configuration.{Configuration}
use Rattle.wire.specs.declared.text.Text.{Text}

-- the lowest k bytes of a number, lowest first
abbrev pub le : ℕ → ℕ → List ℕ
le zero n = []
le (suc k) n = (n % 256) ∷ le k (n / 256)

abbrev pub text_bytes : Text → List ℕ
text_bytes t = t.tag ∷ t.party ∷ (le 4 t.number ++ le 8 t.body)

-- the numbers fit their bytes
pub record Fitting (t : Text) : Type 0 where
  pub tag : t.tag < 2 ^ 8
  pub party : t.party < 2 ^ 8
  pub number : t.number < 2 ^ 32
  pub body : t.body < 2 ^ 64

abbrev pub pair_text : ℕ → Pair → Text
pair_text kind p = record { tag = kind; party = p.stamp.writer; number = p.stamp.count; body = p.word.0 }

abbrev pub configuration_text : Configuration → Text
configuration_text c = record { tag = 67; party = 0; number = c.epoch; body = c.set.0 }
