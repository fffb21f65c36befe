-- What is compared with what was published or worked out, and how much of it agrees.
use Rattle.std.specs.Prelude.{◌≡◌, ℕ, ◌+◌, Bool, List, take, count_by, ◌==◌, nat_eq}
use Rattle.std.specs.Cmp.Lexicographic.{pointwise}
use Rattle.std.specs.List.{zip, enumerate_from}
use Rattle.siphash.specs.declared.Key.{Key}
use Rattle.siphash.specs.Sip.{sip_hash}
use Rattle.wire.specs.declared.pair.Configuration.{Configuration}
use Rattle.wire.specs.declared.pair.Pair.{Pair}
use Rattle.wire.specs.Texts.{text_bytes, pair_text, configuration_text}
use Rattle.runner.specs.Outputs.{Shows}
use Rattle.runner.specs.Texts.{limit, script_lines}

-- at how many places both have the same byte
abbrev pub agreeing : List ℕ → List ℕ → ℕ
agreeing found wanted = count_by (λ p. p.0 == p.1) (zip found wanted)

-- at how many lengths n the hash of the first n bytes of the message is the one in the table
abbrev pub hashes_agreeing : Key → List ℕ → List ℕ → ℕ
hashes_agreeing key message table =
    count_by (λ p. sip_hash key.low key.high (take p.0 message) == p.1) (enumerate_from 0 table)

-- at how many places the texts of this pair of bin weights and of this configuration have the bytes beside them
abbrev pub texts_agreeing : Pair → List ℕ → Configuration → List ℕ → ℕ
texts_agreeing pair pair_bytes configuration configuration_bytes =
    agreeing (text_bytes (pair_text 1 pair)) pair_bytes
    + agreeing (text_bytes (configuration_text configuration)) configuration_bytes

-- whether what is printed for this script is what was worked out
pub record ScriptCompared (script wanted : List ℕ) (agrees : Bool) : Type 0 where
  pub printed : List ℕ
  pub shown : Shows (script_lines (take limit script)) printed
  pub compared : agrees ≡ pointwise nat_eq printed wanted
