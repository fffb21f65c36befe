-- A record kind as values: its number, the word of a value, the value of a word.
use Rattle.std.specs.Prelude.{ℕ, Option}
use Rattle.kinds.specs.declared.word.Word.{Word}

pub record RecordKind (V : Type 0) : Type 0 where
  pub number : ℕ
  pub word : V → Word
  -- nothing for a word that is no value's
  pub value : Word → Option V
