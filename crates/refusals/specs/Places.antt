-- A refusal at no place, and one at another place.
use Rattle.std.specs.Prelude.{ℕ}
use Rattle.refusals.specs.declared.Layer.{Layer}
use Rattle.refusals.specs.declared.Refusal.{Refusal}

abbrev pub refused : ℕ → Layer → Refusal
refused number layer = record { number = number; layer = layer; place = 0 }

abbrev pub moved : Refusal → ℕ → Refusal
moved x n = record { number = x.number; layer = x.layer; place = n }
