-- What is taken of an entry only if it is genuine.
use Rattle.std.specs.Prelude.{Bool, cond, Ok, Err, Result}
use Rattle.rules.specs.declared.objection.Objection.{Objection}
use Rattle.rules.specs.declared.objection.Objection.TheVariants.{NotGenuine}

abbrev pub genuine_only : {A : Type 0} → Bool → A → Result A Objection
genuine_only genuine x = cond genuine (Ok x) (Err NotGenuine)
