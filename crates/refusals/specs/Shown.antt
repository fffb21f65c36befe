-- How layers and refusals are printed.
use Rattle.std.specs.Prelude.{ℕ, List, ◌++◌, codes, decimal}
use Rattle.refusals.specs.declared.Layer.{Layer}
use Rattle.refusals.specs.declared.Layer.TheVariants.{Hall, Client, Replica, Sealer, Store, Kind, Script}
use Rattle.refusals.specs.declared.Refusal.{Refusal}

abbrev pub layer_name : Layer → List ℕ
layer_name Hall = codes "hall"
layer_name Client = codes "client"
layer_name Replica = codes "replica"
layer_name Sealer = codes "sealer"
layer_name Store = codes "store"
layer_name Kind = codes "kind"
layer_name Script = codes "script"

-- place, number and layer, with a space between them
abbrev pub refusal_text : Refusal → List ℕ
refusal_text x = decimal x.place ++ (codes " " ++ (decimal x.number ++ (codes " " ++ layer_name x.layer)))
