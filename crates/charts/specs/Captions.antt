-- What is written on a chart.
use Rattle.std.specs.Prelude.{ℕ, Bool, true, false, List, [], ◌∷◌, ◌++◌, Some, None, Option, codes, decimal}
use Rattle.std.specs.Fmt.{signed_decimal}
use Rattle.kinds.specs.declared.bin_weight.BinWeight.{BinWeight}
use Rattle.refusals.specs.Shown.{layer_name}
use Rattle.wire.specs.declared.entry.EntryKind.{EntryKind}
use Rattle.wire.specs.declared.entry.EntryKind.TheVariants.{Read, Write, Transfer, Pair, Ack, Stock, Config, Behind}
use Rattle.wire.specs.declared.party.Party.{Party}
use Rattle.wire.specs.declared.party.Party.TheVariants.{Source, Client as AClient, Replica as AReplica}
use Rattle.picture.specs.Shapes.{joined}
use Rattle.charts.specs.Signs.{meaning}
use Rattle.charts.specs.declared.caption.Caption.{Caption}
use Rattle.charts.specs.declared.caption.Caption.TheVariants.{Title, Unopened, Row, Epoch, Party as AParty, Liar, Entry, Operation, Lot, CalledOff, Refusal, Meaning}

abbrev pub kind_name : EntryKind → List ℕ
kind_name Read = codes "READ"
kind_name Write = codes "WRITE"
kind_name Transfer = codes "TRANSFER"
kind_name Pair = codes "PAIR"
kind_name Ack = codes "ACK"
kind_name Stock = codes "STOCK"
kind_name Config = codes "CONFIG"
kind_name Behind = codes "BEHIND"

-- a write or a read
abbrev pub letter : Bool → List ℕ
letter true = codes "W"
letter false = codes "R"

abbrev pub party_text : Party → List ℕ
party_text Source = codes "source"
party_text (AClient c) = codes "client " ++ decimal c.number
party_text (AReplica r) = codes "replica " ++ decimal r.number

-- an entry by its kind, if it has one, and its number
abbrev pub entry_text : Option EntryKind → ℕ → List ℕ
entry_text None number = codes "no kind" ++ (codes " " ++ decimal number)
entry_text (Some kind) number = kind_name kind ++ (codes " " ++ decimal number)

-- its letter, and the grams if there is a weight
abbrev pub operation_text : Bool → Option BinWeight → List ℕ
operation_text writes None = letter writes
operation_text writes (Some weight) = joined (letter writes ∷ codes " " ∷ signed_decimal weight.grams ∷ codes " g" ∷ [])

abbrev pub caption_text : Caption → List ℕ
caption_text (Title size) = joined (codes "f " ∷ decimal size.faults ∷ codes ", replicas " ∷ decimal size.replicas ∷ codes ", clients " ∷ decimal size.clients ∷ [])
caption_text Unopened = codes "no hall was opened"
caption_text (Row number) = decimal number
caption_text (Epoch number) = decimal number
caption_text (AParty party) = party_text party
caption_text (Liar party) = party_text party ++ codes " (liar)"
caption_text (Entry kind number) = entry_text kind number
caption_text (Operation writes weight) = operation_text writes weight
caption_text (Lot weight) = codes "lot " ++ decimal weight.lot
caption_text CalledOff = codes "called off"
caption_text (Refusal refusal) = joined (decimal refusal.number ∷ codes " " ∷ layer_name refusal.layer ∷ [])
caption_text (Meaning sign) = meaning sign
