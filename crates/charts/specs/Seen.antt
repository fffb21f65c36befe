-- What has been seen of a run: where entries come from, and what operations are about.
use Rattle.std.specs.Prelude.{ℕ, Bool, cond, ◌||◌, ◌&&◌, ◌==◌, is_some, is_none, Some, None, Option}
use Rattle.std.specs.Option.{option_map}
use Rattle.kinds.specs.declared.bin_weight.BinWeight.{BinWeight}
use Rattle.kinds.specs.BinWeights.{weight_value}
use Rattle.wire.specs.declared.entry.Entry.{Entry}
use Rattle.wire.specs.Entries.{kind_of}
use Rattle.wire.specs.declared.party.Party.{Party}
use Rattle.wire.specs.declared.party.Party.TheVariants.{Source, Client as AClient, Replica as AReplica}
use Rattle.wire.specs.declared.set.ReplicaSet.{ReplicaSet}
use Rattle.wire.specs.Parties.{party_of}
use Rattle.wire.specs.Sets.{member}
use Rattle.halls.specs.declared.operation.Operation.{Operation}
use Rattle.picture.specs.declared.shape.Stroke.{Stroke}
use Rattle.picture.specs.declared.shape.Stroke.TheVariants.{Whole, Dashed}
use Rattle.charts.specs.declared.caption.Caption.{Caption}
use Rattle.charts.specs.declared.caption.Caption.TheVariants.{Entry as AnEntry}
use Rattle.charts.specs.declared.layout.Place.{Place}
use Rattle.charts.specs.declared.seen.Posted.{Posted}
use Rattle.charts.specs.declared.seen.Delivery.{Delivery}
use Rattle.charts.specs.declared.seen.Stay.{Stay}
use Rattle.charts.specs.declared.seen.Work.{Work}

-- where the lane of the party of this number meets a row
abbrev pub place_in : ℕ → ℕ → Option Place
place_in number row = option_map (λ p. record { party = p; row = row }) (party_of number)

-- the entries of a marked replica stand apart
abbrev pub stroke_of : ReplicaSet → Party → Stroke
stroke_of marked Source = Whole
stroke_of marked (AClient c) = Whole
stroke_of marked (AReplica r) = cond (member marked.0 r.number) Dashed Whole

-- what it writes, or has read
abbrev pub weight_of : Operation → Option BinWeight
weight_of op = cond (op.writes || is_some op.ended) (weight_value op.pair.word) None

abbrev pub name_of : Entry → ℕ → Caption
name_of entry number = AnEntry (kind_of entry.kind) number

abbrev pub delivery_from : Option Place → Caption → Place → ReplicaSet → Bool → Option Delivery
delivery_from None name to marked refused = None
delivery_from (Some from) name to marked refused =
    Some (record { name = name; from = from; to = to; stroke = stroke_of marked from.party; refused = refused })

-- the entry of this number is handed over and comes to this place
abbrev pub delivery_of : Posted → ℕ → Place → ReplicaSet → Bool → Option Delivery
delivery_of p number to marked refused = delivery_from (place_in p.entry.sender p.row) (name_of p.entry number) to marked refused

-- where a party is after a row that has left it in this epoch
abbrev pub stay_after : Stay → ℕ → ℕ → Stay
stay_after s epoch row = cond (epoch == s.epoch) s (record { party = s.party; epoch = epoch; since = row })

-- the row in which an operation ended: this one, if the log has an end by now and none was known
abbrev pub end_of : Option ℕ → Operation → ℕ → Option ℕ
end_of known op row = cond (is_none known && is_some op.ended) (Some row) known

-- an operation after a row that has left it so: it began there if it was not known before
abbrev pub work_of : Option Work → Operation → ℕ → Work
work_of None op row = record { operation = op; began = row; ended = end_of None op row }
work_of (Some w) op row = record { operation = op; began = w.began; ended = end_of w.ended op row }
