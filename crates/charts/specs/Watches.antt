-- What is known of a run up to some row, what a row adds to it, and the chart at the end.
use Rattle.std.specs.Prelude.{ℕ, zero, suc, ◌+◌, Bool, true, false, cond, ◌==◌, min, List, [], ◌∷◌, ◌++◌, length, map, drop, slice_get, slice_set, Some, None, Option, unwrap_or}
use Rattle.wire.specs.declared.entry.Entry.{Entry}
use Rattle.wire.specs.declared.party.Party.{Party}
use Rattle.wire.specs.Parties.{party_of}
use Rattle.wire.specs.declared.set.ReplicaSet.{ReplicaSet}
use Rattle.script.specs.declared.command.SetUp.{SetUp}
use Rattle.halls.specs.declared.operation.Operation.{Operation}
use Rattle.picture.specs.declared.shape.Stroke.{Stroke}
use Rattle.picture.specs.declared.shape.Stroke.TheVariants.{Whole, Dashed}
use Rattle.refusals.specs.declared.Refusal.{Refusal}
use Rattle.charts.specs.declared.sign.Sign.{Sign}
use Rattle.charts.specs.declared.sign.Sign.TheVariants.{Handed, Lied, Lost, Refused, Epoch, Operation as AnOperation, Unfinished}
use Rattle.charts.specs.declared.caption.Caption.{Caption}
use Rattle.charts.specs.declared.caption.Caption.TheVariants.{Title, Unopened, Party as AParty, Liar, CalledOff}
use Rattle.charts.specs.declared.layout.Layout.{Layout}
use Rattle.charts.specs.declared.layout.Place.{Place}
use Rattle.charts.specs.declared.layout.Slot.TheVariants.{Left}
use Rattle.charts.specs.declared.mark.Mark.TheVariants.{Title as ATitle}
use Rattle.charts.specs.declared.seen.Posted.{Posted}
use Rattle.charts.specs.declared.seen.Delivery.{Delivery}
use Rattle.charts.specs.declared.seen.Stay.{Stay}
use Rattle.charts.specs.declared.seen.Move.{Move}
use Rattle.charts.specs.declared.seen.Work.{Work}
use Rattle.charts.specs.declared.watch.Watch.{Watch}
use Rattle.charts.specs.Layouts.{has_lane}
use Rattle.charts.specs.Charts.{Layers, layers, empty, over, noted, headed, stayed, rowed, refused, delivered, lost, worked, explained, chart_text}
use Rattle.charts.specs.Seen.{place_in, stroke_of, name_of, delivery_of, stay_after, work_of}

-- the row of a line: no script has more lines than fit
abbrev pub row_of : ℕ → ℕ
row_of line = min line 65535

pub record Seen : Type 0 where
  pub chart : Layers
  pub layout : Layout
  pub marked : ReplicaSet
  pub posted : List Posted
  pub stays : List Stay
  pub works : List Work

abbrev pub seen : Watch → Seen
seen w = record { chart = layers w.chart; layout = w.layout; marked = w.marked; posted = w.posted.items; stays = w.stays.items; works = w.works.items }

abbrev pub as_list : Option Party → List Party
as_list None = []
as_list (Some p) = p ∷ []

-- the party, if it has a lane
abbrev pub with_lane : Layout → Option Party → List Party
with_lane l None = []
with_lane l (Some p) = cond (has_lane l p) (p ∷ []) []

-- the parties below this number that have a lane
unfoldable pub parties_below : Layout → ℕ → List Party
parties_below l zero = []
parties_below l (suc n) = parties_below l n ++ with_lane l (party_of n)

abbrev pub stay_from : ℕ → Party → Stay
stay_from row party = record { party = party; epoch = 0; since = row }

abbrev pub layout_of : SetUp → ℕ → Layout
layout_of asked rows = record { clients = min asked.clients 255; replicas = min asked.replicas 255; rows = rows }

-- what is known once the hall of this set-up is opened in a row
abbrev pub opened : SetUp → ℕ → Seen
opened asked row = record {
  chart = over empty (ATitle (Title (record { faults = asked.faults; replicas = asked.replicas; clients = asked.clients })));
  layout = layout_of asked row;
  marked = asked.marked;
  posted = [];
  stays = map (stay_from row) (parties_below (layout_of asked row) 164);
  works = [];
}

-- the entries behind the known ones were posted in a row
abbrev pub posted_in : ℕ → Entry → Posted
posted_in row e = record { entry = e; row = row; handed = false }

abbrev pub with_posts : Seen → List Entry → ℕ → Seen
with_posts w post row = record w { posted = w.posted ++ map (posted_in row) (drop (min (length w.posted) (length post)) post) }

-- the stays that a row has ended
abbrev pub all_moved : ℕ → Layers → List Move → Layers
all_moved row c [] = c
all_moved row c (m ∷ ms) = all_moved row (cond (m.epoch == m.stay.epoch) c (stayed c m.stay row)) ms

abbrev pub stay_of : ℕ → Move → Stay
stay_of row m = stay_after m.stay m.epoch row

abbrev pub with_moves : Seen → List Move → ℕ → Seen
with_moves w moves row = record w { chart = all_moved row w.chart moves; stays = map (stay_of row) moves }

-- the operations of a log from this number on, after a row
abbrev pub works_after : List Work → ℕ → ℕ → List Operation → List Work
works_after known row number [] = []
works_after known row number (op ∷ ops) = work_of (slice_get known number) op row ∷ works_after known row (number + 1) ops

abbrev pub with_works : Seen → List Operation → ℕ → Seen
with_works w log row = record w { works = works_after w.works row 0 log }

abbrev pub with_arrow : ℕ → Layers → Option Delivery → Layers
with_arrow clients c None = c
with_arrow clients c (Some d) = delivered clients c d

abbrev pub comes : Posted → ℕ → Option Place → ReplicaSet → Bool → Option Delivery
comes p number None marked refused = None
comes p number (Some to) marked refused = delivery_of p number to marked refused

abbrev pub with_delivery_of : Seen → Option Posted → ℕ → Option Place → Bool → Seen
with_delivery_of w None number to refused = w
with_delivery_of w (Some p) number to refused =
    record w {
      posted = slice_set w.posted number (record { entry = p.entry; row = p.row; handed = true });
      chart = with_arrow w.layout.clients w.chart (comes p number to w.marked refused);
    }

-- the entry of this number was handed to a party in a row
abbrev pub with_delivery : Seen → ℕ → ℕ → ℕ → Bool → Seen
with_delivery w number party row refused = with_delivery_of w (slice_get w.posted number) number (place_in party row) refused

abbrev pub with_note : Layers → Option Place → Caption → Layers
with_note c None caption = c
with_note c (Some at) caption = noted c at Left caption

abbrev pub ended_in : List Work → Option Work → ℕ → ℕ → List Work
ended_in works None number row = works
ended_in works (Some w) number row = slice_set works number (record { operation = w.operation; began = w.began; ended = Some row })

-- a client's operation of this number was called off in a row
abbrev pub with_end : Seen → ℕ → ℕ → ℕ → Seen
with_end w client number row =
    record w { works = ended_in w.works (slice_get w.works number) number row; chart = with_note w.chart (place_in client row) CalledOff }

-- the heads of these parties
abbrev pub head_of : Stroke → Party → Caption
head_of Whole party = AParty party
head_of Dashed party = Liar party

abbrev pub all_headed : ReplicaSet → ℕ → Layers → List Stay → Layers
all_headed marked rows c [] = c
all_headed marked rows c (s ∷ ss) = all_headed marked rows (headed c s.party (head_of (stroke_of marked s.party) s.party) rows) ss

-- the stays that last
abbrev pub all_stayed : ℕ → Layers → List Stay → Layers
all_stayed until c [] = c
all_stayed until c (s ∷ ss) = all_stayed until (stayed c s until) ss

-- the entries from this number on that were handed to nobody
abbrev pub with_loss : Layers → Option Place → Bool → Caption → Layers
with_loss c None handed name = c
with_loss c (Some at) true name = c
with_loss c (Some at) false name = lost c at name

abbrev pub all_lost : ℕ → Layers → List Posted → Layers
all_lost number c [] = c
all_lost number c (p ∷ ps) = all_lost (number + 1) (with_loss c (place_in p.entry.sender p.row) p.handed (name_of p.entry number)) ps

-- the operations, those without an end down to the last row
abbrev pub with_work : Layers → Option Place → ℕ → Operation → Layers
with_work c None until op = c
with_work c (Some at) until op = worked c at until op

abbrev pub all_worked : ℕ → Layers → List Work → Layers
all_worked last c [] = c
all_worked last c (w ∷ ws) = all_worked last (with_work c (place_in w.operation.client w.began) (unwrap_or w.ended last) w.operation) ws

-- the legend from its first line to its last
abbrev pub legend : List Sign
legend = Handed ∷ Lied ∷ Lost ∷ Refused ∷ Epoch ∷ AnOperation ∷ Unfinished ∷ []

abbrev pub all_explained : Layers → List Sign → Layers
all_explained c [] = c
all_explained c (s ∷ ss) = all_explained (explained c s) ss

-- so many rows, and what was refused in them
abbrev pub all_rowed : Layers → ℕ → Layers
all_rowed c zero = c
all_rowed c (suc n) = rowed (all_rowed c n) (suc n)

abbrev pub all_refused : Layers → List Refusal → Layers
all_refused c [] = c
all_refused c (x ∷ xs) = all_refused (refused c (row_of x.place) x) xs

abbrev pub margined : Layers → ℕ → List Refusal → Layers
margined c rows refusals = all_refused (all_rowed c rows) refusals

-- the chart at the end of a run that had so many rows and these refusals
abbrev pub finished : Seen → ℕ → List Refusal → Layers
finished w rows refusals =
    let last = row_of (rows + 1) in
    let operations = all_worked rows (all_stayed last (margined w.chart rows refusals) w.stays) w.works in
    all_explained (all_headed w.marked rows (all_lost 0 operations w.posted) w.stays) legend

abbrev pub with_rows : Layout → ℕ → Layout
with_rows l rows = record { clients = l.clients; replicas = l.replicas; rows = rows }

-- the picture of a script without a hall, of which all lines were refused
abbrev pub unopened_text : List Refusal → List ℕ
unopened_text refusals =
    let rows = row_of (length refusals) in
    chart_text (record { clients = 0; replicas = 0; rows = rows }) (margined (over empty (ATitle Unopened)) rows refusals)
