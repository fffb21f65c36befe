-- Where lanes and rows lie in the picture.
use Rattle.std.specs.Prelude.{ℕ, ◌+◌, ◌-◌, ◌*◌, max, Bool, true, cond, nat_lt, nat_le}
use Rattle.wire.specs.declared.party.Party.{Party}
use Rattle.wire.specs.declared.party.Party.TheVariants.{Source, Client as AClient, Replica as AReplica}
use Rattle.picture.specs.declared.shape.Point.{Point}
use Rattle.picture.specs.declared.shape.Spot.{Spot}
use Rattle.picture.specs.declared.shape.Anchor.TheVariants.{Start, Middle, End}
use Rattle.charts.specs.Signs.{line_of}
use Rattle.charts.specs.declared.sign.Sign.{Sign}
use Rattle.charts.specs.declared.layout.Layout.{Layout}
use Rattle.charts.specs.declared.layout.Place.{Place}
use Rattle.charts.specs.declared.layout.Slot.{Slot}
use Rattle.charts.specs.declared.layout.Slot.TheVariants.{Left, LowerLeft, Right, LowerRight, Within, Head}

-- the lanes from the left: the source, so many clients, the replicas
abbrev pub lane_of : ℕ → Party → ℕ
lane_of clients Source = 0
lane_of clients (AClient c) = c.number
lane_of clients (AReplica r) = 1 + clients + r.number

abbrev pub has_lane : Layout → Party → Bool
has_lane l Source = true
has_lane l (AClient c) = nat_le c.number l.clients
has_lane l (AReplica r) = nat_lt r.number l.replicas

abbrev pub column : ℕ → Party → ℕ
column clients party = 170 + 120 * lane_of clients party

-- row 0 is that of the heads
abbrev pub height : ℕ → ℕ
height row = 70 + 26 * row

abbrev pub point_at : ℕ → ℕ → Point
point_at x y = record { x = x; y = y }

abbrev pub point_of : ℕ → Place → Point
point_of clients place = point_at (column clients place.party) (height place.row)

abbrev pub spot_by : ℕ → ℕ → Slot → Spot
spot_by x y Left = record { at = point_at (x - 16) y; anchor = End; size = 10 }
spot_by x y LowerLeft = record { at = point_at (x - 16) (y + 11); anchor = End; size = 10 }
spot_by x y Right = record { at = point_at (x + 16) y; anchor = Start; size = 10 }
spot_by x y LowerRight = record { at = point_at (x + 19) (y + 11); anchor = Start; size = 10 }
spot_by x y Within = record { at = point_at (x + 4) y; anchor = Middle; size = 10 }
spot_by x y Head = record { at = point_at x y; anchor = Middle; size = 13 }

-- where a text stands by a place
abbrev pub spot_of : ℕ → Place → Slot → Spot
spot_of clients place slot = spot_by (column clients place.party) (height place.row) slot

-- the side of a place that an arrow does not come from
abbrev pub far_side : ℕ → Place → Place → Slot
far_side clients from to = cond (nat_lt (lane_of clients from.party) (lane_of clients to.party)) Right Left

-- the legend begins two rows below the last one
abbrev pub legend_height : ℕ → Sign → ℕ
legend_height rows sign = 70 + 26 * (rows + 3 + line_of sign)

abbrev pub picture_width : Layout → ℕ
picture_width l = max (170 + 120 * (1 + l.clients + l.replicas)) 700

abbrev pub picture_height : Layout → ℕ
picture_height l = 70 + 26 * (l.rows + 10)
