-- What the tables and the store show after a line, and what a line by itself adds to a chart.
use Rattle.std.specs.Prelude.{ℕ, ◌-◌, Bool, true, false, cond, ◌==◌, List, length, map, slice_get, is_some, Some, None, Option, unwrap_or}
use Rattle.std.specs.Option.{option_map}
use Rattle.wire.specs.declared.pair.Configuration.{Configuration}
use Rattle.wire.specs.declared.party.Party.{Party}
use Rattle.wire.specs.declared.party.Party.TheVariants.{Source, Client as AClient, Replica as AReplica}
use Rattle.stores.specs.declared.card.Card.{Card}
use Rattle.halls.specs.declared.seat.Seat.{Seat}
use Rattle.halls.specs.declared.fault.HallFault.{HallFault}
use Rattle.halls.specs.declared.fault.HallFault.TheVariants.{Step}
use Rattle.model.specs.Halls.{Hall as AHall}
use Rattle.script.specs.declared.command.Command.{Command}
use Rattle.script.specs.declared.command.Command.TheVariants.{SetUp, Issue, Read, Write, Deliver, CallOff, Collect, Meddle}
use Rattle.runner.specs.declared.fault.ScriptFault.{ScriptFault}
use Rattle.runner.specs.declared.fault.ScriptFault.TheVariants.{Unreadable, Kind, Hall}
use Rattle.charts.specs.declared.seen.Stay.{Stay}
use Rattle.charts.specs.declared.seen.Move.{Move}
use Rattle.charts.specs.Watches.{Seen, with_posts, with_moves, with_works, with_delivery, with_end}

-- the epoch of the newest configuration
abbrev pub newest : List Configuration → Option ℕ
newest roll = option_map (λ (c : Configuration). c.epoch) (slice_get roll (length roll - 1))

-- the seat of the client of this number
abbrev pub seat_in : List Seat → ℕ → Option Seat
seat_in seats client = cond (client == 0) None (slice_get seats (client - 1))

-- the epoch of a party: by the roll, by its seat, by its card
abbrev pub epoch_in : List Configuration → List Seat → (ℕ → Option Card) → Party → Option ℕ
epoch_in roll seats place Source = newest roll
epoch_in roll seats place (AClient c) = option_map (λ (s : Seat). s.line.configuration.epoch) (seat_in seats c.number)
epoch_in roll seats place (AReplica r) = option_map (λ (card : Card). card.epoch) (place r.number)

abbrev pub move_in : List Configuration → List Seat → (ℕ → Option Card) → Stay → Move
move_in roll seats place stay = record { stay = stay; epoch = unwrap_or (epoch_in roll seats place stay.party) stay.epoch }

abbrev pub is_step : HallFault → Bool
is_step (Step entry fault) = true
is_step _ = false

-- whether the entry of a line D came to its party: nothing or its step refused it
abbrev pub is_handed : Option ScriptFault → Bool
is_handed None = true
is_handed (Some Unreadable) = false
is_handed (Some (Kind fault)) = false
is_handed (Some (Hall fault)) = is_step fault

abbrev pub with_call_off : Seen → Option Seat → ℕ → ℕ → Seen
with_call_off w None client row = w
with_call_off w (Some seat) client row = with_end w client seat.operation row

-- what a line asks for was done in a row, or refused by this
abbrev pub with_command : Seen → List Seat → Option Command → Option ScriptFault → ℕ → Seen
with_command w seats None fault row = w
with_command w seats (Some (SetUp asked)) fault row = w
with_command w seats (Some (Issue set)) fault row = w
with_command w seats (Some (Read client)) fault row = w
with_command w seats (Some (Write client grams lot)) fault row = w
with_command w seats (Some (Deliver entry party)) fault row = cond (is_handed fault) (with_delivery w entry party row (is_some fault)) w
with_command w seats (Some (CallOff client)) fault row = cond (is_some fault) w (with_call_off w (seat_in seats client) client row)
with_command w seats (Some (Collect client)) fault row = w
with_command w seats (Some (Meddle party entry)) fault row = w

-- what is known after a row that has left the hall so
abbrev pub looked : Seen → AHall → ℕ → Seen
looked w h row = with_works (with_moves (with_posts w h.post.list row) (map (move_in h.roll.list h.seats h.place) w.stays) row) h.log.list row

-- the same, where this was asked for in the row, and done or refused
abbrev pub noticed : Seen → AHall → Option Command → Option ScriptFault → ℕ → Seen
noticed w h asked fault row = with_command (looked w h row) h.seats asked fault row
