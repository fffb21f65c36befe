-- What has to be known of a slip in hand, so that it can be lodged.
use Rattle.std.specs.Prelude.{◌≡◌, ℕ, ◌-◌, Bool, true, false, cond, not, ◌&&◌, ◌==◌, length, nat_lt, Some, None, Option}
use Rattle.clients.specs.Lines.{is_idle}
use Rattle.model.specs.Halls.{Hall, has_its_tables, seat_of}
use Rattle.model.specs.Slips.{is_its_slip}

-- the tables are those of the opening, and the slip (c, k) is that of client c's present operation
pub record HasSlip (h : Hall) (c k : ℕ) : Type 0 where
  pub tables : has_its_tables h ≡ true
  pub its : is_its_slip h c k ≡ true

abbrev pub is_at : Option ℕ → ℕ → Bool
is_at None k = false
is_at (Some j) k = j == k

-- client c has an operation, and the slip that is lodged is its own
abbrev pub holds_its_slip : Hall → ℕ → Bool
holds_its_slip h c =
    cond (nat_lt (c - 1) (length h.seats))
    (not (is_idle (seat_of h c).line.stage) && is_at (seat_of h c).lodged (seat_of h c).operation) false
