-- What a list holds, what lies behind it in the slice, and what a change makes of the two.
-- The used part fits the slice, by the type; no meaning here asks for it.
use Rattle.std.specs.Prelude.{ℕ, cond, List, [], ◌∷◌, ◌++◌, length, take, drop, Ok, Err, Result, nat_lt, slice_set}
use Rattle.std.specs.Borrow.{GName}
use Rattle.lists.specs.declared.List.{List as Lent}

-- The elements of the list, in order.
abbrev pub held : {T : Type 0} → Lent T → List T
held l = take l.used l.items.now

-- The elements of the slice behind the list: the room that is left.
abbrev pub behind : {T : Type 0} → Lent T → List T
behind l = drop l.used l.items.now

-- The slice that is lent, whatever it holds.
abbrev pub slice : {T : Type 0} → Lent T → GName
slice l = l.items.ghost_name

-- What a change leaves: its answer, the list, and what lies behind it.
pub record Changed (A T : Type 0) : Type 0 where
  pub answer : A
  pub list : List T
  pub rest : List T

-- What a change leaves that answers r, and after which the list is l.
abbrev pub after : {A T : Type 0} → A → Lent T → Changed A T
after r l = record { answer = r; list = held l; rest = behind l }

-- The item takes the place of the first element behind the list; with none there it is handed back.
abbrev pub appended : {T : Type 0} → List T → List T → T → Changed (Result ℕ T) T
appended xs [] item = record { answer = Err item; list = xs; rest = [] }
appended xs (y ∷ ys) item = record { answer = Ok (length xs); list = xs ++ item ∷ []; rest = ys }

-- The item takes a place of the list; at every other place it is handed back.
abbrev pub replaced : {T : Type 0} → List T → List T → ℕ → T → Changed (Result (Unit {0}) T) T
replaced xs ys place item =
    cond (nat_lt place (length xs))
    (record { answer = Ok tt; list = slice_set xs place item; rest = ys })
    (record { answer = Err item; list = xs; rest = ys })
