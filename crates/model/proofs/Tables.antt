-- Tables with one more element, or with another one at a place, and the seats of a hall.
-- Told from the lists that they are.
use Rattle.std.proofs.Common.{◌≡◌, ℕ, ◌+◌, ◌-◌, ◌<◌, ◌≤◌, false, ◌&&◌, eqb, List, [], ◌∷◌, ◌++◌, length, get_or, Some, Option, sym, refl, ap, ◌∙◌, subst, arith, length-append, set, length-set, get_or-set_other, get_or-set_same, eqb-true, None}
use Rattle.std.proofs.lemmas.Bool.{and_parts}
use native.Mathlib.Decide.{dec_lt, ℕ_discrete}
use lib.ListN.{get_or-append}
use lib.Seq.{get_or-append_seam}
use borrow.Author.Tests.{clash}
use Rattle.std.proofs.lemmas.List.{get_or_past}
use Rattle.wire.specs.declared.entry.Entry.{Entry}
use Rattle.clients.specs.declared.line.Line.{Line}
use Rattle.halls.specs.declared.operation.Operation.{Operation}
use Rattle.halls.specs.declared.seat.Seat.{Seat}
use Rattle.model.specs.Tables.{Table, is_empty, is_full, tail, added, places}
use Rattle.model.specs.Halls.{Hall, World, no_operation, no_seat, seat_of, with_post, operation_of, end_of}
use Rattle.model.specs.Delivering.{posting, client_moves}
use Rattle.model.proofs.Invariants.{Sized, SeatRule}

-- elements of a list with one more behind it
pub before_end : {T : Type 0} (xs : List T) (x d : T) (n : ℕ) → n < length xs → get_or (xs ++ (x ∷ [])) n d ≡ get_or xs n d
before_end xs x d n lt = get_or-append xs (x ∷ []) d n lt

pub at_end : {T : Type 0} (xs : List T) (x d : T) → get_or (xs ++ (x ∷ [])) (length xs) d ≡ x
at_end xs x d = get_or-append_seam xs x [] d

-- what holds of each element, and of the one behind them, holds of all
pub each_with : {T : Type 0} (P : ℕ → T → Type 0) (xs : List T) (x d : T) → ((n : ℕ) → n < length xs → P n (get_or xs n d)) → P (length xs) x
    → (n : ℕ) → n < length (xs ++ (x ∷ [])) → P n (get_or (xs ++ (x ∷ [])) n d)
each_with {T} P xs x d old new n lt = by_place (dec_lt n (length xs))
  where
    by_place : Dec (n < length xs) → P n (get_or (xs ++ (x ∷ [])) n d)
    by_place (yes before) = subst (P n) (sym (before_end xs x d n before)) (old n before)
    by_place (no behind) = subst (λ m. P m (get_or (xs ++ (x ∷ [])) m d)) last (subst (P (length xs)) (sym (at_end xs x d)) new)
      where
        last : length xs ≡ n
        last = omega (arith, behind, simp length-append at lt)

-- a table with room is as long with one more in it
pub places_added : {T : Type 0} (t : Table T) (x : T) → is_full t ≡ false → places (added t x) ≡ places t
places_added {T} t x room = sized t.list t.rest room
  where
    sized : (xs ys : List T) → is_empty ys ≡ false → length (xs ++ (x ∷ [])) + length (tail ys) ≡ length xs + length ys
    sized xs [] e = absurd (clash (sym e))
    sized xs (y ∷ ys) e = simp length-append (omega arith)

-- an operation of a log with another one at place k, as far as one looks at what that one keeps of the old
pub set_keeps : {X : Type 0} (f : Operation → X) (xs : List Operation) (k j : ℕ) (x : Operation) → (j ≡ k → f x ≡ f (get_or xs k no_operation)) → f (get_or (set xs k x) j no_operation) ≡ f (get_or xs j no_operation)
set_keeps f xs k j x e = by_place (ℕ_discrete j k) (dec_lt k (length xs))
  where
    by_place : Dec (j ≡ k) → Dec (k < length xs) → f (get_or (set xs k x) j no_operation) ≡ f (get_or xs j no_operation)
    by_place (no ne) d = ap f (get_or-set_other xs k j x no_operation ne)
    by_place (yes same) (yes lt) = ap (λ m. f (get_or (set xs k x) m no_operation)) same ∙ ap f (get_or-set_same xs k x no_operation lt) ∙ e same ∙ ap (λ m. f (get_or xs m no_operation)) (sym same)
    by_place (yes same) (no past) =
        ap f (get_or_past (set xs k x) j no_operation (rw (length-set xs k x) (omega arith))) ∙ sym (ap f (get_or_past xs j no_operation (omega arith)))

-- the post with what a step answers
abbrev pub table_after : Table Entry → Option Entry → Table Entry
table_after table None = table
table_after table (Some x) = added table x

-- a step changes the post, and nothing else by what it answers
pub posting_is : (h : Hall) (post : Option Entry) → posting h post ≡ with_post h (table_after h.post post)
posting_is h None = refl
posting_is h (Some x) = refl

-- what has ended is in the log
pub ended_logged : (h : Hall) (k : ℕ) → 0 < end_of (operation_of h k) → k < length h.log.list
ended_logged h k o = by_place (dec_lt k (length h.log.list))
  where
    by_place : Dec (k < length h.log.list) → k < length h.log.list
    by_place (yes lt) = lt
    by_place (no past) = absurd (omega (arith, o, ap (λ z. end_of z) (get_or_past h.log.list k no_operation (omega arith))))

-- there is one seat for each client
pub seats_many : (h : Hall) → Sized h → length h.seats ≡ h.rules.clients
seats_many h s =
    let all = and_parts (eqb (places h.post) h.lengths.post && eqb (places h.log) h.lengths.log)
    (eqb (places h.roll) h.lengths.roll && eqb (length h.seats) h.rules.clients) s.tables in
    eqb-true _ _ (and_parts (eqb (places h.roll) h.lengths.roll) (eqb (length h.seats) h.rules.clients) all.1).1

-- the seats with another for client c
pub seat_same : (h : Hall) (c : ℕ) (seat : Seat) → Sized h → 1 ≤ c → c ≤ h.rules.clients → get_or (set h.seats (c - 1) seat) (c - 1) no_seat ≡ seat
seat_same h c seat sized low high = let inside : c - 1 < length h.seats = omega (arith, seats_many h sized) in get_or-set_same h.seats (c - 1) seat no_seat inside

pub seat_other : (h : Hall) (c d : ℕ) (seat : Seat) → 1 ≤ c → 1 ≤ d → (d ≡ c → ⊥) → get_or (set h.seats (c - 1) seat) (d - 1) no_seat ≡ seat_of h d
seat_other h c d seat low low' ne = get_or-set_other h.seats (c - 1) (d - 1) seat no_seat (λ e. ne (omega arith))

-- the seats after a step of client c
pub moved_seats : (h : Hall) (c : ℕ) (line : Line) (post : Option Entry) (seals : ℕ → ℕ) → (client_moves h c (seat_of h c) line post seals).seats ≡ set h.seats (c - 1) (record (seat_of h c) { line = line })
moved_seats h c line post seals = ap (λ x. x.seats) (posting_is _ post)

pub moved_line : (h : Hall) (c : ℕ) (line : Line) (post : Option Entry) (seals : ℕ → ℕ) → Sized h → 1 ≤ c → c ≤ h.rules.clients → (seat_of (client_moves h c (seat_of h c) line post seals) c).line ≡ line
moved_line h c line post seals sized low high = ap (λ s. (get_or s (c - 1) no_seat).line) (moved_seats h c line post seals) ∙ ap (λ s. s.line) (seat_same h c _ sized low high)

-- each seat keeps its rule: that of client c, and the others
pub seats_with : {kind : ℕ} {h : Hall} {w' : World} (c : ℕ) (seat : Seat) → Sized h → 1 ≤ c → c ≤ h.rules.clients → SeatRule kind w' c seat
    → ((d : ℕ) → 1 ≤ d → d ≤ h.rules.clients → (d ≡ c → ⊥) → SeatRule kind w' d (seat_of h d))
    → (d : ℕ) → 1 ≤ d → d ≤ h.rules.clients → SeatRule kind w' d (get_or (set h.seats (c - 1) seat) (d - 1) no_seat)
seats_with {kind} {h} {w'} c seat sized low high own others d dlow dhigh = by_client (ℕ_discrete d c)
  where
    by_client : Dec (d ≡ c) → SeatRule kind w' d (get_or (set h.seats (c - 1) seat) (d - 1) no_seat)
    by_client (yes e) = subst (λ z. SeatRule kind w' z (get_or (set h.seats (c - 1) seat) (z - 1) no_seat)) (sym e)
        (subst (SeatRule kind w' c) (sym (seat_same h c seat sized low high)) own)
    by_client (no ne) = subst (SeatRule kind w' d) (sym (seat_other h c d seat low dlow ne)) (others d dlow dhigh ne)
