-- The memory of a script's hall, and its store and book at the opening. Assumes nothing.
use Rattle.std.proofs.Common.{◌≡◌, ℕ, ◌+◌, ◌-◌, ◌*◌, min, Bool, true, false, cond, List, [], ◌∷◌, length, replicate, take, length-append, get_or, is_some, None, Err, Option, Result, IfOk, refl, ap, ◌∙◌, subst, arith}
use Rattle.std.specs.Vec.{vec_items, vec_len}
use Rattle.std.proofs.lemmas.List.{get_or-replicate, take-replicate}
use Rattle.std.proofs.lemmas.Result.{IfOk-weaker}
use Rattle.refusals.specs.declared.Refusal.{Refusal}
use Rattle.wire.specs.Parties.{party_of}
use Rattle.stores.specs.Saved.{Shelf}
use Rattle.stores.specs.declared.cabinet.Cabinet.{Cabinet}
use Rattle.stores.specs.Cabinets.{kept, cabinet_shelf}
use Rattle.sealers.specs.Sealing.{Desk}
use Rattle.sealers.specs.declared.book.Book.{Book}
use Rattle.sealers.specs.Books.{book_seals, book_desk, end_row, next_row}
use Rattle.sealers.proofs.Rows.{party_below}
use Rattle.halls.specs.declared.seat.Seat.{Seat}
use Rattle.script.specs.declared.command.SetUp.{SetUp}
use Rattle.script.specs.Reports.{printed}
use Rattle.model.specs.Halls.{World, no_entry, no_operation, no_configuration}
use Rattle.register.specs.Openings.{Lent}
use Rattle.runner.specs.declared.fault.ScriptFault.{ScriptFault}
use Rattle.runner.specs.declared.memory.Memory.{Memory}
use Rattle.runner.specs.Opened.{Fresh}
use Rattle.runner.specs.Openings.{empty_seat, tables_for, empty_cabinet, fresh_book, opening_over, opening}
use Rattle.runner.specs.Texts.{limit, script_lines, Numbered, Countable}
use Rattle.runner.specs.Outputs.{Begun, Ran, FirstSetUp, Goes, unopened, played, Shows, without_set_up, with_set_up, all_refused, unread, number_of, behind_of}
use Rattle.runner.specs.Turns.{Found, Searched, Played}
use Rattle.runner.proofs.Chains.{run_to}
use Rattle.runner.proofs.Texts.{few, read_of}

-- empty tables over fresh places
lent_as : (t : Lent) (clients : ℕ) → t.post.list ≡ [] → t.post.rest ≡ replicate 512 no_entry → t.log.list ≡ [] → t.log.rest ≡ replicate 64 no_operation
    → t.roll.list ≡ [] → t.roll.rest ≡ replicate 16 no_configuration → t.seats ≡ replicate (min 32 clients) empty_seat → t ≡ tables_for clients
lent_as t clients post post_rest log log_rest roll roll_rest seats i = record {
  post = record { list = post i; rest = post_rest i };
  log = record { list = log i; rest = log_rest i };
  roll = record { list = roll i; rest = roll_rest i };
  seats = seats i;
}

seats_as : (n len clients : ℕ) (xs : List Seat) → n ≡ min len clients → len ≡ 32 → xs ≡ replicate 32 empty_seat → take n xs ≡ replicate (min 32 clients) empty_seat
seats_as n len clients xs e many is =
    let few : n ≡ min 32 clients = e ∙ ap (λ m. min m clients) many in
    ap (λ m. take m xs) few ∙ ap (take (min 32 clients)) is ∙ take-replicate (min 32 clients) 32 empty_seat (omega arith)

cabinet_as : (c : Cabinet) → ((n : ℕ) → kept c n ≡ None) → cabinet_shelf c ≡ empty_cabinet
cabinet_as c none i = record { place = λ n. none n i; saves = None; next = 0 }

-- of a sealer only how many seals are left is looked at
opening_as : (t : Lent) (shelf : Shelf) (desk : Desk) (asked : SetUp) → t ≡ tables_for asked.clients → shelf ≡ empty_cabinet → desk.seals ≡ fresh_book.seals
    → opening_over t shelf desk asked ≡ opening asked
opening_as t shelf desk asked tables store seals i =
    opening_over (tables i) (store i) (record { genuine = fresh_book.genuine; seals = seals i; allowed = fresh_book.allowed; beside = fresh_book.beside }) asked

-- each party has 64 seals left in a book that has just been opened
seals_fresh : (b : Book) → b.share ≡ 64 → b.used ≡ replicate 164 0 → length b.rows.now ≡ 164 * 64 → book_seals b ≡ fresh_book.seals
seals_fresh b share used rows i p = by_party (is_some (party_of p)) refl i
  where
    by_party : (known : Bool) → is_some (party_of p) ≡ known → cond known (end_row b p - next_row b p) 0 ≡ cond known 64 0
    by_party false is = refl
    by_party true is =
        let low = party_below p is in
        let none : get_or b.used p 0 ≡ 0 = ap (λ us. get_or us p 0) used ∙ get_or-replicate {A = ℕ} 164 p 0 0 low in
        rw (share, none, rows) (omega (arith, low))

-- over fresh memory, with an empty cabinet and a book that has just been opened, the opening is the one that is asked for
pub as_asked : (t : Lent) (c : Cabinet) (b : Book) (asked : SetUp) {m : Memory} → Fresh m
    → t.post.list ≡ [] → t.post.rest ≡ vec_items m.post → t.log.list ≡ [] → t.log.rest ≡ vec_items m.log → t.roll.list ≡ [] → t.roll.rest ≡ vec_items m.roll
    → (n len : ℕ) → n ≡ min len asked.clients → len ≡ vec_len m.seats → t.seats ≡ take n (vec_items m.seats)
    → ((k : ℕ) → kept c k ≡ None) → b.share ≡ 64 → b.used ≡ replicate 164 0 → b.rows.now ≡ vec_items m.rows
    → opening_over t (cabinet_shelf c) (book_desk b) asked ≡ opening asked
as_asked t c b asked fresh post post_rest log log_rest roll roll_rest n len few many seats none share used rows =
    opening_as t (cabinet_shelf c) (book_desk b) asked
    (lent_as t asked.clients post (post_rest ∙ fresh.post) log (log_rest ∙ fresh.log) roll (roll_rest ∙ fresh.roll) (seats ∙ seats_as n len asked.clients _ few (many ∙ fresh.many) fresh.seats))
    (cabinet_as c none) (seals_fresh b share used (ap length rows ∙ fresh.rows))

-- what comes of a set-up that is refused
pub goes_not : {S E : Type 0} (bytes : S → List ℕ) (r : Result S E) (asked : SetUp) (number : ℕ) (l : Numbered) (before : List Refusal) (fault : ScriptFault) → opening asked ≡ Err fault
    → IfOk r (λ s. bytes s ≡ printed [] [] (all_refused number l before fault)) → IfOk r (λ s. Goes asked number l before (bytes s))
goes_not bytes r asked number l before fault is = IfOk-weaker r _ _ (λ s shown. unopened fault is shown)

-- lines that are played in a hall that has just been opened are a run, which keeps the promise
abbrev pub ran : {asked : SetUp} {l : Numbered} {start last : World} {old new : List Refusal} → Begun asked start → Played l start old last new → Ran asked l
ran {start = start} {last = last} begun p =
    let run = run_to begun.none p.plays in
    record {
      start = start;
      begun = begun;
      last = last;
      refusals = p.refusals;
      plays = p.plays;
      run = run;
      kept = begun.promised.promised.keeps run.run (begun.promised.promised.unforged run.run run.only);
    }

-- what comes of a set-up that is not refused
pub goes : {S E : Type 0} (bytes : S → List ℕ) (r : Result S E) (asked : SetUp) (number : ℕ) (l : Numbered) (before : List Refusal) (start last : World) (all : List Refusal)
    → Begun asked start → Played l start before last all
    → IfOk r (λ s. bytes s ≡ printed last.hall.roll.list last.hall.log.list all) → IfOk r (λ s. Goes asked number l before (bytes s))
goes bytes r asked number l before start last all begun p =
    IfOk-weaker r _ _ (λ s shown. played (ran begun p) (shown ∙ ap (printed last.hall.roll.list last.hall.log.list) p.refused))

-- the search goes over the lines of the script, from the first on
pub searched : (text : List ℕ) (n : ℕ) → n ≡ min (length text) limit → (l : Numbered) → l ≡ record { number = 1; lines = script_lines (take n text) }
    → (old : List Refusal) → old ≡ [] → (found : Option (ℕ × SetUp)) (next : Numbered) (new : List Refusal) → (Countable l → Searched l old found next new)
    → Searched (record { number = 1; lines = script_lines (take limit text) }) [] found next new
searched text n is l lines old none found next new so =
    subst (λ t. Searched (record { number = 1; lines = script_lines t }) [] found next new) (read_of text n is).1
    (subst (λ m. Searched m [] found next new) lines (subst (λ o. Searched l o found next new) none (so (few text n l is lines))))

-- the lines behind the first set-up, or none
module _ (lines : List (List ℕ)) where
  module _ (number : ℕ) (asked : SetUp) (next : Numbered) (new : List Refusal) (found : Found (record { number = 1; lines = lines }) [] number asked next new) where
    abbrev pub first : FirstSetUp lines
    first = record { before = found.before; line = found.line; behind = next.lines; parts = found.parts; none = found.none; asked = asked; asks = found.asks }

    -- what comes of the set-up that was found comes of the first one
    pub from_first : (P : SetUp → ℕ → Numbered → List Refusal → Type 0) → P asked number next new → P asked (number_of first) (behind_of first) (unread 1 first.before)
    from_first P p = subst (λ n. P asked n (record { number = n + 1; lines = next.lines }) (unread 1 found.before)) found.place
        (subst (λ rs. P asked number (record { number = number + 1; lines = next.lines }) rs) found.refused
        (subst (λ m. P asked number (record { number = m; lines = next.lines }) new) found.follows p))

    pub shows : (text : List ℕ) → Goes asked number next new text → Shows lines text
    shows text does = with_set_up first (from_first (λ a n m before. Goes a n m before text) does)

  pub shows_none : (next : Numbered) (new : List Refusal) (text : List ℕ) → Searched (record { number = 1; lines = lines }) [] None next new → text ≡ printed [] [] new → Shows lines text
  shows_none next new text none shown = without_set_up none.0 (shown ∙ ap (printed [] []) none.1)

-- there is still a number for each line
pub still : (text : List ℕ) (next : Numbered) (new : List Refusal) (number : ℕ) (asked : SetUp)
    → Found (record { number = 1; lines = script_lines (take limit text) }) [] number asked next new → Countable next
still text next new number asked f =
    let n = min (length text) limit in
    let l = script_lines (take limit text) in
    let numbers = subst (λ t. Countable (record { number = 1; lines = script_lines t })) (read_of text n refl).1 (few text n (record { number = 1; lines = script_lines (take n text) }) refl refl) in
    let many : length l ≡ length f.before + (length next.lines + 1) = ap length f.parts ∙ length-append f.before (f.line ∷ next.lines) ∙ omega arith in
    omega (arith, numbers, f.place, f.follows, many)
