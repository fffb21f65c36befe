-- What a tape holds: whole records one behind the other, of which the last of a replica counts.
-- Each meaning is total: none of them asks that the used part fits the bytes.
use Rattle.std.specs.Prelude.{ℕ, ◌+◌, ◌-◌, ◌*◌, ◌/◌, ◌%◌, min, cond, not, List, ◌++◌, length, take, drop, reverse, position, find, Some, None, Ok, Err, Option, Result, ◌==◌, nat_lt}
use Rattle.std.specs.List.{slice_range}
use Rattle.std.specs.Option.{option_map}
use Rattle.std.specs.Simd.{first_chunks}
use Rattle.stores.specs.declared.card.Card.{Card}
use Rattle.stores.specs.declared.fault.StoreFault.{StoreFault}
use Rattle.stores.specs.declared.fault.StoreFault.TheVariants.{NoSave, Damaged}
use Rattle.stores.specs.Saved.{Shelf}
use Rattle.tapes.specs.declared.tape.Tape.{Tape}
use Rattle.tapes.specs.Records.{encoded, decoded, marked}

-- the last of these records that is of replica n
abbrev pub last_of : List (List ℕ) → ℕ → Option (List ℕ)
last_of rs n = find (λ r. n == (decoded r).replica) (reverse rs)

-- the card of the last of these records that is of replica n
abbrev pub last_card : List (List ℕ) → ℕ → Option Card
last_card rs n = option_map (λ r. (decoded r).card) (last_of rs n)

-- the card in the 72 bytes of this record
abbrev pub card_in : List ℕ → ℕ → Card
card_in xs k = (decoded (slice_range xs (k * 72) (k * 72 + 72))).card

-- the card of the last of the first k records that is of replica n
abbrev pub found : List ℕ → ℕ → ℕ → Option Card
found xs n k = last_card (first_chunks 72 k xs) n

-- the bytes of a tape, and how many are used
pub record Lent : Type 0 where
  pub bytes : List ℕ
  pub used : ℕ

abbrev pub lent : Tape → Lent
lent t = record { bytes = t.bytes.now; used = t.used }

-- how many whole records there are, and how many more fit
abbrev pub whole : Lent → ℕ
whole l = min l.used (length l.bytes) / 72

abbrev pub room : Lent → ℕ
room l = length l.bytes / 72 - whole l

-- the card of a replica's number; a record of a number above 63 is no replica's
abbrev pub card_of : Lent → ℕ → Option Card
card_of l n = cond (nat_lt n 64) (found l.bytes n (whole l)) None

abbrev pub shelf_of : Lent → Shelf
shelf_of l = record { place = card_of l; saves = Some (room l); next = whole l }

-- the first of the first k records that has no mark
abbrev pub unmarked : List ℕ → ℕ → Option ℕ
unmarked xs k = position (λ r. not (marked r)) (first_chunks 72 k xs)

abbrev pub damaged : Option ℕ → Result (Unit {0}) StoreFault
damaged None = Ok tt
damaged (Some k) = Err (Damaged k)

-- whether the first `used` bytes are whole records with their marks, or else the first record that is damaged
abbrev pub inspected : List ℕ → ℕ → Result (Unit {0}) StoreFault
inspected xs used =
    cond (nat_lt (length xs) used) (Err (Damaged (length xs / 72)))
    (cond (used % 72 == 0) (damaged (unmarked xs (used / 72)))
    (Err (Damaged (used / 72))))

abbrev pub seen : Result Tape StoreFault → Result Lent StoreFault
seen (Ok t) = Ok (lent t)
seen (Err e) = Err e

abbrev pub passed : Result (Unit {0}) StoreFault → Lent → Result Lent StoreFault
passed (Ok u) l = Ok l
passed (Err e) l = Err e

-- the tape that is opened has the bytes as they are
abbrev pub opened : List ℕ → ℕ → Result Lent StoreFault
opened xs used = passed (inspected xs used) (record { bytes = xs; used = used })

-- what a save answers, and leaves of the tape
pub record Changed : Type 0 where
  pub answer : Result (Unit {0}) StoreFault
  pub tape : Lent

abbrev pub changed : Result (Unit {0}) StoreFault → Tape → Changed
changed r t = record { answer = r; tape = lent t }

-- the bytes with a record in the 72 behind the first k records
abbrev pub written : List ℕ → ℕ → ℕ → Card → List ℕ
written xs k n card = take (k * 72) xs ++ (encoded n card ++ drop (k * 72 + 72) xs)

abbrev pub longer : Lent → ℕ → Card → Lent
longer l n card = record { bytes = written l.bytes (whole l) n card; used = whole l * 72 + 72 }

abbrev pub appended : Lent → ℕ → Card → Changed
appended l n card =
    cond (nat_lt (whole l) (length l.bytes / 72))
    (record { answer = Ok tt; tape = longer l n card })
    (record { answer = Err (NoSave (whole l)); tape = l })
