-- The book: which rows are a party's, which of them are used, and what they make genuine.
use Rattle.std.specs.Prelude.{◌≡◌, ℕ, ◌+◌, ◌-◌, ◌*◌, min, Bool, true, false, cond, ◌&&◌, List, length, replicate, is_some, Ok, Err, Result, ◌==◌, nat_le, nat_lt, slice_index, slice_index_or}
use Rattle.wire.specs.declared.pair.Seal.{Seal}
use Rattle.wire.specs.declared.text.Text.{Text}
use Rattle.wire.specs.Parties.{party_of}
use Rattle.sealers.specs.declared.book.Book.{Book}
use Rattle.sealers.specs.declared.fault.SealerFault.{SealerFault}
use Rattle.sealers.specs.Sealing.{Desk, same_text, none_beside}
use Rattle.sealers.specs.declared.fault.SealerFault.TheVariants.{Limit}

abbrev pub no_text : Text
no_text = record { tag = 0; party = 0; number = 0; body = 0 }

-- the row of a party's next seal: behind those of its share that are used
abbrev pub next_row : Book → ℕ → ℕ
next_row b p = p * b.share + min (slice_index b.used p) b.share

-- the row behind the last of its share, within the table
abbrev pub end_row : Book → ℕ → ℕ
end_row b p = min (p * b.share + b.share) (length b.rows.now)

abbrev pub book_seals : Book → ℕ → ℕ
book_seals b p = cond (is_some (party_of p)) (end_row b p - next_row b p) 0

-- a seal is a row's number: it is genuine when that row is used by the text's party and holds that text
abbrev pub book_genuine : Book → Text → Seal → Bool
book_genuine b t s =
    is_some (party_of t.party) && (nat_le (t.party * b.share) s.0
    && (nat_lt s.0 (min (next_row b t.party) (length b.rows.now)) && same_text (slice_index_or b.rows.now s.0 no_text) t))

-- a text gets the next row of its party, and no other
abbrev pub book_allowed : Book → Text → Seal → Bool
book_allowed b t s = s.0 == next_row b t.party

abbrev pub book_desk : Book → Desk
book_desk b = record { genuine = book_genuine b; seals = book_seals b; allowed = book_allowed b; beside = none_beside }

-- a share of 1 to 256 rows, and as many rows in all as 164 parties have
abbrev pub book_fits : ℕ → ℕ → Bool
book_fits rows share = nat_le 1 share && (nat_le share 256 && rows == 164 * share)

-- an empty book over these rows, or a refusal
abbrev pub Opened : List Text → ℕ → Result Book SealerFault → Type 0
Opened rows share (Ok b) = (book_fits (length rows) share ≡ true) × (b.rows.now ≡ rows) × (b.share ≡ share) × (b.used ≡ replicate 164 0)
Opened rows share (Err fault) = (book_fits (length rows) share ≡ false) × (fault ≡ Limit)
