-- The keyed sealer: whose key is where, what it makes genuine, and how many seals are left.
use Rattle.std.specs.Prelude.{◌≡◌, ℕ, ◌-◌, ◌≤◌, Bool, false, cond, ◌&&◌, List, length, Some, None, Ok, Err, vec_items, Option, Result, nat_eq, nat_le}
use Rattle.std.specs.List.{All, slice_get}
use Rattle.std.specs.Option.{option_map, unwrap_or}
use Rattle.siphash.specs.Sip.{sip_hash}
use Rattle.wire.specs.declared.pair.Seal.{Seal}
use Rattle.wire.specs.declared.text.Text.{Text}
use Rattle.wire.specs.Texts.{text_bytes}
use Rattle.sealers.specs.declared.fault.SealerFault.{SealerFault}
use Rattle.sealers.specs.Sealing.{Desk, none_beside}
use Rattle.sealers.specs.declared.fault.SealerFault.TheVariants.{Limit}
use Rattle.sealers.specs.declared.keyed.Keyed.{Keyed}
use Rattle.sealers.specs.declared.keyed.KeyRow.{KeyRow}

-- the source and the clients have the rows of their numbers, and the replicas those behind
abbrev pub key_place : ℕ → Option ℕ
key_place p = cond (nat_le p 32) (Some p) (cond (nat_le 100 p && nat_le p 163) (Some (p - 67)) None)

abbrev pub row_at : List KeyRow → Option ℕ → Option KeyRow
row_at rows None = None
row_at rows (Some i) = slice_get rows i

-- the row of a party
abbrev pub key_row : Keyed → ℕ → Option KeyRow
key_row k p = row_at (vec_items k.rows) (key_place p)

-- the seal that a key gives a text
abbrev pub key_seal : KeyRow → Text → Seal
key_seal row t = record { 0 = sip_hash row.key.low row.key.high (text_bytes t) }

abbrev pub spent_row : KeyRow → KeyRow
spent_row row = record row { left = row.left - 1 }

abbrev pub keyed_seals : Keyed → ℕ → ℕ
keyed_seals k p = unwrap_or (option_map (λ row. row.left) (key_row k p)) 0

-- a seal is genuine when it is the one that the party's key gives the text
abbrev pub keyed_genuine : Keyed → Text → Seal → Bool
keyed_genuine k t s = unwrap_or (option_map (λ row. nat_eq (key_seal row t).0 s.0) (key_row k t.party)) false

-- a text gets the seal that is genuine for it
abbrev pub keyed_allowed : Keyed → Text → Seal → Bool
keyed_allowed k t s = keyed_genuine k t s

abbrev pub keyed_desk : Keyed → Desk
keyed_desk k = record { genuine = keyed_genuine k; seals = keyed_seals k; allowed = keyed_allowed k; beside = none_beside }

-- 97 rows, none with more than 1,000,000 seals
abbrev pub AllWithin : List KeyRow → Type 0
AllWithin rows = All (λ row. row.left ≤ 1000000) rows

abbrev pub KeysFit : List KeyRow → Type 0
KeysFit rows = (length rows ≡ 97) × AllWithin rows

-- a sealer over these rows, or a refusal
abbrev pub KeyedOpened : List KeyRow → Result Keyed SealerFault → Type 0
KeyedOpened rows (Ok k) = KeysFit rows × (vec_items k.rows ≡ rows)
KeyedOpened rows (Err fault) = (KeysFit rows → ⊥) × (fault ≡ Limit)
