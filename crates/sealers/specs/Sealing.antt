-- What it is to seal a text: who may, what falls, and what is genuine then.
use Rattle.std.specs.Prelude.{◌≡◌, ℕ, ◌-◌, Bool, true, false, cond, ◌&&◌, ◌||◌, Some, None, Ok, Err, Option, Result, ◌==◌}
use Rattle.wire.specs.declared.pair.Seal.{Seal}
use Rattle.wire.specs.declared.text.Text.{Text}
use Rattle.sealers.specs.declared.fault.SealerFault.{SealerFault}
use Rattle.sealers.specs.declared.fault.SealerFault.TheVariants.{NoSeal}

abbrev pub same_text : Text → Text → Bool
same_text t u = t.tag == u.tag && (t.party == u.party && (t.number == u.number && t.body == u.body))

-- the meaning of a sealer
pub record Desk : Type 0 where
  -- which seals are genuine for a text, which names its party
  pub genuine : Text → Seal → Bool
  -- how many seals the party of each number has left
  pub seals : ℕ → ℕ
  -- which seals a text may get: the rules leave it open, and say only that the one that is given is genuine then
  pub allowed : Text → Seal → Bool
  -- which seals become genuine beside it once a text is sealed: open too, and none where the sealer lets no other in
  pub beside : Text → Text → Seal → Bool

-- the answer, and the seals that each party then has left
pub record Sealed : Type 0 where
  pub answer : Result Seal SealerFault
  pub seals : ℕ → ℕ

-- one seal fewer for this party
abbrev pub spent : (ℕ → ℕ) → ℕ → ℕ → ℕ
spent seals party p = cond (p == party) (seals p - 1) (seals p)

-- refused exactly when the text's party has no seal left; else the seal is given, and that party's number alone falls, by one
abbrev pub sealed : (ℕ → ℕ) → Seal → Text → Sealed
sealed seals given text =
    cond (seals text.party == 0)
    (record { answer = Err (NoSeal text.party); seals = seals })
    (record { answer = Ok given; seals = spent seals text.party })

-- no other seal becomes genuine
abbrev pub none_beside : Text → Text → Seal → Bool
none_beside text t s = false

-- what is genuine once a text is sealed: all that was so before, the seal that it got, and what the sealer makes so beside it
abbrev pub genuine_with : Desk → Text → Seal → Text → Seal → Bool
genuine_with desk text given t s = desk.genuine t s || ((same_text t text && s.0 == given.0) || desk.beside text t s)

-- which seals are genuine once this text is sealed; where none is, nothing changes
abbrev pub genuine_then : Desk → Option Text → Seal → Text → Seal → Bool
genuine_then desk None given = desk.genuine
genuine_then desk (Some text) given = genuine_with desk text given

-- what becomes of a sealer: this text was sealed and got this seal, or none was
pub record Seals (before : Desk) (text : Option Text) (given : Seal) (after : Desk) : Type 0 where
  pub allowed : (t : Text) → text ≡ Some t → before.allowed t given ≡ true
  pub genuine : after.genuine ≡ genuine_then before text given

-- the seal that was given; where none was, any
abbrev pub seal_in : Result Seal SealerFault → Seal
seal_in (Ok seal) = seal
seal_in (Err fault) = record { 0 = 0 }

-- the text that was sealed, if it was
abbrev pub sealed_text : Text → Result Seal SealerFault → Option Text
sealed_text text (Ok seal) = Some text
sealed_text text (Err fault) = None

-- what comes of sealing a text and checking the seal, for a party that has this many seals left
abbrev pub checked : ℕ → ℕ → Result Bool SealerFault
checked seals party = cond (seals == 0) (Err (NoSeal party)) (Ok true)
