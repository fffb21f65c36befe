-- The begin and the step of a client: what they answer, and what they leave of its line and of the sealer.
use Rattle.std.specs.Prelude.{◌≡◌, ℕ, ◌+◌, if◌then◌else◌, not, ◌&&◌, is_some, Some, None, Ok, Err, Option, Result, ◌==◌, nat_lt}
use Rattle.kinds.specs.declared.word.Word.{Word}
use Rattle.wire.specs.declared.entry.Entry.{Entry}
use Rattle.wire.specs.declared.pair.Seal.{Seal}
use Rattle.wire.specs.declared.text.Text.{Text}
use Rattle.wire.specs.Texts.{pair_text}
use Rattle.wire.specs.Parties.{Client}
use Rattle.sealers.specs.declared.fault.SealerFault.{SealerFault}
use Rattle.sealers.specs.declared.fault.SealerFault.TheVariants.{NoSeal}
use Rattle.sealers.specs.Sealing.{Desk, Sealed, Seals, sealed}
use Rattle.rules.specs.declared.objection.Objection.TheVariants.{TooHigh}
use Rattle.rules.specs.declared.rules.Rules.{Rules}
use Rattle.rules.specs.Genuine.{genuine_entry}
use Rattle.clients.specs.declared.fault.ClientFault.{ClientFault}
use Rattle.clients.specs.declared.fault.ClientFault.TheVariants.{Busy, Objects, Sealer}
use Rattle.clients.specs.declared.line.Line.{Line}
use Rattle.clients.specs.declared.line.Stage.TheVariants.{Reading}
use Rattle.clients.specs.declared.turn.Turn.TheVariants.{Moves, Stamps}
use Rattle.clients.specs.Lines.{no_pair, is_idle, opened, asking, sealed_with}
use Rattle.clients.specs.Turns.{Verdict, decided, read_of, write_of}

-- what a begin answers, and the line that it leaves
pub record Begun : Type 0 where
  pub answer : Result Entry ClientFault
  pub line : Line

-- the next round, with nothing counted or heard
abbrev pub reading_next : Line → Option Word → Line
reading_next line word = opened (asking line word) Reading (line.round + 1) no_pair

-- a begin opens the next round and posts READ. It is refused while an operation is neither collected nor called off,
-- without a next round, and for a write (of a word) if the client has no seal left
abbrev pub begun : Client → Line → Option Word → (ℕ → ℕ) → Begun
begun client line word seals =
    if not (is_idle line.stage) then record { answer = Err (Busy client); line = line } else
    if not (nat_lt line.round 4294967295) then record { answer = Err (Objects client TooHigh); line = line } else
    if is_some word && seals client.number == 0
    then record { answer = Err (Sealer (NoSeal client.number)); line = line } else
    record { answer = Ok (read_of client (reading_next line word)); line = reading_next line word }

-- what a step answers, the line that it leaves, the seals that each party then has left, and what was sealed
pub record Stepped : Type 0 where
  pub answer : Result (Option Entry) ClientFault
  pub line : Line
  pub seals : ℕ → ℕ
  pub sealed : Option Text

-- nothing was sealed
abbrev pub unsealing : Result (Option Entry) ClientFault → Line → (ℕ → ℕ) → Stepped
unsealing answer line seals = record { answer = answer; line = line; seals = seals; sealed = None }

-- the pair in flight gets its seal and is written; without a seal all stays as it was
abbrev pub signed : Result Seal SealerFault → (ℕ → ℕ) → Text → Client → Line → Line → Stepped
signed (Ok seal) seals text client line next = record {
  answer = Ok (Some (write_of client (sealed_with next seal)));
  line = sealed_with next seal;
  seals = seals;
  sealed = Some text;
}
signed (Err fault) seals text client line next = unsealing (Err (Sealer fault)) line seals

abbrev pub signing : Sealed → Text → Client → Line → Line → Stepped
signing s text client line next = signed s.answer s.seals text client line next

abbrev pub acted : Verdict → ℕ → (ℕ → ℕ) → Seal → Client → Line → Stepped
acted (Err why) kind seals given client line = unsealing (Err (Objects client why)) line seals
acted (Ok (Moves next post)) kind seals given client line = unsealing (Ok post) next seals
acted (Ok (Stamps next)) kind seals given client line =
    let text = pair_text kind next.highest in
    signing (sealed seals given text) text client line next

-- the step of a client on an entry; `kind` is the number of the record kind, `given` the seal that is given, if one is
abbrev pub client_stepped : Rules → ℕ → Desk → Seal → Client → Line → Entry → Stepped
client_stepped rules kind desk given client line e =
    acted (decided rules client line e (genuine_entry rules kind desk.genuine e)) kind desk.seals given client line

-- a step takes a line and a sealer to others, with this answer; which seal is given is left open
pub record ClientStep (rules : Rules) (kind : ℕ) (client : Client) (e : Entry) (before : Line) (desk : Desk)
    (answer : Result (Option Entry) ClientFault) (after : Line) (desk' : Desk) : Type 0 where
  pub given : Seal
  pub sealed : Option Text
  pub outcome : record { answer = answer; line = after; seals = desk'.seals; sealed = sealed }
      ≡ client_stepped rules kind desk given client before e
  pub seals : Seals desk sealed given desk'
