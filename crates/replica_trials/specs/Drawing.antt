-- A sealer that draws its seals: a seal is genuine when it is noted for the text, and any can be.
use Rattle.std.specs.Prelude.{ℕ, ◌-◌, Bool, true, false, cond, ◌&&◌, length, take, ◌==◌}
use Rattle.std.specs.List.{list_any}
use Rattle.wire.specs.declared.pair.Seal.{Seal}
use Rattle.wire.specs.declared.party.Party.{Party}
use Rattle.wire.specs.declared.text.Text.{Text}
use Rattle.wire.specs.Parties.{party_number}
use Rattle.sealers.specs.Sealing.{Desk, same_text, none_beside}
use Rattle.replica_trials.specs.declared.drawn.Drawn.{Drawn}
use Rattle.replica_trials.specs.declared.drawn.Note.{Note}

abbrev pub noted : Text → Seal → Note → Bool
noted t s note = same_text t note.text && s.0 == note.seal.0

abbrev pub drawn_genuine : {D : Type 0} → Drawn D → Text → Seal → Bool
drawn_genuine d t s = list_any (noted t s) (take d.used d.notes.now)

-- so many seals for one party, and none for any other
abbrev pub seals_of : Party → ℕ → ℕ → ℕ
seals_of party n p = cond (p == party_number party) n 0

-- a text may get every seal
abbrev pub any_seal : Text → Seal → Bool
any_seal t s = true

abbrev pub drawn_desk : {D : Type 0} → Drawn D → Desk
drawn_desk d = record {
  genuine = drawn_genuine d;
  seals = seals_of d.party (length d.notes.now - d.used);
  allowed = any_seal;
  beside = none_beside;
}

-- before the first note: nothing is genuine
abbrev pub first_desk : Party → ℕ → Desk
first_desk party n = record {
  genuine = λ t s. false;
  seals = seals_of party n;
  allowed = any_seal;
  beside = none_beside;
}
