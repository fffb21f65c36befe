-- The source of configurations: which one comes next, and as which refusal each of its faults stands.
use Rattle.std.specs.Prelude.{◌≡◌, ℕ, ◌+◌, not, if◌then◌else◌, Some, None, Ok, Err, Option, Result, nat_lt}
use Rattle.refusals.specs.declared.Refusal.{Refusal}
use Rattle.refusals.specs.declared.Layer.TheVariants.{Hall}
use Rattle.wire.specs.declared.pair.Configuration.{Configuration}
use Rattle.wire.specs.declared.pair.Seal.{Seal}
use Rattle.wire.specs.declared.set.ReplicaSet.{ReplicaSet}
use Rattle.wire.specs.declared.text.Text.{Text}
use Rattle.wire.specs.Texts.{configuration_text}
use Rattle.sealers.specs.declared.fault.SealerFault.{SealerFault}
use Rattle.sealers.specs.Faults.{sealer_refusal}
use Rattle.sealers.specs.Sealing.{Desk, Sealed, Seals, sealed}
use Rattle.source.specs.declared.fault.SourceFault.{SourceFault}
use Rattle.source.specs.declared.fault.SourceFault.TheVariants.{UsedUp, Sealer}
use Rattle.source.specs.declared.state.Source.{Source}

-- no epoch is left for another configuration: as a full table
abbrev pub source_refusal : SourceFault → Refusal
source_refusal UsedUp = record { number = 6; layer = Hall; place = 0 }
source_refusal (Sealer fault) = sealer_refusal fault

-- what issuing answers, the source that it leaves, the seals that each party then has left, and what was sealed
pub record Issued : Type 0 where
  pub answer : Result Configuration SourceFault
  pub source : Source
  pub seals : ℕ → ℕ
  pub sealed : Option Text

-- refused, and source and sealer as they were
abbrev pub standing : SourceFault → Source → (ℕ → ℕ) → Issued
standing fault source seals = record { answer = Err fault; source = source; seals = seals; sealed = None }

-- the configuration of the next epoch, without its seal
abbrev pub next_configuration : Source → ReplicaSet → Configuration
next_configuration source set = record { epoch = source.newest + 1; set = set; seal = record { 0 = 0 } }

-- the text that the source seals
abbrev pub next_text : Source → ReplicaSet → Text
next_text source set = configuration_text (next_configuration source set)

abbrev pub signed : Result Seal SealerFault → (ℕ → ℕ) → Source → ReplicaSet → Issued
signed (Ok seal) seals source set = record {
  answer = Ok (record { epoch = source.newest + 1; set = set; seal = seal });
  source = record { newest = source.newest + 1 };
  seals = seals;
  sealed = Some (next_text source set);
}
signed (Err fault) seals source set = standing (Sealer fault) source seals

abbrev pub signing : Sealed → Source → ReplicaSet → Issued
signing s source set = signed s.answer s.seals source set

-- the source seals the configuration of the next epoch, with the seal that is given;
-- a refusal leaves source and sealer as they were
abbrev pub issued : Source → ReplicaSet → (ℕ → ℕ) → Seal → Issued
issued source set seals given =
    if not (nat_lt source.newest 4294967295) then standing UsedUp source seals else
    signing (sealed seals given (next_text source set)) source set

-- issuing takes a source and a sealer to others, with this answer; which seal is given is left open
pub record Issues (set : ReplicaSet) (before : Source) (desk : Desk)
    (answer : Result Configuration SourceFault) (after : Source) (desk' : Desk) : Type 0 where
  pub given : Seal
  pub sealed : Option Text
  pub outcome : record { answer = answer; source = after; seals = desk'.seals; sealed = sealed }
      ≡ issued before set desk.seals given
  pub seals : Seals desk sealed given desk'
