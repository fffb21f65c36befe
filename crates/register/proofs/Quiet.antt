-- A call that seals nothing takes a world to another, whatever seal would be given. Assumes nothing.
use Rattle.std.proofs.Common.{◌≡◌, None}
use Rattle.wire.specs.declared.pair.Seal.{Seal}
use Rattle.sealers.proofs.Sealing.{nothing_sealed}
use Rattle.model.specs.Halls.{World, no_seal, desk_of}
use Rattle.model.specs.Answers.{Answer, Outcome, answers}
use Rattle.model.specs.Calls.{Becomes}

module _ {V : Type 0} {by : Seal → Outcome V} {before after : World} {answer : Answer V} where
  pub quiet : after.genuine ≡ before.genuine → answers answer after.hall ≡ by no_seal → Becomes by before answer after
  quiet same is = record {
    given = no_seal;
    sealed = None;
    outcome = is;
    seals = record { allowed = (nothing_sealed (desk_of before) no_seal).allowed; genuine = same };
  }
