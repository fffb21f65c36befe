-- Why a step does not accept an entry, and the number of each such refusal.
use Rattle.std.specs.Prelude.{ℕ}
use Rattle.rules.specs.declared.objection.Objection.{Objection}
use Rattle.rules.specs.declared.objection.Objection.TheVariants.{TooHigh, NotGenuine, NotMember, AlreadyCounted, NotAwaited, NotNext, NotReady}

abbrev pub objection_number : Objection → ℕ
objection_number TooHigh = 10
objection_number NotGenuine = 12
objection_number NotMember = 13
objection_number AlreadyCounted = 14
objection_number NotAwaited = 15
objection_number NotNext = 16
objection_number NotReady = 17
