-- What the step of the party that is handed an entry makes of a world; which seal is given is left open.
use Rattle.std.specs.Prelude.{ℕ}
use Rattle.wire.specs.declared.entry.Entry.{Entry}
use Rattle.wire.specs.Parties.{Client, Replica}
use Rattle.model.specs.Halls.{World}
use Rattle.model.specs.Answers.{Answer}
use Rattle.model.specs.Calls.{Becomes}
use Rattle.model.specs.Delivering.{client_done, client_step_of, replica_done, replica_step_of}

abbrev pub ClientDoes : {V : Type 0} → ℕ → Client → Entry → ℕ → World → Answer V → World → Type 0
ClientDoes kind client e number w answer after =
    Becomes (λ given. client_done (client_step_of w given kind client e) number w.hall client) w answer after

abbrev pub ReplicaDoes : {V : Type 0} → ℕ → Replica → Entry → ℕ → World → Answer V → World → Type 0
ReplicaDoes kind replica e number w answer after =
    Becomes (λ given. replica_done (replica_step_of w kind replica e) number w.hall) w answer after
