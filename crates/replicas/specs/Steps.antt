-- The step of a replica: it loads its card, decides, saves, and answers what is to be posted.
use Rattle.std.specs.Prelude.{ℕ, Bool, Some, None, Ok, Err, Option, Result}
use Rattle.wire.specs.declared.entry.Entry.{Entry}
use Rattle.wire.specs.declared.pair.Seal.{Seal}
use Rattle.wire.specs.declared.text.Text.{Text}
use Rattle.wire.specs.Parties.{Replica}
use Rattle.stores.specs.declared.card.Card.{Card}
use Rattle.stores.specs.declared.fault.StoreFault.{StoreFault}
use Rattle.stores.specs.Saved.{Shelf, Saved, saved}
use Rattle.rules.specs.declared.objection.Objection.TheVariants.{NotMember}
use Rattle.rules.specs.declared.rules.Rules.{Rules}
use Rattle.rules.specs.Genuine.{genuine_entry}
use Rattle.replicas.specs.declared.fault.ReplicaFault.{ReplicaFault}
use Rattle.replicas.specs.declared.fault.ReplicaFault.TheVariants.{Objects, Store}
use Rattle.replicas.specs.Decisions.{Verdict, decided}

-- what a step answers and leaves in the store
pub record Stepped : Type 0 where
  pub answer : Result (Option Entry) ReplicaFault
  pub place : ℕ → Option Card
  pub saves : Option ℕ

-- the store stays as it was
abbrev pub unmoved : Shelf → Result (Option Entry) ReplicaFault → Stepped
unmoved store answer = record { answer = answer; place = store.place; saves = store.saves }

abbrev pub answered : Result (Unit {0}) StoreFault → Option Entry → Result (Option Entry) ReplicaFault
answered (Ok u) post = Ok post
answered (Err fault) post = Err (Store fault)

-- a save that is refused is the step's fault, and nothing is posted
abbrev pub after_save : Saved → Option Entry → Stepped
after_save s post = record { answer = answered s.answer post; place = s.place; saves = s.saves }

abbrev pub saving : Option Card → Shelf → ℕ → Option Entry → Stepped
saving None store n post = unmoved store (Ok post)
saving (Some card) store n post = after_save (saved store n card) post

abbrev pub acted : Verdict → Shelf → Replica → Stepped
acted (Err why) store replica = unmoved store (Err (Objects replica why))
acted (Ok d) store replica = saving d.save store replica.number d.post

abbrev pub with_card : Option Card → Rules → ℕ → (Text → Seal → Bool) → Shelf → Replica → Entry → Stepped
with_card None rules kind checks store replica e = unmoved store (Err (Objects replica NotMember))
with_card (Some card) rules kind checks store replica e = acted (decided rules replica card e (genuine_entry rules kind checks e)) store replica

-- the step of a replica on an entry; `checks` says which seals are genuine, `kind` is the number of the record kind
abbrev pub replica_stepped : Rules → ℕ → (Text → Seal → Bool) → Shelf → Replica → Entry → Stepped
replica_stepped rules kind checks store replica e = with_card (store.place replica.number) rules kind checks store replica e
