-- The step of the party is the call's, once its tests have passed; else all is as it was.
use Rattle.std.proofs.Common.{rules, ◌≡◌, ◌∙◌, ap, sym, refl}
use Rattle.wire.specs.declared.entry.Entry.{Entry}
use Rattle.wire.specs.declared.party.Party.TheVariants.{Client as AClient, Replica as AReplica}
use Rattle.model.specs.Delivering.{entry_of, stepped}
use Rattle.register.specs.Worlds.{bare, hall_of, world, done_or, stepped_or}
use Rattle.register.proofs.Handing.{Handed, handed_over, seated}
use Rattle.register.proofs.Quiet.{quiet}
use Rattle.register.proofs.hall.Hall.deliver.Goals as goal

pub returns-then-not-has_its_tables : goal.returns-then-not-has_its_tables
returns-then-not-has_its_tables g c = quiet refl (search rules)

pub returns-in_err-entry : goal.returns-in_err-entry
returns-in_err-entry g c = quiet refl (search rules)

pub returns-in_err-party : goal.returns-in_err-party
returns-in_err-party g c = quiet refl (search rules)

pub returns-then-is_full : goal.returns-then-is_full
returns-then-is_full g c = quiet refl (search rules)

pub deliver_to_client-requires-clause-within : goal.deliver_to_client-requires-clause-within
deliver_to_client-requires-clause-within g c = seated (bare c.args.self.now c.args.tables.now) c.args.party c.in-Client.client (search rules) (search rules)

pub returns-in-Client : goal.returns-in-Client
returns-in-Client g c =
    let shelf = g.S.Store.shelf c.args.store.now in
    let w = world c.args.self.now c.args.tables.now shelf (g.L.Sealer.desk c.args.sealer.now) in
    let after = g.L.Sealer.desk c.deliver_to_client.new.sealer in
    let did = c.deliver_to_client.ensures shelf c.args.number in
    let entry : c.in_ok-entry.entry ≡ entry_of w.hall c.args.number = search rules in
    let who = AClient c.in-Client.client in
    let handed : Handed w c.args.number c.args.party who = record { tables = search rules; posted = search rules; party_is = search rules; room = search rules; time = search rules } in
    let answer : done_or {V = g.row.K.Denot} c.map_err.result ≡ stepped_or c.args.number c.deliver_to_client.result = search rules in
    record {
      given = did.given;
      sealed = did.sealed;
      outcome = ap (λ a. record { answer = a; hall = hall_of c.deliver_to_client.new.self c.deliver_to_client.new.tables shelf after; sealed = did.sealed }) answer
          ∙ (did.outcome
          ∙ (ap (λ (e : Entry). stepped {V = g.row.K.Denot} who w did.given g.K.Kind.kind.number c.args.number e) entry
          ∙ sym (handed_over w did.given g.K.Kind.kind.number c.args.number c.args.party who handed (search rules))));
      seals = did.seals;
    }

pub returns-in-Replica : goal.returns-in-Replica
returns-in-Replica g c =
    let shelf = g.S.Store.shelf c.args.store.now in
    let desk = g.L.Sealer.desk c.args.sealer.now in
    let w = world c.args.self.now c.args.tables.now shelf desk in
    let did = c.deliver_to_replica.ensures c.args.number in
    let entry : c.in_ok-entry.entry ≡ entry_of w.hall c.args.number = search rules in
    let who = AReplica c.in-Replica.replica in
    let handed : Handed w c.args.number c.args.party who = record { tables = search rules; posted = search rules; party_is = search rules; room = search rules; time = search rules } in
    let answer : done_or {V = g.row.K.Denot} c.map_err-in-Replica.result ≡ stepped_or c.args.number c.deliver_to_replica.result = search rules in
    record {
      given = did.given;
      sealed = did.sealed;
      outcome = ap (λ a. record { answer = a; hall = hall_of c.deliver_to_replica.new.self c.deliver_to_replica.new.tables (g.S.Store.shelf c.deliver_to_replica.new.store) desk; sealed = did.sealed }) answer
          ∙ (did.outcome
          ∙ (ap (λ (e : Entry). stepped {V = g.row.K.Denot} who w did.given g.K.Kind.kind.number c.args.number e) entry
          ∙ sym (handed_over w did.given g.K.Kind.kind.number c.args.number c.args.party who handed (search rules))));
      seals = did.seals;
    }

pub returns-in_default : goal.returns-in_default
returns-in_default g c = quiet refl (search rules)

pub returns-in_default-2 : goal.returns-in_default-2
returns-in_default-2 g c = quiet refl (search rules)

pub returns-in_default-3 : goal.returns-in_default-3
returns-in_default-3 g c = quiet refl (search rules)
