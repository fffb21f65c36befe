use Rattle.std.proofs.Common.{rules, None}
use Rattle.sealers.proofs.Sealing.{nothing_sealed}
use Rattle.model.specs.Halls.{no_seal}
use Rattle.register.specs.Worlds.{world}
use Rattle.register.proofs.Refusals.{replica_refused, replica_accepted}
use Rattle.register.proofs.hall.Hall.deliver_to_replica.Goals as goal

pub returns-in_err-post : goal.returns-in_err-post
returns-in_err-post g c = λ number.
    let w = world c.args.self.now c.args.tables.now (g.S.Store.shelf c.args.store.now) (g.L.Sealer.desk c.args.sealer.now) in
    let after = g.S.Store.shelf c.replica_step.new.store in
    let settled = replica_refused {V = g.row.K.Denot} w g.K.Kind.kind.number c.args.replica c.args.entry.now number after.place after.saves _ c.in_err-post.ensures in
    record { given = no_seal; sealed = None; outcome = search (rules, settled); seals = nothing_sealed _ _ }

pub returns-in-Some : goal.returns-in-Some
returns-in-Some g c = λ number.
    let w = world c.args.self.now c.args.tables.now (g.S.Store.shelf c.args.store.now) (g.L.Sealer.desk c.args.sealer.now) in
    let after = g.S.Store.shelf c.replica_step.new.store in
    let settled = replica_accepted {V = g.row.K.Denot} w g.K.Kind.kind.number c.args.replica c.args.entry.now number after.place after.saves _ c.in_ok-post.ensures in
    record { given = no_seal; sealed = None; outcome = search (rules, settled); seals = nothing_sealed _ _ }

pub returns-in_default : goal.returns-in_default
returns-in_default g c = λ number.
    let w = world c.args.self.now c.args.tables.now (g.S.Store.shelf c.args.store.now) (g.L.Sealer.desk c.args.sealer.now) in
    let after = g.S.Store.shelf c.replica_step.new.store in
    let settled = replica_accepted {V = g.row.K.Denot} w g.K.Kind.kind.number c.args.replica c.args.entry.now number after.place after.saves _ c.in_ok-post.ensures in
    record { given = no_seal; sealed = None; outcome = search (rules, settled); seals = nothing_sealed _ _ }
