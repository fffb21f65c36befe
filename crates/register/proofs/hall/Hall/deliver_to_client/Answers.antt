use Rattle.std.proofs.Common.{rules, ◌≡◌, ◌∙◌, ap, subst, Ok, Err}
use Rattle.halls.specs.declared.seat.Seat.{Seat}
use Rattle.clients.specs.Steps.{Stepped, client_stepped}
use Rattle.model.specs.Halls.{desk_of}
use Rattle.model.specs.Answers.{done}
use Rattle.model.specs.Delivering.{client_moves}
use Rattle.register.specs.Worlds.{hall_of, world}
use Rattle.register.proofs.Refusals.{client_refused, client_accepted}
use Rattle.register.proofs.hall.Hall.deliver_to_client.Goals as goal

pub returns-in_err-post : goal.returns-in_err-post
returns-in_err-post g c = λ shelf number.
    let w = world c.args.self.now c.args.tables.now shelf (g.L.Sealer.desk c.args.sealer.now) in
    let after = g.L.Sealer.desk c.client_step.new.sealer in
    let did = c.in_err-post.ensures in
    let step = subst (λ (s : Seat). ◌≡◌ {A = Stepped} (record { answer = Err c.in_err-post.field-0.0; line = c.client_step.new.line; seals = after.seals; sealed = did.sealed }) (client_stepped w.hall.rules g.K.Kind.kind.number (desk_of w) did.given c.args.client s.line c.args.entry.now)) c.requires.seated did.outcome in
    let settled = client_refused {V = g.row.K.Denot} w did.given g.K.Kind.kind.number c.args.client c.args.entry.now number c.client_step.new.line after.seals did.sealed _ step in
    record { given = did.given; sealed = did.sealed; outcome = search (rules, settled); seals = did.seals }

pub returns : goal.returns
returns g c = λ shelf number.
    let w = world c.args.self.now c.args.tables.now shelf (g.L.Sealer.desk c.args.sealer.now) in
    let after = g.L.Sealer.desk c.client_step.new.sealer in
    let did = c.in_ok-post.ensures in
    let step = subst (λ (s : Seat). ◌≡◌ {A = Stepped} (record { answer = Ok c.in_ok-post.post; line = c.client_step.new.line; seals = after.seals; sealed = did.sealed }) (client_stepped w.hall.rules g.K.Kind.kind.number (desk_of w) did.given c.args.client s.line c.args.entry.now)) c.requires.seated did.outcome in
    let settled = client_accepted {V = g.row.K.Denot} w did.given g.K.Kind.kind.number c.args.client c.args.entry.now number c.client_step.new.line after.seals did.sealed _ step in
    let moved = subst (λ (s : Seat). hall_of c.client_moves.new.self c.client_moves.new.tables shelf after ≡ client_moves w.hall c.args.client.number s c.client_step.new.line c.in_ok-post.post after.seals) c.requires.seated (c.client_moves.ensures shelf (desk_of w) after) in
    record { given = did.given; sealed = did.sealed; outcome = ap (λ h. record { answer = done; hall = h; sealed = did.sealed }) moved ∙ settled; seals = did.seals }
