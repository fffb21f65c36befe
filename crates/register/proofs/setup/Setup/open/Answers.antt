use Rattle.std.proofs.Common.{rules, ◌≡◌, Ok, refl}
use Rattle.register.specs.Openings.{opening_with, admitted}
use Rattle.register.specs.Views.{lent, lengths}
use Rattle.register.proofs.Opening.{opening_holds, tables_right}
use Rattle.model.proofs.Promised.{promised}
use Rattle.register.proofs.setup.Setup.open.Goals as goal

pub returns-clause-right : goal.returns-clause-right
returns-clause-right g c =
    let before = g.S.Store.shelf c.args.store.now in
    let set_up = c.args.self in
    let tables = lent c.args.tables.now in
    let word = g.K.Kind.kind.word c.args.value in
    let admits : Ok (lengths c.in-Ok.lengths) ≡ admitted set_up.rules tables before.saves = search rules in
    opening_holds g.K.Kind.kind c.args.value
    (opening_with set_up.rules word) set_up.marked.0 tables before (g.L.Sealer.desk c.args.sealer.now)
    set_up.limits set_up.right set_up.few
    (tables_right set_up.rules tables before.saves (lengths c.in-Ok.lengths) admits) refl _ (search rules)

pub returns-clause-promise : goal.returns-clause-promise
returns-clause-promise g c =
    promised g.K.Kind.kind c.args.value _
    (record { numbered = g.met.K.Kind.numbered.1; kept = g.met.K.Kind.kept; exact = g.met.K.Kind.exact })
    (returns-clause-right g c)
