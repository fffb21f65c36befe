-- A begin seals nothing; the word is that of the value.
use Rattle.std.proofs.Common.{Some, refl, ap, ◌∙◌}
use Rattle.model.specs.Beginning.{begin_called}
use Rattle.register.specs.Worlds.{world}
use Rattle.register.proofs.Quiet.{quiet}
use Rattle.register.proofs.hall.Hall.begin_write.Goals as goal

pub returns : goal.returns
returns g c = λ shelf.
    let before = world c.args.self.now c.args.tables.now shelf (g.L.Sealer.desk c.args.sealer.now) in
    quiet refl (c.begin.ensures shelf ∙ ap (λ x. begin_called before c.args.client (Some x)) c.to_word.ensures)
