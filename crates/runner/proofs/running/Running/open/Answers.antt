-- The memory is fresh, so tables, cabinet and book are those of the opening that is asked for.
use Rattle.std.proofs.Common.{take, sym, ap, ◌∙◌}
use Rattle.sealers.proofs.Rows.{none_genuine}
use Rattle.runner.proofs.Playing.{as_asked}
use Rattle.runner.proofs.running.Running.open.Goals as goal

pub returns-in-Ok-open : goal.returns-in-Ok-open
returns-in-Ok-open c = λ fresh.
    let book = c.in-Ok.ensures in
    let is = c.in-Ok-open.ensures.answer ∙ as_asked _ c.new-store.result c.in-Ok.sealer c.args.asked fresh
    c.new.ensures.held (c.new.ensures.behind ∙ c.as_mut_slice.ensures.value)
    c.new-2.ensures.held (c.new-2.ensures.behind ∙ c.as_mut_slice-2.ensures.value)
    c.new-3.ensures.held (c.new-3.ensures.behind ∙ c.as_mut_slice-3.ensures.value)
    c.min-clients.result _ c.min-clients.ensures c.len.ensures (ap (take c.min-clients.result) c.as_mut_slice-4.ensures.value)
    c.new-store.ensures book.2 book.3 (book.1 ∙ c.as_mut_slice-5.ensures.value) in
    record { opens = sym is; promised = c.in-Ok-open.ensures.promise; none = none_genuine c.in-Ok.sealer book.3 }

pub returns-in-Err : goal.returns-in-Err
returns-in-Err c = λ fresh.
    let book = c.in-Ok.ensures in
    sym (c.in-Err.ensures.answer ∙ as_asked _ c.new-store.result c.in-Ok.sealer c.args.asked fresh
    c.new.ensures.held (c.new.ensures.behind ∙ c.as_mut_slice.ensures.value)
    c.new-2.ensures.held (c.new-2.ensures.behind ∙ c.as_mut_slice-2.ensures.value)
    c.new-3.ensures.held (c.new-3.ensures.behind ∙ c.as_mut_slice-3.ensures.value)
    c.min-clients.result _ c.min-clients.ensures c.len.ensures (ap (take c.min-clients.result) c.as_mut_slice-4.ensures.value)
    c.new-store.ensures book.2 book.3 (book.1 ∙ c.as_mut_slice-5.ensures.value))
