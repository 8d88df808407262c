use Rattle.std.proofs.Common.{take, Ok, ap, ◌∙◌}
use Rattle.std.proofs.lemmas.List.{take_at}
use Rattle.compare.proofs.Logging.{log_kept}
use Rattle.compare.proofs.comparing.View.make_log.Goals as goal

pub returns : goal.returns
returns g c =
    let whole = take_at c.pick.new.out _ _ (c.pick.auto.out ∙ c.deref_mut.ensures.len) in
    let picked = c.in_ok-entries.ensures in
    ap Ok (c.truncate.ensures.items ∙ ap (take c.in_ok-entries.entries) whole)
    ∙ log_kept (g.O.LabelOrder.meaning c.args.self.now.order.now) c.args.self.now.party c.args.tape.now c.in_ok-entries.entries _ _ c.pick.new.out
    c.deref_mut.ensures.len c.in_ok-resize.ensures.len picked.answer picked.buffer
