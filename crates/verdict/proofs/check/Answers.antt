use Rattle.std.proofs.Common.{is_ok, sym, ap, ◌∙◌}
use Rattle.verdict.proofs.Layers.{checked_secret}
use Rattle.verdict.proofs.check.Goals as goal

pub returns-clause-secret : goal.returns-clause-secret
returns-clause-secret g c e =
    checked_secret (g.O.LabelOrder.meaning c.args.order) (g.met.O.LabelOrder.lawful c.args.order) c.args.bytes.now (ap is_ok (sym c.read_and_accept.ensures.answers) ∙ e)
