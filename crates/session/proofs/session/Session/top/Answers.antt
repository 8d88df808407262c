use Rattle.std.proofs.Common.{ap, ◌∙◌}
use Rattle.model.specs.Nesting.{record_at}
use Rattle.checker.specs.Contents.{contents}
use Rattle.session.specs.Stacks.{pile}
use Rattle.session.proofs.Moving.{top_runs}
use Rattle.session.proofs.session.Session.top.Goals as goal

pub returns-clause-runs : goal.returns-clause-runs
returns-clause-runs g c =
    let me = c.args.self.now in
    let is = c.record.ensures ∙ ap (λ q. record_at (contents q).tables.records c.top-n.result) c.program.ensures in
    top_runs me.memory.program (pile me.stack) _ _ _ c.top-n.ensures is me.climbs me.clean
