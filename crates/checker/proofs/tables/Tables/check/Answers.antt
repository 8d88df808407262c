use Rattle.refusal.proofs.Answering.{accepted}
use Rattle.checker.specs.Accepting.{tables_in}
use Rattle.checker.proofs.Exact.{entries_linked}
use Rattle.checker.proofs.tables.Tables.check.Goals as goal

pub of-nested-requires-clause-linked : goal.of-nested-requires-clause-linked
of-nested-requires-clause-linked g c = entries_linked (g.O.LabelOrder.meaning c.args.order.now) (tables_in c.args.self.now) (accepted _ _ _ c.in_ok-check_entries.ensures).0
