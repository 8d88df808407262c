use Rattle.std.proofs.Common.{◌≡◌, None}
use Rattle.checker.specs.Checks.{records_refusal}
use Rattle.checker.proofs.tables.Tables.check_records.Given as goal

abbrev pub invariant-loop-j : goal.invariant-loop-j
invariant-loop-j g l = records_refusal (g.O.LabelOrder.meaning l.order) l.self.variables.items l.self.records.items l.j ≡ None
