use Rattle.std.proofs.Common.{◌≡◌, None}
use Rattle.checker.specs.Breaches.{rules_refusal}
use Rattle.checker.specs.Accepting.{tables_in}
use Rattle.checker.proofs.nested.Nested.check_rules.Given as goal

abbrev pub invariant-loop-j : goal.invariant-loop-j
invariant-loop-j g l = rules_refusal (g.O.LabelOrder.meaning l.order) (tables_in l.self.tables.now) l.j ≡ None
