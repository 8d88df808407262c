use Rattle.std.proofs.Common.{◌≡◌}
use Rattle.model.specs.Session.{zeroed}
use Rattle.session.proofs.memory.making.clear.Given as goal

abbrev pub invariant-loop-i : goal.invariant-loop-i
invariant-loop-i g l = g.B.Bank.cells l.bank ≡ zeroed l.i (g.B.Bank.cells l.initial.bank)
