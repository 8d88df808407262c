use Rattle.std.proofs.Common.{◌≡◌}
use Rattle.session.specs.Starts.{copied_cells}
use Rattle.session.proofs.memory.places.copy_cells.Given as goal

abbrev pub invariant-loop-i : goal.invariant-loop-i
invariant-loop-i g l = g.B.Bank.cells l.bank ≡ copied_cells l.source l.target l.i (g.B.Bank.cells l.initial.bank)
