use Rattle.std.proofs.Common.{◌≡◌, length}
use Rattle.model.specs.Machine.{stripped}
use Rattle.session.specs.Stacks.{pile}
use Rattle.session.proofs.stack.Stack.strip.Given as goal

abbrev pub invariant-loop-self : goal.invariant-loop-self
invariant-loop-self l = stripped (pile l.self) ≡ stripped (pile l.initial.self)

abbrev pub decreases-loop-self : goal.decreases-loop-self
decreases-loop-self l = length l.self.entries.items
