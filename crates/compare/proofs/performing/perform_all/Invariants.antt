use Rattle.std.proofs.Common.{◌≡◌, ◌++◌, drop, vec_items}
use Rattle.model.specs.Session.{after}
use Rattle.session.specs.Memories.{tables_of, order_of}
use Rattle.session.specs.States.{state_of}
use Rattle.compare.specs.Calls.{calls_of}
use Rattle.compare.proofs.performing.perform_all.Given as goal

-- what was written, joined with what the calls that are left will write, is all
abbrev pub invariant-loop-call : goal.invariant-loop-call
invariant-loop-call g l =
    (l.session.memory.program ≡ l.initial.session.memory.program)
    × (vec_items l.tape ++ (after (g.O.LabelOrder.meaning (order_of l.initial.session.memory)) (tables_of l.initial.session.memory) (calls_of (drop l.call-index l.calls)) (state_of g.B.Bank.cells l.session)).tape
    ≡ (after (g.O.LabelOrder.meaning (order_of l.initial.session.memory)) (tables_of l.initial.session.memory) (calls_of l.calls) (state_of g.B.Bank.cells l.initial.session)).tape)
