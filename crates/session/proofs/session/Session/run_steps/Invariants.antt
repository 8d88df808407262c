use Rattle.std.proofs.Common.{◌≡◌, ◌-◌, ◌≤◌, length, take, drop}
use Rattle.model.specs.Session.{steps}
use Rattle.session.specs.Memories.{tables_of, order_of}
use Rattle.session.specs.States.{config_of}
use Rattle.session.proofs.Running.{joined_run}
use Rattle.session.proofs.session.Session.run_steps.Given as goal

-- what was done, joined with what remains to be done from here, is the whole run
abbrev pub invariant-loop-stop : goal.invariant-loop-stop
invariant-loop-stop g l =
    (l.self.memory.program ≡ l.initial.self.memory.program) × (l.self.started ≡ l.initial.self.started) × (l.taken ≤ l.limit) × (l.at ≤ length l.tape)
    × (drop l.at l.tape ≡ drop l.at l.initial.tape)
    × (joined_run l.taken (take l.at l.tape)
    (steps (g.O.LabelOrder.meaning (order_of l.initial.self.memory)) (tables_of l.initial.self.memory) (l.limit - l.taken) (length l.tape - l.at) (config_of g.B.Bank.cells l.self))
    ≡ steps (g.O.LabelOrder.meaning (order_of l.initial.self.memory)) (tables_of l.initial.self.memory) l.limit (length l.initial.tape) (config_of g.B.Bank.cells l.initial.self))

abbrev pub decreases-loop-stop : goal.decreases-loop-stop
decreases-loop-stop g l = l.limit - l.taken
