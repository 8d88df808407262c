use Rattle.std.proofs.Common.{◌≡◌, drop}
use Rattle.labels.specs.Orders.{two_party}
use Rattle.session.specs.Memories.{tables_of}
use Rattle.session.specs.States.{state_of}
use Rattle.engine.specs.Playing.{played}
use Rattle.engine.proofs.playing.perform_all.Given as goal

-- what the calls that are left will leave is what all leave
abbrev pub invariant-loop-k : goal.invariant-loop-k
invariant-loop-k g l =
    (l.session.memory.program ≡ l.initial.session.memory.program)
    × (played two_party (tables_of l.initial.session.memory) (drop l.k l.calls) l.k (state_of g.B.Bank.cells l.session) l.tape l.answers
    ≡ played two_party (tables_of l.initial.session.memory) l.calls 0 (state_of g.B.Bank.cells l.initial.session) l.initial.tape l.initial.answers)
