use Rattle.std.proofs.Common.{◌≡◌, ◌≤◌, None}
use Rattle.sheet.specs.Reading.{variables_refusal, cells_below}
use Rattle.sheet.proofs.reading.check_variables.Given as goal

abbrev pub invariant-loop-k : goal.invariant-loop-k
invariant-loop-k l =
    (l.total ≡ cells_below l.bytes l.k) × (l.total ≤ 16384)
    × (variables_refusal l.bytes l.k ≡ None)
