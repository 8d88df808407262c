use Rattle.std.proofs.Common.{◌≡◌, length}
use Rattle.script.specs.Fields.{fields, numbers}
use Rattle.script.proofs.Limits.{Read}
use Rattle.script.proofs.fields.numbers.Given as goal

abbrev pub invariant-loop-number : goal.invariant-loop-number
invariant-loop-number g l =
    (length l.number-items ≡ g.row.N) × Read (numbers l.fn.limits (fields l.initial.rest)) l.number-items l.number-index (fields l.rest)
