use Rattle.std.proofs.Common.{◌≡◌, ◌≤◌, None}
use Rattle.sheet.specs.Format.{sheet_bytes}
use Rattle.sheet.specs.Reading.{variables_refusal, cells_below}
use Rattle.sheet.proofs.laying.Tables.check.Given as goal

abbrev pub invariant-loop-k : goal.invariant-loop-k
invariant-loop-k l =
    (l.total ≡ cells_below (sheet_bytes l.self.variables.now l.self.records.now) l.k) × (l.total ≤ 16384)
    × (variables_refusal (sheet_bytes l.self.variables.now l.self.records.now) l.k ≡ None)
