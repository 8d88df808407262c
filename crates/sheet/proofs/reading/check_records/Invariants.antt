use Rattle.std.proofs.Common.{◌≡◌, None}
use Rattle.sheet.specs.Reading.{records_refusal}
use Rattle.sheet.proofs.reading.check_records.Given as goal

abbrev pub invariant-loop-k : goal.invariant-loop-k
invariant-loop-k l = records_refusal l.bytes l.variables l.k ≡ None
