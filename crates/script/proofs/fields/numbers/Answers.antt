use Rattle.std.proofs.Common.{ap, ◌∙◌, arith, length-set}
use Rattle.script.specs.Fields.{fields}
use Rattle.script.proofs.Limits.{known, more, left_over}
use Rattle.script.proofs.Spaces.{first}
use Rattle.script.proofs.fields.numbers.Goals as goal

pub loop-number-preserved : goal.loop-number-preserved
loop-number-preserved g c = (
  length-set c.loop-number.number-items c.loop-number.number-index c.in_ok-number.field-0 ∙ c.loop-number.invariant.0,
  more c.loop-number.number-items c.loop-number.number-index c.cut.result.0.now (fields c.cut.result.1) c.in_ok-number.field-0 (omega arith) c.in_ok-number.ensures.value
      (known _ (ap fields c.in_ok-rest.was ∙ c.cut.ensures) c.loop-number.invariant.1),
)

pub returns-in-Some-clause-value : goal.returns-in-Some-clause-value
returns-in-Some-clause-value g c =
    let words = first c.in-Some.field-0.now in
    left_over c.loop-number.number-items c.loop-number.number-index words.0 words.1 (omega arith) (known _ (ap fields c.in-Some.is ∙ words.2) c.loop-number.invariant.1)
