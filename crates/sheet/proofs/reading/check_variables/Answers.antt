use Rattle.std.proofs.Common.{◌≡◌, ap, sym, ◌∙◌, refl, arith}
use Rattle.refusal.specs.Answers.{answer}
use Rattle.sheet.specs.Reading.{variables_refusal, variable_place}
use Rattle.refusal.proofs.Answering.{accepted, refused, leaves}
use Rattle.sheet.proofs.Chunks.{row_is}
use Rattle.sheet.proofs.TableChecks.{none_yet, stops, goes_on}
use Rattle.sheet.proofs.reading.check_variables.Goals as goal

pub loop-k-init : goal.loop-k-init
loop-k-init c = (refl, omega arith, none_yet c.args.bytes.now)

pub returns-in_err-total : goal.returns-in_err-total
returns-in_err-total c =
    let is = row_is c.args.bytes.now 4 c.variable_place.result 4 c.loop-k.k (variable_place c.loop-k.k) _ c.as_chunks.ensures.front (omega arith) refl (omega arith) in
    leaves _ _ _ tt c.from_residual.ensures.1
    (stops c.args.bytes.now c.loop-k.k _ c.loop-k.total _ c.variable_place-in-loop-k.ensures is c.loop-k.invariant.0 c.loop-k.invariant.2 _ _ (omega arith) (refused _ _ _ c.in_err-total.ensures))

pub loop-k-preserved : goal.loop-k-preserved
loop-k-preserved c =
    let is = row_is c.args.bytes.now 4 c.variable_place.result 4 c.loop-k.k (variable_place c.loop-k.k) _ c.as_chunks.ensures.front (omega arith) refl (omega arith) in
    let h = accepted _ _ _ c.in_ok-total.ensures in
    goes_on c.args.bytes.now c.loop-k.k _ c.loop-k.total _ c.variable_place-in-loop-k.ensures is c.loop-k.invariant.0 c.loop-k.invariant.2 _ h.0 h.1

pub returns : goal.returns
returns c =
    let all : c.loop-k.k ≡ c.args.count = omega arith in
    sym (ap (λ o. answer o tt) (ap (variables_refusal c.args.bytes.now) (sym all) ∙ c.loop-k.invariant.2))
