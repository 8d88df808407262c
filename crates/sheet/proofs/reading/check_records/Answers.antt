use Rattle.std.proofs.Common.{◌≡◌, ap, sym, ◌∙◌, refl, arith}
use Rattle.refusal.specs.Answers.{answer}
use Rattle.sheet.specs.Reading.{records_refusal, record_refusal, record_place}
use Rattle.refusal.proofs.First.{first_clear, first_stop}
use Rattle.refusal.proofs.Answering.{accepted, refused, leaves}
use Rattle.sheet.proofs.Chunks.{row_is}
use Rattle.sheet.proofs.reading.check_records.Goals as goal

pub loop-k-init : goal.loop-k-init
unfolding records_refusal
loop-k-init c = refl

pub returns-in_err-check_record : goal.returns-in_err-check_record
unfolding records_refusal
returns-in_err-check_record c =
    let is = row_is c.args.bytes.now c.variable_place.result c.record_place.result 12 c.loop-k.k (record_place c.args.variables c.loop-k.k) _ c.as_chunks.ensures.front (omega arith) (omega arith) (omega arith) in
    leaves _ _ _ tt c.from_residual.ensures.1
    (first_stop _ _ c.loop-k.k c.args.count (omega arith) c.loop-k.invariant ((λ i. record_refusal (sym c.record_place-in-loop-k.ensures i) (sym is i)) ∙ refused _ _ _ c.in_err-check_record.ensures))

pub loop-k-preserved : goal.loop-k-preserved
unfolding records_refusal
loop-k-preserved c =
    let is = row_is c.args.bytes.now c.variable_place.result c.record_place.result 12 c.loop-k.k (record_place c.args.variables c.loop-k.k) _ c.as_chunks.ensures.front (omega arith) (omega arith) (omega arith) in
    first_clear _ c.loop-k.k c.loop-k.invariant ((λ i. record_refusal (sym c.record_place-in-loop-k.ensures i) (sym is i)) ∙ (accepted _ _ _ c.in_ok-check_record.ensures).0)

pub returns : goal.returns
returns c =
    let all : c.loop-k.k ≡ c.args.count = omega arith in
    sym (ap (λ o. answer o tt) (ap (records_refusal c.args.bytes.now c.args.variables) (sym all) ∙ c.loop-k.invariant))
