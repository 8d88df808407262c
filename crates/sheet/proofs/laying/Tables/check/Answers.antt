use Rattle.std.proofs.Common.{◌≡◌, length, sym, refl, ap, ◌∙◌, arith}
use Rattle.sheet.specs.Format.{sheet_bytes}
use Rattle.refusal.specs.Answers.{answer}
use Rattle.sheet.specs.Reading.{variables_refusal}
use Rattle.refusal.proofs.Answering.{accepted, refused, leaves}
use Rattle.sheet.proofs.ReadsBack.{variable_part_is}
use Rattle.sheet.proofs.TableChecks.{counted, only_variables, none_yet, stops, goes_on}
use Rattle.sheet.proofs.laying.Tables.check.Goals as goal

pub returns-in_err-check_counts : goal.returns-in_err-check_counts
returns-in_err-check_counts c =
    leaves _ _ _ tt c.from_residual.ensures.1 (counted c.args.self.now.variables.now c.args.self.now.records.now _ (refused _ _ _ c.in_err-check_counts.ensures))

pub loop-k-init : goal.loop-k-init
loop-k-init c = (refl, omega arith, none_yet (sheet_bytes c.args.self.now.variables.now c.args.self.now.records.now))

pub returns-in_err-total : goal.returns-in_err-total
returns-in_err-total c =
    let vs = c.args.self.now.variables.now in
    let rs = c.args.self.now.records.now in
    let is = c.bytes.ensures ∙ sym (variable_part_is vs rs c.loop-k.k _ c.loop-k-test.true) in
    leaves _ _ _ tt c.from_residual-in_err-total.ensures.1
    (only_variables vs rs (accepted _ _ _ c.in_ok-check_counts.ensures).0
    ∙ stops (sheet_bytes vs rs) c.loop-k.k _ c.loop-k.total _ c.variable_place.ensures is c.loop-k.invariant.0 c.loop-k.invariant.2 _ _ c.loop-k-test.true (refused _ _ _ c.in_err-total.ensures))

pub loop-k-preserved : goal.loop-k-preserved
loop-k-preserved c =
    let vs = c.args.self.now.variables.now in
    let rs = c.args.self.now.records.now in
    let is = c.bytes.ensures ∙ sym (variable_part_is vs rs c.loop-k.k _ c.loop-k-test.true) in
    let h = accepted _ _ _ c.in_ok-total.ensures in
    goes_on (sheet_bytes vs rs) c.loop-k.k _ c.loop-k.total _ c.variable_place.ensures is c.loop-k.invariant.0 c.loop-k.invariant.2 _ h.0 h.1

pub returns : goal.returns
returns c =
    let vs = c.args.self.now.variables.now in
    let rs = c.args.self.now.records.now in
    let all : c.loop-k.k ≡ length vs = omega arith in
    sym (ap (λ o. answer o tt)
    (only_variables vs rs (accepted _ _ _ c.in_ok-check_counts.ensures).0 ∙ ap (variables_refusal (sheet_bytes vs rs)) (sym all) ∙ c.loop-k.invariant.2))
