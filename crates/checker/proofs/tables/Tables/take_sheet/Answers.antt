use Rattle.std.proofs.Common.{map, length, ap, ◌∙◌, rules, tests, arith}
use Rattle.std.specs.List.{range_with_len}
use Rattle.std.proofs.lemmas.List.FromFn.{length-map-range_with_len}
use Rattle.checker.specs.Accepting.{program, variable_in, record_in, sheet_variables, sheet_records}
use Rattle.sheet.proofs.Validity.{valid_header}
use Rattle.checker.proofs.tables.Tables.take_sheet.Goals as goal

pub invariant_of-self : goal.invariant_of-self
invariant_of-self c =
    let bs = c.args.sheet.now.bytes.now in
    let head = valid_header bs c.args.sheet.now.valid in
    let vs = c.fill.ensures (variable_in bs) (λ k x h. search (rules, tests)) in
    let rs = c.fill-2.ensures (record_in bs) (λ k x h. search (rules, tests)) in
    let v = ap length vs ∙ length-map-range_with_len (variable_in bs) 0 c.variables.result in
    let r = ap length rs ∙ length-map-range_with_len (record_in bs) 0 c.records.result in
    record { fits = (omega arith, omega arith) }

pub returns-clause-tables : goal.returns-clause-tables
unfolding sheet_variables sheet_records
returns-clause-tables c =
    let bs = c.args.sheet.now.bytes.now in
    let vs = c.fill.ensures (variable_in bs) (λ k x h. search (rules, tests)) ∙ ap (λ n. map (variable_in bs) (range_with_len 0 n)) c.variables.ensures.count in
    let rs = c.fill-2.ensures (record_in bs) (λ k x h. search (rules, tests)) ∙ ap (λ n. map (record_in bs) (range_with_len 0 n)) c.records.ensures.count in
    λ i. program (vs i) (rs i)

pub returns-clause-begins : goal.returns-clause-begins
returns-clause-begins c =
    let bs = c.args.sheet.now.bytes.now in
    let head = valid_header bs c.args.sheet.now.valid in
    let rs = c.fill-2.ensures (record_in bs) (λ k x h. search (rules, tests)) in
    let r = ap length rs ∙ length-map-range_with_len (record_in bs) 0 c.records.result in
    omega (arith, head.some_record)
