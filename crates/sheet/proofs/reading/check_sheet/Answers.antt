use Rattle.std.proofs.Common.{◌≡◌, ℕ, ap, arith}
use Rattle.refusal.proofs.Answering.{accepted}
use Rattle.sheet.specs.Reading.{variable_count_of, record_count_of}
use Rattle.sheet.proofs.Header.{header}
use Rattle.sheet.proofs.reading.check_sheet.Goals as goal

pub check_variables-requires : goal.check_variables-requires
check_variables-requires c =
    let h = accepted _ _ _ c.in_ok-variables.ensures in
    let known = header _ h.0 in
    let v : c.in_ok-variables.variables ≡ variable_count_of c.args.bytes.now = ap (λ (p : ℕ × ℕ). p.0) h.1 in
    record { fits = (omega (arith, known.few_variables), omega (arith, known.long)) }

pub check_records-requires : goal.check_records-requires
check_records-requires c =
    let h = accepted _ _ _ c.in_ok-variables.ensures in
    let known = header _ h.0 in
    let v : c.in_ok-variables.variables ≡ variable_count_of c.args.bytes.now = ap (λ (p : ℕ × ℕ). p.0) h.1 in
    let r : c.in_ok-variables.records ≡ record_count_of c.args.bytes.now = ap (λ (p : ℕ × ℕ). p.1) h.1 in
    record { fits = (omega (arith, known.few_variables), (omega (arith, known.few_records), omega (arith, known.long))) }
