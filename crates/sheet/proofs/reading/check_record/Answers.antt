use Rattle.std.proofs.Common.{◌+◌, ap, arith}
use Rattle.std.proofs.lemmas.Bool.Decides.{nat_tests}
use Rattle.refusal.specs.Answers.{expect}
use Rattle.sheet.specs.declared.faults.SheetFault.TheVariants.{Unused}
use Rattle.sheet.specs.Reading.{record_refusal, byte_refusal}
use Rattle.refusal.proofs.First.{first_none, first_stop, passes}
use Rattle.sheet.proofs.reading.check_record.Goals as goal

pub returns-then-form-gt10 : goal.returns-then-form-gt10
unfolding record_refusal
returns-then-form-gt10 c = grind (arith, nat_tests)

pub returns-in-Some : goal.returns-in-Some
unfolding record_refusal
returns-in-Some c =
    let h = c.in-Some.ensures in
    let clear = first_none (byte_refusal c.args.p c.args.row.now) c.in-Some.i (λ k l. passes _ _ (h.2 k l)) in
    let s = first_stop (byte_refusal c.args.p c.args.row.now) (Unused (c.args.p + c.in-Some.i)) c.in-Some.i 12 (omega (arith, h.0)) clear (ap (λ b. expect b (Unused (c.args.p + c.in-Some.i))) h.1) in
    grind (arith, nat_tests, s)

pub returns-then-is_err : goal.returns-then-is_err
unfolding record_refusal
returns-then-is_err c =
    let s = first_none (byte_refusal c.args.p c.args.row.now) 12 (λ k l. passes _ _ (c.in_default.ensures k (omega arith))) in
    grind (arith, nat_tests, s)

pub returns : goal.returns
unfolding record_refusal
returns c =
    let s = first_none (byte_refusal c.args.p c.args.row.now) 12 (λ k l. passes _ _ (c.in_default.ensures k (omega arith))) in
    grind (arith, nat_tests, s)
