-- A sheet is what is not refused. Assumes nothing.
use Rattle.std.proofs.Common.{◌≡◌, ℕ, ◌≤◌, true, cond, not, List, length, is_some, Some, None, Option, sym, refl, ap}
use Rattle.std.proofs.lemmas.Bool.{false≢true}
use Rattle.refusal.proofs.First.{both_none}
use Rattle.sheet.proofs.Header.{Header, header}
use Rattle.sheet.specs.declared.faults.SheetFault.{SheetFault}
use Rattle.sheet.specs.Reading.{sheet_refusal, variable_count_of, record_count_of, sheet_length}
use Rattle.sheet.specs.Valid.{valid, read}

none : (o : Option SheetFault) → not (is_some o) ≡ true → o ≡ None
none None e = refl
none (Some f) e = absurd (false≢true e)

pub none_from_valid : (bs : List ℕ) → valid bs ≡ true → sheet_refusal bs ≡ None
unfolding valid
none_from_valid bs e = none (sheet_refusal bs) e

pub read_accepted : (old new : List ℕ) → sheet_refusal new ≡ None → new ≡ read old new
unfolding valid
read_accepted old new e = sym (ap (λ o. cond (not (is_some o)) new old) e)

module _ (bs : List ℕ) (v : valid bs ≡ true) where
  pub valid_header : Header bs
  unfolding sheet_refusal
  valid_header = header bs (both_none _ _ (none_from_valid bs v)).0

  pub few_variables : variable_count_of bs ≤ 64
  few_variables = valid_header.few_variables

  pub few_records : record_count_of bs ≤ 512
  few_records = valid_header.few_records

  pub long : length bs ≡ sheet_length (variable_count_of bs) (record_count_of bs)
  long = valid_header.long
