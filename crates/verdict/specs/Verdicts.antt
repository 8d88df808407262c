-- What checking the bytes of a sheet answers, and how it prints. Assumes nothing.
use Rattle.std.specs.Prelude.{ℕ, List, ◌++◌, Ok, Err, codes, decimal, Result}
use Rattle.std.specs.Option.{option_map, option_or}
use Rattle.refusal.specs.declared.Refusal.{Refusal}
use Rattle.refusal.specs.Refusals.{refusal_text}
use Rattle.refusal.specs.Answers.{answer}
use Rattle.sheet.specs.Faults.{sheet_refusal_of}
use Rattle.sheet.specs.Reading.{sheet_refusal, variable_count_of, record_count_of}
use Rattle.labels.specs.Labels.{Labels}
use Rattle.checker.specs.Accepting.{sheet_program, accept_refusal}
use Rattle.verdict.specs.declared.sizes.Sizes.{Sizes}

-- the refusal of the sheet, else that of its program, else its sizes
abbrev pub checked : Labels → List ℕ → Result Sizes Refusal
checked L bs =
    answer (option_or (option_map sheet_refusal_of (sheet_refusal bs)) (accept_refusal L (sheet_program bs)))
    (record { variables = variable_count_of bs; records = record_count_of bs })

-- accepted VARIABLES RECORDS
abbrev pub accepted_text : Sizes → List ℕ
accepted_text s = codes "accepted " ++ (decimal s.variables ++ (codes " " ++ decimal s.records))

abbrev pub verdict_text : Result Sizes Refusal → List ℕ
verdict_text (Ok sizes) = accepted_text sizes
verdict_text (Err refusal) = refusal_text refusal
