-- When tables are refused, and what a buffer holds after their sheet is laid out. Assumes nothing.
use Rattle.std.specs.Prelude.{ℕ, ◌+◌, cond, List, ◌++◌, length, take, drop, is_some, Option, nat_le}
use Rattle.std.specs.Option.{option_or}
use Rattle.sheet.specs.declared.faults.SheetFault.{SheetFault}
use Rattle.sheet.specs.declared.faults.SheetFault.TheVariants.{Buffer}
use Rattle.sheet.specs.declared.tables.Variable.{Variable}
use Rattle.sheet.specs.declared.tables.Record.{Record}
use Rattle.sheet.specs.Format.{sheet_bytes}
use Rattle.refusal.specs.Answers.{expect}
use Rattle.sheet.specs.Reading.{counts_refusal, sheet_refusal}

-- bytes over the beginning of a buffer
abbrev pub over : List ℕ → List ℕ → List ℕ
over bs out = bs ++ drop (length bs) out

-- and over the part of it from p on
abbrev pub over_at : ℕ → List ℕ → List ℕ → List ℕ
over_at p bs out = take p out ++ (bs ++ drop (p + length bs) out)

-- as reading the sheet would refuse it; no count that is refused has a sheet
unfoldable pub tables_refusal : List Variable → List Record → Option SheetFault
tables_refusal vs rs = option_or (counts_refusal (length vs) (length rs)) (sheet_refusal (sheet_bytes vs rs))

-- then a buffer with too little room
unfoldable pub layout_refusal : List Variable → List Record → ℕ → Option SheetFault
layout_refusal vs rs room =
    option_or (tables_refusal vs rs) (expect (nat_le (length (sheet_bytes vs rs)) room) (Buffer (length (sheet_bytes vs rs))))

-- the buffer after the call
abbrev pub laid_over : List Variable → List Record → List ℕ → List ℕ
laid_over vs rs out = cond (is_some (layout_refusal vs rs (length out))) out (over (sheet_bytes vs rs) out)
