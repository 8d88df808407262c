-- When a byte string is refused as a sheet, and what a sheet holds. Assumes nothing.
use Rattle.std.specs.Prelude.{ℕ, zero, suc, ◌+◌, ◌-◌, ◌*◌, Bool, cond, ◌&&◌, ◌||◌, List, length, is_some, None, Option, ◌==◌, nat_le, nat_lt}
use Rattle.std.specs.List.{between}
use Rattle.std.specs.Option.{option_or}
use Rattle.refusal.specs.Answers.{expect, first_below}
use Rattle.sheet.specs.declared.faults.SheetFault.{SheetFault}
use Rattle.sheet.specs.declared.faults.SheetFault.TheVariants.{Truncated, Version, VariableCount, RecordCount, Length, Kind, VariableLength, TotalLength, Form, Unused, Operator}
use Rattle.sheet.specs.declared.tables.Variable.{Variable}
use Rattle.sheet.specs.declared.tables.Record.{Record}
use Rattle.sheet.specs.Tables.{operator}
use Rattle.sheet.specs.Format.{byte, word16, used, variable_of, record_of}

abbrev pub within : ℕ → ℕ → ℕ → Bool
within low high n = nat_le low n && nat_le n high

-- Places

abbrev pub variable_count_of : List ℕ → ℕ
variable_count_of bs = byte bs 1

abbrev pub record_count_of : List ℕ → ℕ
record_count_of bs = word16 bs 2

abbrev pub variable_place : ℕ → ℕ
variable_place k = 4 + 4 * k

-- of the record numbered k + 1, after n variables
abbrev pub record_place : ℕ → ℕ → ℕ
record_place n k = 4 + 4 * n + 12 * k

abbrev pub sheet_length : ℕ → ℕ → ℕ
sheet_length n m = record_place n m

-- Refusals

-- 1 to 64 variables, 1 to 512 records
abbrev pub counts_refusal : ℕ → ℕ → Option SheetFault
counts_refusal n m = option_or (expect (within 1 64 n) (VariableCount 1)) (expect (within 1 512 m) (RecordCount 2))

unfoldable pub header_refusal : List ℕ → Option SheetFault
header_refusal bs =
    option_or (expect (nat_le 4 (length bs)) (Truncated (length bs)))
    (option_or (expect (byte bs 0 == 1) (Version 0))
    (option_or (counts_refusal (variable_count_of bs) (record_count_of bs))
    (expect (length bs == sheet_length (variable_count_of bs) (record_count_of bs)) (Length (length bs)))))

-- a number has length 0, an array 1 to 4,096
abbrev pub length_fits : ℕ → ℕ → Bool
length_fits kind n = cond (kind == 0) (n == 0) (within 1 4096 n)

-- of the variable in the four bytes q, which begin at p, after variables of `before` cells
unfoldable pub variable_refusal : ℕ → ℕ → List ℕ → Option SheetFault
variable_refusal p before q =
    option_or (expect (nat_lt (byte q 0) 2) (Kind p))
    (option_or (expect (length_fits (byte q 0) (word16 q 2)) (VariableLength (p + 2)))
    (expect (nat_le (before + word16 q 2) 16384) (TotalLength (p + 2))))

-- of byte i of a record
abbrev pub byte_refusal : ℕ → List ℕ → ℕ → Option SheetFault
byte_refusal p q i = expect (used (byte q 0) i || byte q i == 0) (Unused (p + i))

-- of the record in the twelve bytes q, which begin at p
unfoldable pub record_refusal : ℕ → List ℕ → Option SheetFault
record_refusal p q =
    option_or (expect (nat_lt (byte q 0) 11) (Form p))
    (option_or (first_below (byte_refusal p q) 12)
    (cond (byte q 0 == 3) (expect (is_some (operator (byte q 5))) (Operator (p + 5))) None))

-- the n bytes from p on
abbrev pub part : List ℕ → ℕ → ℕ → List ℕ
part bs p n = between p (p + n) bs

abbrev pub variable_part : List ℕ → ℕ → List ℕ
variable_part bs k = part bs (variable_place k) 4

-- the bytes of the record numbered k + 1, after n variables
abbrev pub record_part : List ℕ → ℕ → ℕ → List ℕ
record_part bs n k = part bs (record_place n k) 12

-- the lengths of the variables below k, added up
abbrev pub cells_below : List ℕ → ℕ → ℕ
cells_below bs zero = 0
cells_below bs (suc k) = cells_below bs k + word16 (variable_part bs k) 2

unfoldable pub variables_refusal : List ℕ → ℕ → Option SheetFault
variables_refusal bs n = first_below (λ k. variable_refusal (variable_place k) (cells_below bs k) (variable_part bs k)) n

-- m records after n variables
unfoldable pub records_refusal : List ℕ → ℕ → ℕ → Option SheetFault
records_refusal bs n m = first_below (λ k. record_refusal (record_place n k) (record_part bs n k)) m

unfoldable pub sheet_refusal : List ℕ → Option SheetFault
sheet_refusal bs =
    option_or (header_refusal bs)
    (option_or (variables_refusal bs (variable_count_of bs)) (records_refusal bs (variable_count_of bs) (record_count_of bs)))

-- What a sheet holds: variables by number from 0, records by number from 1

unfoldable pub variable_at : List ℕ → ℕ → Option Variable
variable_at bs k = cond (nat_lt k (variable_count_of bs)) (variable_of (variable_part bs k)) None

unfoldable pub record_at : List ℕ → ℕ → Option Record
record_at bs k = cond (within 1 (record_count_of bs) k) (record_of (record_part bs (variable_count_of bs) (k - 1))) None
