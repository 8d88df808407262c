-- The sheets are exactly the layouts of the tables within the limits. Assumes nothing.
use Rattle.std.specs.Prelude.{◌≡◌, ℕ, ◌+◌, ◌^◌, ◌<◌, ◌≤◌, ◌↔◌, List, [], ◌∷◌, length, take, None, Ok, Result}
use Rattle.std.specs.List.{slice_get, AllByRecursion}
use Rattle.sheet.specs.declared.faults.SheetFault.{SheetFault}
use Rattle.sheet.specs.declared.tables.Kind.{Kind}
use Rattle.sheet.specs.declared.tables.Kind.TheVariants.{Number, Array}
use Rattle.sheet.specs.declared.tables.Form.{Form}
use Rattle.sheet.specs.declared.tables.Form.TheVariants.{Skip, Copy, Constant, Binary, Fetch, Mux, Store, If, While, Declass, Oram}
use Rattle.sheet.specs.declared.tables.Variable.{Variable}
use Rattle.sheet.specs.declared.tables.Record.{Record}
use Rattle.sheet.specs.Tables.{cells}
use Rattle.sheet.specs.Format.{sheet_bytes}
use Rattle.sheet.specs.Reading.{sheet_refusal, variable_at, record_at}

-- an array has 1 to 4,096 cells
abbrev pub KindFits : Kind → Type 0
KindFits Number = Unit {0}
KindFits (Array n) = (1 ≤ n) × (n ≤ 4096)

abbrev pub VariableFits : Variable → Type 0
VariableFits v = (v.label < 256) × KindFits v.kind

-- each operand fits a byte, each link two, and a constant four
abbrev pub FormFits : Form → Type 0
FormFits Skip = Unit {0}
FormFits (Copy x a) = (x < 256) × (a < 256)
FormFits (Constant x value) = (x < 256) × (value < 2 ^ 32)
FormFits (Binary x a b op) = (x < 256) × (a < 256) × (b < 256)
FormFits (Fetch x a b) = (x < 256) × (a < 256) × (b < 256)
FormFits (Mux x a b c) = (x < 256) × (a < 256) × (b < 256) × (c < 256)
FormFits (Store x a b) = (x < 256) × (a < 256) × (b < 256)
FormFits (If a then other) = (a < 256) × (then < 2 ^ 16) × (other < 2 ^ 16)
FormFits (While a body) = (a < 256) × (body < 2 ^ 16)
FormFits (Declass x a) = (x < 256) × (a < 256)
FormFits (Oram x a) = (x < 256) × (a < 256)

abbrev pub RecordFits : Record → Type 0
RecordFits r = (r.label < 256) × (r.next < 2 ^ 16) × FormFits r.form

abbrev pub total_cells : List Variable → ℕ
total_cells [] = 0
total_cells (v ∷ vs) = cells v.kind + total_cells vs

-- 1 to 64 variables of at most 16,384 cells, and 1 to 512 records
pub record WithinLimits (vs : List Variable) (rs : List Record) : Type 0 where
  pub some_variable : 1 ≤ length vs
  pub few_variables : length vs ≤ 64
  pub some_record : 1 ≤ length rs
  pub few_records : length rs ≤ 512
  pub variables : AllByRecursion VariableFits vs
  pub few_cells : total_cells vs ≤ 16384
  pub records : AllByRecursion RecordFits rs

-- asked by number, a sheet of these bytes answers these tables
pub record Holds (bs : List ℕ) (vs : List Variable) (rs : List Record) : Type 0 where
  pub variables : (k : ℕ) → variable_at bs k ≡ slice_get vs k
  pub records : (k : ℕ) → record_at bs (k + 1) ≡ slice_get rs k

-- Reading answers tables exactly when the bytes are their encoding and they are within the limits; what is read has
-- such tables. So each pair of tables has one sheet, and each sheet one pair.
pub record ReadsExactly (bs : List ℕ) (r : Result (Unit {0}) SheetFault) : Type 0 where
  pub exact : (vs : List Variable) (rs : List Record) →
      ((r ≡ Ok tt) × Holds bs vs rs) ↔ (WithinLimits vs rs × (bs ≡ sheet_bytes vs rs))
  pub some : r ≡ Ok tt → (vs : List Variable) × (rs : List Record) × WithinLimits vs rs × (bs ≡ sheet_bytes vs rs)

-- Laying out tables within the limits succeeds where the buffer has room, and what then stands at its beginning reads
-- back as the same tables.
pub record LaysExactly (vs : List Variable) (rs : List Record) (before : List ℕ) (r : Result ℕ SheetFault) (after : List ℕ) : Type 0 where
  pub succeeds : WithinLimits vs rs → length (sheet_bytes vs rs) ≤ length before → r ≡ Ok (length (sheet_bytes vs rs))
  pub reads_back : WithinLimits vs rs → (n : ℕ) → r ≡ Ok n → (sheet_refusal (take n after) ≡ None) × Holds (take n after) vs rs
