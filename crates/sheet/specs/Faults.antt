-- The number and the place of each fault. Assumes nothing.
use Rattle.std.specs.Prelude.{ℕ}
use Rattle.refusal.specs.declared.Layer.TheVariants.{Sheet}
use Rattle.refusal.specs.declared.Refusal.{Refusal}
use Rattle.refusal.specs.Refusals.{refused_at}
use Rattle.sheet.specs.declared.faults.SheetFault.{SheetFault}
use Rattle.sheet.specs.declared.faults.SheetFault.TheVariants.{Truncated, Version, VariableCount, RecordCount, Length, Kind, VariableLength, TotalLength, Form, Unused, Operator, Buffer}

abbrev pub fault_number : SheetFault → ℕ
fault_number (Truncated place) = 1
fault_number (Version place) = 2
fault_number (VariableCount place) = 3
fault_number (RecordCount place) = 4
fault_number (Length place) = 5
fault_number (Kind place) = 6
fault_number (VariableLength place) = 7
fault_number (TotalLength place) = 8
fault_number (Form place) = 9
fault_number (Unused place) = 10
fault_number (Operator place) = 11
fault_number (Buffer place) = 12

abbrev pub fault_place : SheetFault → ℕ
fault_place (Truncated place) = place
fault_place (Version place) = place
fault_place (VariableCount place) = place
fault_place (RecordCount place) = place
fault_place (Length place) = place
fault_place (Kind place) = place
fault_place (VariableLength place) = place
fault_place (TotalLength place) = place
fault_place (Form place) = place
fault_place (Unused place) = place
fault_place (Operator place) = place
fault_place (Buffer place) = place

-- the refusal of a fault
abbrev pub sheet_refusal_of : SheetFault → Refusal
sheet_refusal_of f = refused_at Sheet (fault_number f) (fault_place f)
