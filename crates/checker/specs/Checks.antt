-- The checks of the tables: refusals 20 to 27 in their order. Assumes nothing.
use Rattle.std.specs.Prelude.{ℕ, ◌+◌, ◌-◌, List, length, Option, ◌==◌, nat_le}
use Rattle.std.specs.Option.{option_or}
use Rattle.refusal.specs.Answers.{expect, first_below}
use Rattle.sheet.specs.declared.tables.Variable.{Variable}
use Rattle.sheet.specs.declared.tables.Record.{Record}
use Rattle.labels.specs.Labels.{Labels}
use Rattle.model.specs.Nesting.{record_at, times_linked, place}
use Rattle.model.specs.Program.{Program, label_of}
use Rattle.rules.specs.declared.faults.ShapeFault.{ShapeFault}
use Rattle.rules.specs.declared.faults.ShapeFault.TheVariants.{VariableLabel, LinkedOnce, Depth}
use Rattle.rules.specs.Shape.{record_refusal}

-- of the first n variables
unfoldable pub variables_refusal : Labels → List Variable → ℕ → Option ShapeFault
variables_refusal L vs n = first_below (λ v. expect (L.known (label_of vs v)) (VariableLabel v)) n

-- of the first n records
unfoldable pub records_refusal : Labels → List Variable → List Record → ℕ → Option ShapeFault
records_refusal L vs rs n = first_below (λ j. record_refusal L vs (length rs) (j + 1) (record_at rs (j + 1))) n

-- of n records from 2 up
unfoldable pub once_refusal : List Record → ℕ → Option ShapeFault
once_refusal rs n = first_below (λ j. expect (times_linked rs (j + 2) == 1) (LinkedOnce (j + 2))) n

unfoldable pub depth_refusal : List Record → ℕ → Option ShapeFault
depth_refusal rs n = first_below (λ j. expect (nat_le (place rs (j + 1)).depth 16) (Depth (j + 1))) n

-- before the places are known
unfoldable pub entries_refusal : Labels → Program → Option ShapeFault
entries_refusal L p =
    option_or (variables_refusal L p.variables (length p.variables))
    (option_or (records_refusal L p.variables p.records (length p.records))
    (once_refusal p.records (length p.records - 1)))

unfoldable pub shape_refusal : Labels → Program → Option ShapeFault
shape_refusal L p = option_or (entries_refusal L p) (depth_refusal p.records (length p.records))
