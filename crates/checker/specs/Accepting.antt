-- What accept answers. Assumes nothing.
use Rattle.std.specs.Prelude.{◌≡◌, ◌≢◌, ℕ, ◌+◌, ◌≤◌, Bool, not, List, map, length, is_some, Ok, Err, Option, Result}
use Rattle.std.specs.List.{range_with_len, AllByRecursion}
use Rattle.std.specs.Option.{option_map, option_or, unwrap_or}
use Rattle.refusal.specs.declared.Layer.TheVariants as Layer
use Rattle.refusal.specs.declared.Refusal.{Refusal}
use Rattle.refusal.specs.Refusals.{refused_at}
use Rattle.sheet.specs.declared.tables.Variable.{Variable}
use Rattle.sheet.specs.declared.tables.Record.{Record}
use Rattle.sheet.specs.Reading as sheet
use Rattle.labels.specs.Labels.{Labels, Known}
use Rattle.model.specs.declared.rule.Rule.{Rule}
use Rattle.model.specs.Nesting.{skip, Rises, Linked, links, record_at, times_linked, StandsOnce}
use Rattle.model.specs.Program.{Program, IsVariable, IsRecord, label_of, no_variable}
use Rattle.model.specs.Rules.{Present, RightKinds, SameLength, WellShaped, Keeps, Accepted, depth}
use Rattle.model.specs.Secrecy.{Secrecy}
use Rattle.rules.specs.declared.faults.ShapeFault.{ShapeFault}
use Rattle.rules.specs.declared.faults.ShapeFault.TheVariants.{VariableLabel, RecordLabel, NoVariable, WrongKind, Link, LinkedOnce, Depth, OramLength}
use Rattle.rules.specs.Faults.{shape_number, shape_place, shape_refusal_of, rule_refusal_of, rule_number}
use Rattle.checker.specs.declared.tables.Tables.{Tables}
use Rattle.checker.specs.Checks.{shape_refusal}
use Rattle.checker.specs.Breaches.{rules_refusal}

abbrev pub program : List Variable → List Record → Program
program vs rs = record { variables = vs; records = rs }

-- two tables in place, as lists
abbrev pub tables_in : Tables → Program
tables_in t = program t.variables.items t.records.items

-- The tables of a sheet

abbrev pub variable_in : List ℕ → ℕ → Variable
variable_in bs v = unwrap_or (sheet.variable_at bs v) no_variable

abbrev pub record_in : List ℕ → ℕ → Record
record_in bs k = unwrap_or (sheet.record_at bs (k + 1)) skip

unfoldable pub sheet_variables : List ℕ → List Variable
sheet_variables bs = map (variable_in bs) (range_with_len 0 (sheet.variable_count_of bs))

unfoldable pub sheet_records : List ℕ → List Record
sheet_records bs = map (record_in bs) (range_with_len 0 (sheet.record_count_of bs))

abbrev pub sheet_program : List ℕ → Program
sheet_program bs = program (sheet_variables bs) (sheet_records bs)

-- the shape's refusals first, then the rules'
unfoldable pub accept_refusal : Labels → Program → Option Refusal
accept_refusal L p = option_or (option_map shape_refusal_of (shape_refusal L p)) (option_map rule_refusal_of (rules_refusal L p (length p.records)))

-- the check of the tables under the order refuses nothing
abbrev pub is_accepted : Labels → Program → Bool
is_accepted L p = not (is_some (accept_refusal L p))

-- what a fault of the shape says of the program
abbrev pub Defect : Labels → Program → ShapeFault → Type 0
Defect L p (VariableLabel v) = IsVariable p v × (Known L (label_of p.variables v) → ⊥)
Defect L p (RecordLabel k) = IsRecord p k × (Known L (record_at p.records k).label → ⊥)
Defect L p (NoVariable k) = IsRecord p k × (Present p (record_at p.records k).form → ⊥)
Defect L p (WrongKind k) = IsRecord p k × (RightKinds p (record_at p.records k).form → ⊥)
Defect L p (Link k) = IsRecord p k × (AllByRecursion (Rises (length p.records) k) (links (record_at p.records k)) → ⊥)
Defect L p (LinkedOnce k) = (2 ≤ k) × (k ≤ length p.records) × (times_linked p.records k ≢ 1)
Defect L p (Depth k) = IsRecord p k × (depth p k ≤ 16 → ⊥)
Defect L p (OramLength k) = IsRecord p k × (SameLength p (record_at p.records k).form → ⊥)

-- What an answer tells: accepted exactly when shape and rules are kept, then with secrecy; where the records are well
-- linked, the places from which depth and surroundings are taken are those that they stand at; and a refusal by a rule
-- names a record of a well-shaped program that breaks the rule.
pub record Verdict (L : Labels) (p : Program) (r : Result (Unit {0}) Refusal) : Type 0 where
  pub sound : r ≡ Ok tt → Accepted L p × Secrecy L p
  pub complete : Accepted L p → r ≡ Ok tt
  pub places : Linked p.records → (k : ℕ) → IsRecord p k → StandsOnce p.records k
  pub breach : (number place : ℕ) → r ≡ Err (refused_at Layer.Rule number place) →
      (k : Rule) × (rule_number k ≡ number) × WellShaped L p × IsRecord p place × (Keeps L p place k → ⊥)

-- A refusal by the shape is one of a program that is not well-shaped, and has the defect that is named at the place that
-- is named.
abbrev pub IsMisshapen : Labels → Program → Result (Unit {0}) Refusal → Type 0
IsMisshapen L p r =
    (number place : ℕ) → r ≡ Err (refused_at Layer.Shape number place) →
    (WellShaped L p → ⊥) × ((f : ShapeFault) × (shape_number f ≡ number) × (shape_place f ≡ place) × Defect L p f)
