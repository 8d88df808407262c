-- The refusals of the faults. Assumes nothing.
use Rattle.std.specs.Prelude.{ℕ}
use Rattle.refusal.specs.declared.Layer.TheVariants as Layer
use Rattle.refusal.specs.declared.Refusal.{Refusal}
use Rattle.refusal.specs.Refusals.{refused_at}
use Rattle.model.specs.declared.rule.Rule.{Rule}
use Rattle.model.specs.declared.rule.Rule.TheVariants as rule
use Rattle.rules.specs.declared.faults.ShapeFault.TheVariants.{VariableLabel, RecordLabel, NoVariable, WrongKind, Link, LinkedOnce, Depth, OramLength}
use Rattle.rules.specs.declared.faults.ShapeFault.{ShapeFault}
use Rattle.rules.specs.declared.faults.RuleFault.{RuleFault}

abbrev pub shape_number : ShapeFault → ℕ
shape_number (VariableLabel place) = 20
shape_number (RecordLabel place) = 21
shape_number (NoVariable place) = 22
shape_number (WrongKind place) = 23
shape_number (Link place) = 24
shape_number (LinkedOnce place) = 25
shape_number (Depth place) = 26
shape_number (OramLength place) = 27

abbrev pub shape_place : ShapeFault → ℕ
shape_place (VariableLabel place) = place
shape_place (RecordLabel place) = place
shape_place (NoVariable place) = place
shape_place (WrongKind place) = place
shape_place (Link place) = place
shape_place (LinkedOnce place) = place
shape_place (Depth place) = place
shape_place (OramLength place) = place

abbrev pub rule_number : Rule → ℕ
rule_number rule.Around = 30
rule_number rule.Target = 31
rule_number rule.Source = 32
rule_number rule.Index = 33
rule_number rule.Guard = 34
rule_number rule.OpenGuard = 35
rule_number rule.Special = 36
rule_number rule.Declass = 37
rule_number rule.Oram = 38

abbrev pub shape_refusal_of : ShapeFault → Refusal
shape_refusal_of f = refused_at Layer.Shape (shape_number f) (shape_place f)

abbrev pub rule_refusal_of : RuleFault → Refusal
rule_refusal_of f = refused_at Layer.Rule (rule_number f.rule) f.place
