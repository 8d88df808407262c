use Rattle.std.proofs.Common.{not, length, ◌≡◌, ℕ, List, Option, refl, rules, tests}
use Rattle.std.specs.Option.{option_map}
use Rattle.std.proofs.lemmas.Iterator.{YieldsList-from_slice}
use Rattle.std.proofs.lemmas.Iterator.Search.{position_from_yields_List}
use Rattle.sheet.specs.declared.tables.Variable.{Variable}
use Rattle.labels.specs.Labels.{Labels}
use Rattle.model.specs.Program.{variable_at, no_variable, label_of}
use Rattle.rules.specs.declared.faults.ShapeFault.TheVariants.{VariableLabel}
use Rattle.checker.specs.Checks.{variables_refusal}
use Rattle.checker.proofs.Firsts.{Found, first_at, told}
use Rattle.checker.proofs.tables.Tables.check_variables.Goals as goal

by_first : (L : Labels) (vs : List Variable) (o : Option ℕ) → Found (λ (x : Variable). not (L.known x.label)) vs o → option_map VariableLabel o ≡ variables_refusal L vs (length vs)
unfolding variables_refusal variable_at
by_first L vs = first_at (λ (x : Variable). not (L.known x.label)) (λ v. L.known (label_of vs v)) VariableLabel vs no_variable (λ j h. refl) _ refl

pub returns : goal.returns
returns g c =
    let all = c.args.self.now.variables.items in
    told VariableLabel _ _ _ _ c.map_or.ensures (λ j h. search (rules, tests))
    (by_first _ all _ (position_from_yields_List {all = all} _ _ _ _ c.position.ensures.ran (YieldsList-from_slice all cc) (λ x b q k. search (rules, tests))))
