-- The first rule that a program breaks. Assumes nothing.
use Rattle.std.specs.Prelude.{ℕ, ◌+◌, Option}
use Rattle.std.specs.Option.{option_map}
use Rattle.refusal.specs.Answers.{first_below}
use Rattle.labels.specs.Labels.{Labels}
use Rattle.model.specs.Nesting.{record_at}
use Rattle.model.specs.Program.{Program}
use Rattle.model.specs.Rules.{surroundings}
use Rattle.rules.specs.declared.faults.RuleFault.{RuleFault}
use Rattle.rules.specs.declared.operands.Labelled.{Labelled}
use Rattle.rules.specs.Breaches.{labelled, first_broken}

-- record k with its labels
unfoldable pub labelled_at : Labels → Program → ℕ → Labelled
labelled_at L p k = labelled p.variables (surroundings L p k) (record_at p.records k).label (record_at p.records k).form

-- the lowest rule that record k breaks
unfoldable pub rule_refusal : Labels → Program → ℕ → Option RuleFault
rule_refusal L p k = option_map (λ rule. record { rule = rule; place = k }) (first_broken L (labelled_at L p k))

-- of the first n records: the lowest record that breaks a rule, and the lowest rule that it breaks
unfoldable pub rules_refusal : Labels → Program → ℕ → Option RuleFault
rules_refusal L p n = first_below (λ j. rule_refusal L p (j + 1)) n
