-- The smallest program is accepted. Assumes nothing.
use Rattle.std.proofs.Common.{◌≡◌, None, refl}
use Rattle.std.proofs.lemmas.Bool.{eq-eqb}
use Rattle.labels.specs.Labels.{Labels, Lawful}
use Rattle.model.specs.Nesting.{record_at, linker, place}
use Rattle.model.specs.Program.{variable_at}
use Rattle.rules.specs.Shape.{record_refusal}
use Rattle.checker.specs.Checks.{variables_refusal, records_refusal, once_refusal, depth_refusal, entries_refusal, shape_refusal}
use Rattle.checker.specs.Breaches.{rules_refusal, rule_refusal, labelled_at}
use Rattle.checker.specs.Accepting.{accept_refusal}
use Rattle.checker.specs.Contents.{smallest}

pub smallest_passes : (L : Labels) → Lawful L → accept_refusal L (smallest L.public) ≡ None
unfolding accept_refusal shape_refusal entries_refusal variables_refusal records_refusal record_refusal once_refusal depth_refusal rules_refusal rule_refusal labelled_at record_at variable_at place linker
smallest_passes L W = rw (W.public_known, eq-eqb L.public L.public refl) refl
