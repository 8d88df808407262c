-- What a program holds is accepted under its order. Assumes nothing.
use Rattle.std.proofs.Common.{◌≡◌, true, not, is_some, Some, None, Option, refl}
use Rattle.labels.specs.declared.order.LabelOrder as LabelOrder
use Rattle.refusal.specs.declared.Refusal.{Refusal}
use Rattle.model.specs.Rules.{Accepted}
use Rattle.checker.specs.declared.program.Program.{Program}
use Rattle.checker.specs.Contents.{contents}
use Rattle.checker.proofs.Verdicts.{accepts}

unrefused : (o : Option Refusal) → not (is_some o) ≡ true → o ≡ None
unrefused None e = refl
unrefused (Some r) e = absurd cc

pub held_accepted : {A : Type 0} {g : LabelOrder.Ghosts A} (q : Program A g) → Accepted (g.meaning q.order) (contents q).tables
held_accepted {g = g} q = accepts (g.meaning q.order) (contents q).tables (unrefused _ q.accepted)
