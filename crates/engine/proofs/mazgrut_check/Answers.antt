use Rattle.std.proofs.Common.{refl}
use Rattle.engine.proofs.mazgrut_check.Goals as goal

pub returns-in-Ok-clause-secret : goal.returns-in-Ok-clause-secret
returns-in-Ok-clause-secret c = λ _. c.in-Ok.ensures.secret refl
