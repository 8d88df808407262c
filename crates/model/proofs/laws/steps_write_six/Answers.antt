use Rattle.model.proofs.laws.steps_write_six.Goals as goal
use Rattle.model.proofs.Bounds.{written_six}

pub returns : goal.returns
returns c = λ L p s. written_six L p s.memory s.stack
