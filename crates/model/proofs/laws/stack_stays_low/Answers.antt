use Rattle.model.proofs.laws.stack_stays_low.Goals as goal
use Rattle.model.proofs.Heights.{low_stack}

pub returns : goal.returns
returns c = low_stack
