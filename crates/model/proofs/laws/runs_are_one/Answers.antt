use Rattle.model.proofs.laws.runs_are_one.Goals as goal
use Rattle.model.proofs.Calls.{runs_are_one}

pub returns : goal.returns
returns c = runs_are_one
