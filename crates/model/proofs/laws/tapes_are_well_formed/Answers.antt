use Rattle.model.proofs.laws.tapes_are_well_formed.Goals as goal
use Rattle.model.proofs.Tapes.{well_formed}

pub returns : goal.returns
returns c = well_formed
