use Rattle.model.proofs.laws.oram_copies.Goals as goal
use Rattle.model.proofs.Copying.{oram_copies}

pub returns : goal.returns
returns c = oram_copies
