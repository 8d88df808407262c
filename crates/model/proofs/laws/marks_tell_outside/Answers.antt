use Rattle.model.proofs.laws.marks_tell_outside.Goals as goal
use Rattle.model.proofs.Marks.{marks_tell}

pub returns : goal.returns
returns c = marks_tell
