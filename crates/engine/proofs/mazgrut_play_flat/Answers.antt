use Rattle.engine.proofs.Following.{follows}
use Rattle.engine.proofs.mazgrut_play_flat.Goals as goal

pub returns-in-Ok-clause-follows : goal.returns-in-Ok-clause-follows
returns-in-Ok-clause-follows c = follows _ _ _ _ _ _

pub returns-in-Err-clause-follows : goal.returns-in-Err-clause-follows
returns-in-Err-clause-follows c = follows _ _ _ _ _ _
