use Rattle.compare.proofs.Logging.{compared}
use Rattle.compare.proofs.comparing.compare.Goals as goal

pub returns-clause-secret : goal.returns-clause-secret
returns-clause-secret g c = compared _ _ _ c.in_ok-first.ensures.secrecy _ _ _ _ _ _ c.in_ok-first.ensures.log c.in_ok-second.ensures.log
