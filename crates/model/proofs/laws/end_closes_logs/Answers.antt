use Rattle.model.proofs.laws.end_closes_logs.Goals as goal
use Rattle.model.proofs.Theorem.{end_closes}

pub returns : goal.returns
returns c = λ L W p A q hq. end_closes L W p A q hq
