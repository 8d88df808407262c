-- How the reason for which a run stopped prints. Assumes nothing.
use Rattle.std.specs.Prelude.{ℕ, List, codes}
use Rattle.model.specs.declared.stop.Stop.{Stop}
use Rattle.model.specs.declared.stop.Stop.TheVariants.{Ended, Spent, Full}

abbrev pub stop_text : Stop → List ℕ
stop_text Ended = codes "ended"
stop_text Spent = codes "spent"
stop_text Full = codes "full"
