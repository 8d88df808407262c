use Rattle.std.proofs.Common.{length}
use Rattle.checker.proofs.Walks.{left}
use Rattle.checker.proofs.tables.Tables.+walk.Given as goal

-- the records left
abbrev pub decreases-walk : goal.decreases-walk
decreases-walk l = left (length l.self.now.records.items) l.k
