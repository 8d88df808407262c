use Rattle.std.proofs.Common.{refl, arith}
use Rattle.std.proofs.lemmas.List.{get_or-replicate}
use Rattle.checker.proofs.tables.Tables.count_links.Goals as goal

pub loop-entry-init : goal.loop-entry-init
loop-entry-init c = (refl, λ k h. let e = get_or-replicate 513 k 0 0 h in (e, omega arith))
