use Rattle.std.proofs.Common.{◌∙◌}
use Rattle.session.specs.Memories.{tables_of, memory_of}
use Rattle.session.proofs.Placing.{fetched_cell}
use Rattle.session.proofs.memory.Memory.fetch.Goals as goal

pub returns-clause-value : goal.returns-clause-value
returns-clause-value g c =
    let me = c.args.self.now in
    c.get.ensures.value ∙ fetched_cell (tables_of me) (memory_of g.B.Bank.cells me) c.args.a c.args.i c.requires.1 c.cell-cell.result c.cell-cell.ensures.inside c.cell-cell.ensures.outside _ c.size-beyond.ensures _ c.unwrap_or.ensures
