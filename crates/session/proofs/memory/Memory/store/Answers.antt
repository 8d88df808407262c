use Rattle.std.proofs.Common.{length, take, refl, ap, ◌∙◌}
use Rattle.session.specs.Memories.{tables_of, memory_of}
use Rattle.session.proofs.Placing.{stored_cell}
use Rattle.session.proofs.memory.Memory.store.Goals as goal

pub returns-clause-stored : goal.returns-clause-stored
returns-clause-stored g c =
    let me = c.args.self.now in
    record {
      memory = ap (λ row. record { numbers = take (length (tables_of me).variables) me.numbers; cells = row }) c.put.ensures
          ∙ stored_cell (tables_of me) (memory_of g.B.Bank.cells me) c.args.x c.args.i c.requires.1 c.cell-cell.result c.cell-cell.ensures.inside c.cell-cell.ensures.outside _ c.size-beyond.ensures _ c.unwrap_or.ensures c.args.value;
      program = refl;
    }
