use Rattle.session.proofs.Reading.{few_variables}
use Rattle.session.proofs.Laying.{start_last}
use Rattle.session.proofs.Clearing.{opened_memory}
use Rattle.session.proofs.memory.Memory.new.Goals as goal

pub returns-clause-memory : goal.returns-clause-memory
returns-clause-memory g c =
    let count = c.variable_count.ensures in
    opened_memory _ _ _ _ c.clear.ensures (start_last _ _ c.first_cells-starts.ensures _ count.count count.few) (few_variables c.args.program)
