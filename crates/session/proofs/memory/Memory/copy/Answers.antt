use Rattle.std.proofs.Common.{ap, refl, ◌∙◌}
use Rattle.sheet.specs.declared.tables.Variable.{Variable}
use Rattle.sheet.specs.Tables.{cells}
use Rattle.session.specs.Memories.{memory_of}
use Rattle.session.proofs.Reading.{few_variables}
use Rattle.session.proofs.Copying.{copied_over}
use Rattle.session.proofs.memory.Memory.copy.Goals as goal

pub returns : goal.returns
returns g c =
    let me = c.args.self.now in
    let size = c.cells-n.ensures ∙ ap (λ (x : Variable). cells x.kind) c.variable.ensures in
    record {
      memory = copied_over _ _ me.laid (few_variables me.program) _ _ c.requires.arrays.0 c.requires.arrays.1 _ size (memory_of g.B.Bank.cells me) _ c.copy_cells.ensures;
      program = refl;
    }
