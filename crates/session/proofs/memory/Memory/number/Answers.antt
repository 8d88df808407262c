use Rattle.session.specs.Memories.{tables_of}
use Rattle.session.proofs.Reading.{held_number}
use Rattle.session.proofs.memory.Memory.number.Goals as goal

pub returns : goal.returns
returns g c =
    let me = c.args.self.now in
    held_number (tables_of me) me.numbers (g.B.Bank.cells me.bank) c.args.v c.requires.0 c.requires.1
