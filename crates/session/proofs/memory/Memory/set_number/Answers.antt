use Rattle.std.proofs.Common.{refl}
use Rattle.session.specs.Memories.{tables_of}
use Rattle.session.proofs.Reading.{put_number}
use Rattle.session.proofs.memory.Memory.set_number.Goals as goal

pub returns : goal.returns
returns g c =
    let me = c.args.self.now in
    record { memory = put_number (tables_of me) me.numbers (g.B.Bank.cells me.bank) c.args.v c.requires.0 c.requires.1 c.args.value; program = refl }
