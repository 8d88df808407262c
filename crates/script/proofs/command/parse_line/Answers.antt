use Rattle.std.proofs.Common.{rules}
use Rattle.script.proofs.Back.{read_back}
use Rattle.script.proofs.command.parse_line.Goals as goal

pub returns-clause-back : goal.returns-clause-back
returns-clause-back c = read_back c.args.line.now _ (search rules)
