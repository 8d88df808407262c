use Rattle.std.proofs.Common.{rules}
use Rattle.script.proofs.Back.{entry_back}
use Rattle.script.proofs.command.parse_entry.Goals as goal

pub returns-in-entry-clause-back : goal.returns-in-entry-clause-back
returns-in-entry-clause-back c = entry_back c.args.line.now c.entry.result (search rules)

pub returns-in_default-clause-back : goal.returns-in_default-clause-back
returns-in_default-clause-back c = entry_back c.args.line.now _ (search rules)
