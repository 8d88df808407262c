use Rattle.std.proofs.Common.{◌≡◌, ◌++◌, length, take, drop}
use Rattle.std.specs.List.{filter_map}
use Rattle.tape.specs.Log.{picked}
use Rattle.tape.proofs.View.write_log.Given as goal

abbrev pub invariant-loop-entry : goal.invariant-loop-entry
invariant-loop-entry g l =
    let done = filter_map (picked (g.O.LabelOrder.meaning l.self.order.now) l.self.party) (take l.entry-index l.tape) in
    record { behind : l.at ≡ length done; written : l.out ≡ done ++ drop l.at l.initial.out }
