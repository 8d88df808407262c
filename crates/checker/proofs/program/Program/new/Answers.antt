use Rattle.std.proofs.Common.{◌≡◌, not, is_some, ap, ◌∙◌, rules}
use Rattle.checker.specs.Accepting.{program, is_accepted}
use Rattle.checker.specs.Contents.{smallest}
use Rattle.checker.proofs.Smallest.{smallest_passes}
use Rattle.checker.proofs.program.Program.new.Goals as goal

pub invariant_of-result-clause-accepted : goal.invariant_of-result-clause-accepted
invariant_of-result-clause-accepted g c =
    let L = g.O.LabelOrder.meaning c.args.order in
    let same : program c.push.new.self.items c.push-2.new.self.items ≡ smallest L.public = search rules in
    ap (is_accepted L) same ∙ ap (λ o. not (is_some o)) (smallest_passes L (g.met.O.LabelOrder.lawful c.args.order))
