use Rattle.std.proofs.Common.{get_or, vec_items, refl, ◌∙◌, subst, arith}
use Rattle.checker.specs.Contents.{contents}
use Rattle.session.specs.States.{state_of}
use Rattle.compare.specs.declared.call.Call.TheVariants.{Enter}
use Rattle.compare.specs.Calls.{call_of, Performed}
use Rattle.compare.proofs.Joining.{all_more, all_done}
use Rattle.compare.proofs.performing.perform_all.Goals as goal

pub loop-call-preserved : goal.loop-call-preserved
loop-call-preserved g c =
    let inv = c.loop-call.invariant in
    let before = state_of g.B.Bank.cells c.loop-call.session in
    let after = state_of g.B.Bank.cells c.perform.new.session in
    let call = get_or c.args.calls.now c.loop-call.call-index (Enter 0 0 0 0) in
    let now = subst (λ q. Performed (g.O.LabelOrder.meaning (contents q).order) (contents q).tables (call_of call) before after (vec_items c.loop-call.tape) (vec_items c.perform.new.tape)) inv.0
    (c.in_ok-perform.ensures.performed refl) in
    (c.perform.ensures.program ∙ inv.0, all_more _ _ c.args.calls.now c.loop-call.call-index (Enter 0 0 0 0) _ _ _ _ _ c.loop-call-test.true now inv.1)

pub returns : goal.returns
returns g c = all_done _ _ c.args.calls.now c.loop-call.call-index _ _ _ (omega arith) c.loop-call.invariant.1
