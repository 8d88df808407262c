use Rattle.std.proofs.Common.{get_or, ap, ◌∙◌, subst, arith}
use Rattle.checker.specs.Contents.{contents}
use Rattle.labels.specs.Orders.{two_party}
use Rattle.session.specs.States.{state_of}
use Rattle.engine.specs.declared.rows.CallRow.{CallRow}
use Rattle.engine.specs.Playing.{Played}
use Rattle.engine.proofs.Plays.{Plays, played_more, played_all}
use Rattle.engine.proofs.playing.perform_all.Goals as goal

abbrev none : CallRow
none = record { call = 0; party = 0; variable = 0; index = 0; value = 0; steps = 0 }

pub loop-k-preserved : goal.loop-k-preserved
loop-k-preserved g c =
    let inv = c.loop-k.invariant in
    let before = state_of g.B.Bank.cells c.loop-k.session in
    let after = state_of g.B.Bank.cells c.perform.new.session in
    let call = get_or c.args.calls.now c.loop-k.k none in
    let now = subst (λ q. Plays two_party (contents q).tables call before after c.loop-k.tape c.perform.new.tape c.row.result) inv.0
    (record { answer = c.row.ensures ∙ c.perform.ensures.answer; state = c.perform.ensures.state; tape = c.perform.ensures.tape }) in
    (c.perform.ensures.program ∙ inv.0, played_more _ _ c.args.calls.now c.loop-k.k _ _ _ _ none _ _ _ (omega arith) now inv.1)

pub returns : goal.returns
returns g c =
    let e = played_all _ _ c.args.calls.now c.loop-k.k _ _ _ _ (omega arith) c.loop-k.invariant.1 in
    record { tape = ap (λ (q : Played). q.tape) e; answers = ap (λ (q : Played). q.answers) e }
