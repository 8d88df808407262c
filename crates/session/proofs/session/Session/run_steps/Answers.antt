use Rattle.std.proofs.Common.{◌≡◌, ◌+◌, ◌-◌, length, ap, ◌∙◌, subst, arith}
use Rattle.model.specs.Machine.{step, written}
use Rattle.model.specs.Session.{steps, stopped}
use Rattle.checker.specs.Contents.{contents}
use Rattle.session.specs.Acting.{write_at}
use Rattle.session.specs.Memories.{tables_of, order_of}
use Rattle.session.specs.States.{config_of}
use Rattle.session.proofs.Running.{not_ended, run_more, run_report, run_config, run_tape}
use Rattle.session.proofs.session.Session.run_steps.Goals as goal

pub step-at-requires : goal.step-at-requires
step-at-requires g c = (not_ended (config_of g.B.Bank.cells c.loop-stop.self) c.in_default.ensures.goes.0, omega (arith, c.in_default.ensures.goes))

pub loop-stop-preserved : goal.loop-stop-preserved
loop-stop-preserved g c =
    let inv = c.loop-stop.invariant in
    let goes = c.in_default.ensures.goes in
    let now = config_of g.B.Bank.cells c.loop-stop.self in
    let wrote = c.step-at.ensures.tape ∙ ap (λ q. write_at c.loop-stop.tape c.loop-stop.at (written (g.O.LabelOrder.meaning (contents q).order) (contents q).tables now)) inv.0 in
    let next = c.step-at.ensures.at ∙ ap (λ q. c.loop-stop.at + length (written (g.O.LabelOrder.meaning (contents q).order) (contents q).tables now)) inv.0 in
    let after = c.step-at.ensures.config ∙ ap (λ q. step (contents q).tables now) inv.0 in
    let more = run_more (g.O.LabelOrder.meaning (order_of c.args.self.now.memory)) (tables_of c.args.self.now.memory) c.args.limit c.loop-stop.taken
    c.loop-stop.at c.step-at.result c.loop-stop.tape c.args.tape.now c.step-at.new.tape
    now (config_of g.B.Bank.cells c.step-at.new.self) _
    (omega (arith, goes)) goes.2 goes.0
    wrote next after c.step-at.auto.tape inv.4 inv.5 in
    (c.step-at.ensures.program ∙ inv.0, c.step-at.ensures.started ∙ inv.1, omega (arith, goes), more.0, more.1, more.2)

pub returns-in-Some : goal.returns-in-Some
returns-in-Some g c =
    let inv = c.loop-stop.invariant in
    let now = config_of g.B.Bank.cells c.loop-stop.self in
    let t = c.loop-stop.tape in
    let done = subst (λ q. steps (g.O.LabelOrder.meaning (contents q).order) (contents q).tables (c.args.limit - c.loop-stop.taken) (length t - c.loop-stop.at) now ≡ stopped c.in-Some.stop now)
    inv.0 c.in-Some.ensures.stopped in
    record {
      report = run_report t c.args.tape.now c.loop-stop.taken c.loop-stop.at c.in-Some.stop now _ _ inv.3 inv.4 inv.5 done;
      config = run_config t c.args.tape.now c.loop-stop.taken c.loop-stop.at c.in-Some.stop now _ _ inv.3 inv.4 inv.5 done;
      tape = run_tape t c.args.tape.now c.loop-stop.taken c.loop-stop.at c.in-Some.stop now _ _ inv.3 inv.4 inv.5 done;
      started = inv.1;
      program = inv.0;
    }
