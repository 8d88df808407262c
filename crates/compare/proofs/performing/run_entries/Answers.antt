use Rattle.std.proofs.Common.{ℕ, ap, ◌∙◌}
use Rattle.model.specs.Session.{run}
use Rattle.session.specs.Memories.{tables_of, order_of}
use Rattle.session.specs.States.{state_of, done}
use Rattle.std.proofs.lemmas.List.{take_at}
use Rattle.compare.specs.Calls.{kept}
use Rattle.compare.proofs.Keeping.{run_kept}
use Rattle.compare.proofs.performing.run_entries.Goals as goal

pub returns : goal.returns
returns g c =
    let me = c.args.session.now in
    let long = c.deref_mut.ensures.len ∙ c.in_ok-resize.ensures.len in
    let whole = take_at c.run-answer.new.tape _ _ (c.run-answer.auto.tape ∙ c.deref_mut.ensures.len) in
    record {
      state = λ _. c.run-answer.ensures.state ∙ ap (λ (k : ℕ). (done g.O.LabelOrder.meaning g.B.Bank.cells (run c.args.steps k) me).state) long;
      entries = c.keep.ensures
          ∙ ap (kept c.run-answer.result) whole
          ∙ run_kept (g.O.LabelOrder.meaning (order_of me.memory)) (tables_of me.memory) c.args.steps _ (state_of g.B.Bank.cells me) c.run-answer.new.tape _ c.run-answer.result c.run-answer.ensures.answers c.run-answer.ensures.tape
          ∙ ap (λ (k : ℕ). (done g.O.LabelOrder.meaning g.B.Bank.cells (run c.args.steps k) me).tape) long;
      program = c.run-answer.ensures.program;
    }
