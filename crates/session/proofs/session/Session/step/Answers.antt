use Rattle.std.proofs.Common.{List, ◌++◌, length, length-append, sym, refl, ap, ◌∙◌, arith}
use Rattle.tape.specs.declared.entry.Entry.{Entry}
use Rattle.model.specs.Machine.{entries, end_if}
use Rattle.checker.specs.Contents.{contents}
use Rattle.session.specs.Acting.{write_at}
use Rattle.session.specs.Memories.{tables_of, order_of, memory_of, records_in}
use Rattle.session.specs.Stacks.{pile}
use Rattle.session.specs.Piles.{piled}
use Rattle.session.proofs.Moving.{room, still_climbs, still_clean}
use Rattle.session.proofs.Stepping.{step_after, written_is, write_at_append}
use Rattle.session.proofs.session.Session.step.Goals as goal

pub advance-requires : goal.advance-requires
advance-requires g c =
    let me = c.args.self.now in
    let top = c.top-n.ensures in
    (c.requires.0, room me.memory.program (pile me.stack) _ _ _ top.on top.is me.climbs me.clean (memory_of g.B.Bank.cells me.memory) _ _ c.moved-place.ensures)

pub invariant_of-self : goal.invariant_of-self
invariant_of-self g c =
    let me = c.args.self.now in
    let top = c.top-n.ensures in
    record {
      climbs = ap (λ q. piled (records_in q) (pile c.advance.new.self)) (c.finish.ensures.program ∙ c.act.ensures.program)
          ∙ ap (piled (records_in me.memory.program)) c.advance.ensures
          ∙ still_climbs me.memory.program (pile me.stack) _ _ _ top.on top.is me.climbs me.clean (memory_of g.B.Bank.cells me.memory) _ _ c.moved-place.ensures;
      clean = still_clean (pile c.advance.new.self) _ c.advance.ensures;
    }

pub returns : goal.returns
returns g c =
    let me = c.args.self.now in
    let L = g.O.LabelOrder.meaning (order_of me.memory) in
    let p = tables_of me.memory in
    let m = memory_of g.B.Bank.cells me.memory in
    let top = c.top-n.ensures in
    let r = c.top-n.result.1 in
    let wrote = ap (λ b. entries L p c.top-n.result.0 r.label r.form m ++ end_if L b) c.is_empty.ensures
    ∙ sym (written_is L p m (pile me.stack) _ _ r top.on top.is _ _ c.moved-place.ensures (pile c.advance.new.self) c.advance.ensures) in
    let es : List Entry = entries L p c.top-n.result.0 r.label r.form m in
    let last : List Entry = end_if L c.is_empty.result in
    let order = ap (λ q. end_if (g.O.LabelOrder.meaning (contents q).order) c.is_empty.result) c.act.ensures.program in
    record {
      config = step_after L p m (pile me.stack) _ _ r top.on top.is _ _ c.moved-place.ensures (pile c.advance.new.self) c.advance.ensures _ (c.finish.ensures.memory ∙ c.act.ensures.memory);
      tape =
          let t = c.finish.ensures.tape ∙ ap (write_at c.act.new.self.tape.now c.act.new.self.at) order
          ∙ (λ i. write_at (c.act.ensures.tape i) (c.act.ensures.at i) last) ∙ write_at_append c.args.tape.now c.args.at es last ∙ ap (write_at c.args.tape.now c.args.at) wrote in
          let same = sym (c.finish.ensures.lent.1 ∙ c.act.ensures.lent.1) in
          grind arith;
      at = omega (arith, c.finish.ensures.at, c.act.ensures.at, ap length order, ap length wrote, length-append es last);
      started = refl;
      program = c.finish.ensures.program ∙ c.act.ensures.program;
    }
