use Rattle.std.proofs.Common.{◌+◌, ◌<◌, [], ◌∷◌, ◌++◌, length, take, drop, Some, None, sym, ap, ap₂, ◌∙◌, append-nil, arith, length-append}
use Rattle.std.specs.List.{filter_map}
use Rattle.tape.specs.Log.{picked}
use Rattle.tape.proofs.Logs.{kept_more, kept_part, over_more}
use Rattle.tape.proofs.View.write_log.Goals as goal
use Rattle.tape.proofs.View.write_log.Goals.{in-Some, in_default}

-- what is kept fits the buffer
pub bounds-out-at : goal.bounds-out-at
bounds-out-at g c =
    let h = picked (g.O.LabelOrder.meaning c.args.self.now.order.now) c.args.self.now.party in
    let i = c.loop-entry.entry-index in
    let more = kept_more h c.args.tape.now i (Some c.in-Some.kept) _ c.loop-entry-test.true c.in-Some.ensures in
    omega (arith, ap length more, length-append (filter_map h (take i c.args.tape.now)) (c.in-Some.kept ∷ []), kept_part h c.args.tape.now (i + 1))

pub loop-entry-preserved : goal.loop-entry-preserved
loop-entry-preserved g c =
    let h = picked (g.O.LabelOrder.meaning c.args.self.now.order.now) c.args.self.now.party in
    let tape = c.args.tape.now in
    let i = c.loop-entry.entry-index in
    let done = filter_map h (take i tape) in
    let before = c.loop-entry.invariant in
    elim c.match-kept.branch [
      | in-Some w ↦
          let e = w.in-Some.kept in
          let more = kept_more h tape i (Some e) _ c.loop-entry-test.true w.in-Some.ensures in
          let room : c.loop-entry.at < length c.args.out.now = omega (arith, ap length more, length-append done (e ∷ []), kept_part h tape (i + 1)) in
          record {
            behind = omega (arith, w.at-is, ap length more, length-append done (e ∷ []));
            written = w.out-is ∙ over_more done c.args.out.now c.loop-entry.out c.loop-entry.at e room before.behind before.written ∙ ap₂ (λ l k. l ++ drop k c.args.out.now) (sym more) (sym w.at-is);
          }
      | in_default w ↦
          let more = kept_more h tape i None _ c.loop-entry-test.true w.in_default.ensures ∙ append-nil done in
          record {
            behind = w.at-is ∙ before.behind ∙ ap length (sym more);
            written = w.out-is ∙ before.written ∙ ap₂ (λ l k. l ++ drop k c.args.out.now) (sym more) (sym w.at-is);
          }
    ]
