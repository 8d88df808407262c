use Rattle.std.proofs.Common.{◌≡◌, ◌+◌, ◌++◌, length, take, drop, get_or, ap, sym, ◌∙◌, arith}
use Rattle.std.specs.List.{flat_map}
use Rattle.std.proofs.lemmas.List.{take_all, take-append-drop, length-append}
use Rattle.sheet.specs.Layout.{over_at}
use Rattle.sheet.proofs.Rows.{joined, more, room}
use Rattle.sheet.proofs.writing.put_rows.Goals as goal

pub loop-entry-init : goal.loop-entry-init
loop-entry-init g c =
    let e : c.args.at ≡ c.args.at + 0 = omega arith in
    (e, sym (take-append-drop c.args.at c.args.out.now) ∙ ap (λ n. take c.args.at c.args.out.now ++ drop n c.args.out.now) e)

pub put-end-requires : goal.put-end-requires
put-end-requires g c =
    let f = g.T.Row.row_bytes in
    let is = ap length (c.bytes.ensures ∙ ap f c.entry-item.is) in
    omega (arith, is, room f c.args.table.now c.loop-entry.entry-index c.entry-item.result (omega arith))

pub loop-entry-preserved : goal.loop-entry-preserved
loop-entry-preserved g c =
    let f = g.T.Row.row_bytes in
    let done = flat_map f (take c.loop-entry.entry-index c.args.table.now) in
    let row = f (get_or c.args.table.now c.loop-entry.entry-index c.entry-item.result) in
    let is = c.bytes.ensures ∙ ap f c.entry-item.is in
    let next = more f c.args.table.now c.loop-entry.entry-index c.entry-item.result (omega arith) in
    let fits = room f c.args.table.now c.loop-entry.entry-index c.entry-item.result (omega arith) in (
      omega (arith, ap length is, ap length next, length-append done row),
      c.put-end.ensures.after
          ∙ (λ i. over_at (c.loop-entry.invariant.0 i) (is i) (c.loop-entry.invariant.1 i))
          ∙ joined c.args.at done row c.args.out.now (omega arith)
          ∙ ap (λ l. over_at c.args.at l c.args.out.now) next,
    )

pub returns : goal.returns
returns g c =
    let all = ap (flat_map g.T.Row.row_bytes) (take_all c.loop-entry.entry-index c.args.table.now (omega arith)) in
    record {
      after = c.loop-entry.invariant.1 ∙ ap (λ l. over_at c.args.at l c.args.out.now) all;
      end = c.loop-entry.invariant.0 ∙ ap (λ l. c.args.at + length l) all;
    }
