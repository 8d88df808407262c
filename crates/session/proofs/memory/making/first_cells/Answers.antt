use Rattle.std.proofs.Common.{ℕ, get_or, set, sym, refl, ap, ◌∙◌, arith, length-set}
use Rattle.std.proofs.lemmas.List.Edits.{fill_by_more}
use Rattle.std.proofs.lemmas.List.FromFn.{fill_by_all}
use Rattle.sheet.specs.declared.tables.Variable.{Variable}
use Rattle.sheet.specs.Tables.{cells}
use Rattle.model.specs.Program.{base}
use Rattle.checker.specs.Contents.{contents}
use Rattle.session.specs.Starts.{first_cells}
use Rattle.session.proofs.Laying.{base_more, base_none}
use Rattle.session.proofs.memory.making.first_cells.Goals as goal

pub loop-v-init : goal.loop-v-init
loop-v-init g c =
    let p = (contents c.args.program.now).tables in
    (sym (base_none p), omega arith, refl, λ k h. absurd (omega arith))

pub loop-v-preserved : goal.loop-v-preserved
loop-v-preserved g c =
    let p = (contents c.args.program.now).tables in
    let inv = c.loop-v.invariant in
    let v = c.loop-v.v in
    let more = base_more p v in
    let size = c.cells.ensures ∙ ap (λ (x : Variable). cells x.kind) c.variable.ensures in
    let same = inv.0 in (
      omega (arith, inv.0, more, size),
      omega (arith, inv.1),
      length-set c.loop-v.first-items v c.loop-v.start ∙ inv.2,
      λ k h. ap (λ (x : ℕ). get_or (set c.loop-v.first-items v x) k 0) same ∙ fill_by_more (base p) c.loop-v.first-items v 0 (omega (arith, inv.2)) inv.3 k h,
    )

pub returns : goal.returns
unfolding first_cells
returns g c =
    let p = (contents c.args.program.now).tables in
    let inv = c.loop-v.invariant in
    fill_by_all (base p) c.loop-v.first-items 65 0 inv.2 (λ k h. inv.3 k (omega arith))
