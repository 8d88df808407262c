use Rattle.std.proofs.Common.{[], ◌∷◌, ◌++◌, sym, ◌∙◌, arith}
use Rattle.std.proofs.lemmas.List.FromFn.{map-range_with_len_more}
use Rattle.checker.proofs.accepting.fill.Goals as goal

pub loop-k-preserved : goal.loop-k-preserved
loop-k-preserved g c = (
  omega (arith, c.push.ensures.len),
  λ f h.
      c.push.ensures.items
      ∙ (λ i. c.loop-k.invariant.1 f h i ++ (h c.loop-k.k c.entry.result c.entry.ensures i ∷ []))
      ∙ sym (map-range_with_len_more f 0 c.loop-k.k c.loop-k.k (omega arith)),
)
