use Rattle.std.proofs.Common.{◌≡◌, ℕ, ◌+◌, ◌-◌, ◌<◌, ◌≤◌, Option, List, eqb, not, length, get_or, ap, ◌∙◌, sym, rules, tests, arith}
use Rattle.std.specs.List.{slice_range}
use Rattle.std.specs.Option.{option_map}
use Rattle.std.proofs.lemmas.Iterator.{YieldsList-from_slice}
use Rattle.std.proofs.lemmas.Iterator.Search.{position_from_yields_List}
use Rattle.std.proofs.lemmas.Grind.{common_steps}
use Rattle.sheet.specs.declared.tables.Record.{Record}
use Rattle.model.specs.Nesting.{times_linked}
use Rattle.rules.specs.declared.faults.ShapeFault.TheVariants.{LinkedOnce}
use Rattle.checker.specs.Checks.{once_refusal}
use Rattle.checker.proofs.Firsts.{Found, first_at, told}
use Rattle.checker.proofs.tables.Tables.check_linked_once.Goals as goal

from_two : (xs : List ℕ) (n j : ℕ) → n < length xs → 1 ≤ n → j + 1 < n → get_or (slice_range xs 2 (n + 1)) j 0 ≡ get_or xs (j + 2) 0
from_two xs n j h k l = grind (arith, common_steps)

long_from_two : (xs : List ℕ) (n : ℕ) → n < length xs → 1 ≤ n → length (slice_range xs 2 (n + 1)) ≡ n - 1
long_from_two xs n h k = grind (arith, common_steps)

by_first : (rs : List Record) (times : List ℕ) → 1 ≤ length rs → length rs < length times → ((k : ℕ) → k < length times → get_or times k 0 ≡ times_linked rs k) → (o : Option ℕ) →
    Found (λ n. not (eqb n 1)) (slice_range times 2 (length rs + 1)) o → option_map (λ j. LinkedOnce (j + 2)) o ≡ once_refusal rs (length rs - 1)
unfolding once_refusal
by_first rs times some long is =
    first_at (λ n. not (eqb n 1)) (λ j. eqb (times_linked rs (j + 2)) 1) (λ j. LinkedOnce (j + 2)) (slice_range times 2 (length rs + 1)) 0
    (λ j h. let low : j + 1 < length rs = omega (arith, h, long_from_two times (length rs) long some) in
    ap (λ n. not (eqb n 1)) (sym (from_two times (length rs) j long some (omega arith) ∙ is (j + 2) (omega arith))))
    (length rs - 1) (long_from_two times (length rs) long some)

pub returns : goal.returns
returns c =
    let rs = c.args.self.now.records.items in
    let times = c.count_links-counts.result in
    let rest = slice_range times 2 (length rs + 1) in
    told (λ j. LinkedOnce (j + 2)) _ _ _ _ c.map_or.ensures (λ j h. search (rules, tests))
    (by_first rs times (omega arith) (omega arith) c.count_links-counts.ensures _
    (position_from_yields_List {all = rest} _ _ _ _ c.position.ensures.ran (YieldsList-from_slice rest (c.iter.ensures.rest ∙ ap (λ n. slice_range times 2 (n + 1)) c.len.ensures.value)) (λ x b q k. search (rules, tests))))
