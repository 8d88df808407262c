use Rattle.std.proofs.Common.{◌≡◌, ℕ, ◌+◌, Option, List, leb, ltb, not, length, ap, ◌∙◌, sym, refl, rules, tests, arith}
use Rattle.std.specs.Option.{option_map}
use Rattle.std.proofs.lemmas.Iterator.{YieldsList-from_slice}
use Rattle.std.proofs.lemmas.Iterator.Search.{position_from_yields_List}
use Rattle.std.proofs.lemmas.Bool.Decides.{nat_tests}
use Rattle.sheet.specs.declared.tables.Record.{Record}
use Rattle.model.specs.declared.place.Place.{Place}
use Rattle.model.specs.Nesting.{place}
use Rattle.rules.specs.declared.faults.ShapeFault.TheVariants.{Depth}
use Rattle.checker.specs.Checks.{depth_refusal}
use Rattle.checker.specs.Walking.{nested}
use Rattle.checker.proofs.Places.{long_nested, place_in}
use Rattle.checker.proofs.Firsts.{Found, first_at, told}
use Rattle.checker.proofs.nested.Nested.check_depth.Goals as goal

turned : (n : ℕ) → not (leb n 16) ≡ ltb 16 n
turned n = grind (arith, nat_tests)

by_first : (rs : List Record) (o : Option ℕ) → Found (λ (q : Place). ltb 16 q.depth) (nested rs) o → option_map (λ j. Depth (j + 1)) o ≡ depth_refusal rs (length rs)
unfolding depth_refusal
by_first rs =
    let none : Place = record { enclosing = 0; depth = 0 } in
    first_at (λ (q : Place). ltb 16 q.depth) (λ j. leb (place rs (j + 1)).depth 16) (λ j. Depth (j + 1)) (nested rs) none
    (λ j h. turned (place rs (j + 1)).depth ∙ ap (λ (q : Place). ltb 16 q.depth) (sym (place_in rs (j + 1) j none (omega (arith, h, long_nested rs)) refl)))
    (length rs) (long_nested rs)

pub returns : goal.returns
returns c =
    let all = nested c.args.self.now.tables.now.records.items in
    told (λ j. Depth (j + 1)) _ _ _ _ c.map_or.ensures (λ j h. search (rules, tests))
    (by_first _ _ (position_from_yields_List {all = all} _ _ _ _ c.position.ensures.ran (YieldsList-from_slice all cc) (λ x b q k. search (rules, tests))))
