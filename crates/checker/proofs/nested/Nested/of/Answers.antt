use Rattle.std.proofs.Common.{◌+◌, length, take, sym, ◌∙◌, arith}
use Rattle.std.proofs.lemmas.List.FromFn.{fill_by_all}
use Rattle.std.proofs.lemmas.List.{get_or-take, length-take-le}
use Rattle.std.proofs.lemmas.Option.{get_or_from_slice_get}
use Rattle.model.specs.declared.place.Place.{Place}
use Rattle.model.specs.Nesting.{place}
use Rattle.model.proofs.Places.{main_place}
use Rattle.checker.proofs.Reaches.{reached}
use Rattle.checker.proofs.nested.Nested.of.Goals as goal

pub walk-requires-clause-here : goal.walk-requires-clause-here
walk-requires-clause-here c _ = sym (main_place c.args.tables.now.records.items)

pub invariant_of-result : goal.invariant_of-result
invariant_of-result c =
    let rs = c.args.tables.now.records.items in
    let n = c.len.result in
    let out = c.walk.new.out in
    let none : Place = record { enclosing = 0; depth = 0 } in
    record {
      filled = fill_by_all (λ j. place rs (j + 1)) (take n out) (length rs) none (omega (arith, length-take-le n out (omega arith)))
          (λ j h. get_or-take n out j none (omega arith)
          ∙ get_or_from_slice_get _ j _ _ (c.walk.ensures.fills j (reached rs c.requires.linked (j + 1) (omega arith) (omega arith))));
    }
