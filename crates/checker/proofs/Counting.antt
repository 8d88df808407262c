-- The records by their index, and their links counted. Assumes nothing.
use Rattle.std.proofs.Common.{◌≡◌, ℕ, ◌+◌, ◌<◌, ◌≤◌, List, [], length, get_or, take, sym, ap, ◌∙◌, arith}
use Rattle.std.specs.List.{flat_map}
use Rattle.std.proofs.lemmas.Bool.Decides.{nat_tests}
use Rattle.std.proofs.lemmas.List.{take_more, flat_map_more}
use Rattle.sheet.specs.declared.tables.Record.{Record}
use Rattle.model.specs.Nesting.{count, links, skip, record_at}
use Rattle.model.proofs.Linkers.{at_index}
use Rattle.model.proofs.Counts.{count_append}

pub entry : (rs : List Record) (j : ℕ) → get_or rs j skip ≡ record_at rs (j + 1)
entry rs j = sym (at_index rs j)

pub times_more : (rs : List Record) (k j : ℕ) → j < length rs → count k (flat_map links (take (j + 1) rs)) ≡ count k (flat_map links (take j rs)) + count k (links (get_or rs j skip))
times_more rs k j h =
    ap (λ l. count k (flat_map links l)) (take_more rs j skip h)
    ∙ ap (count k) (sym (flat_map_more links [] (take j rs) (get_or rs j skip)))
    ∙ count_append k (flat_map links (take j rs)) (links (get_or rs j skip))

-- a record has three links
pub few_links : (k : ℕ) (r : Record) → count k (links r) ≤ 3
few_links k r = grind (arith, nat_tests)
