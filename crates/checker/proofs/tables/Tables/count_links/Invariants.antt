use Rattle.std.proofs.Common.{◌≡◌, ℕ, ◌*◌, ◌<◌, ◌≤◌, length, get_or, take}
use Rattle.std.specs.List.{flat_map}
use Rattle.model.specs.Nesting.{count, links}
use Rattle.checker.proofs.tables.Tables.count_links.Given as goal

abbrev pub invariant-loop-entry : goal.invariant-loop-entry
invariant-loop-entry l =
    (length l.counts ≡ 513)
    × ((k : ℕ) → k < 513 → (get_or l.counts k 0 ≡ count k (flat_map links (take l.entry-index l.self.records.items))) × (get_or l.counts k 0 ≤ 3 * l.entry-index))
