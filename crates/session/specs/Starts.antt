-- Where the variables begin in the bank, and copies of its cells. Assumes nothing.
use Rattle.std.specs.Prelude.{ℕ, zero, suc, ◌+◌, List, map, slice_index, slice_set}
use Rattle.std.specs.List.{range_with_len}
use Rattle.model.specs.Program.{Program, base}

-- the first cell of each variable; from the place after the last one on, the number of all cells
unfoldable pub first_cells : Program → List ℕ
first_cells p = map (base p) (range_with_len 0 65)

-- n cells from the source on, as they were, at the target
abbrev pub copied_cells : ℕ → ℕ → ℕ → List ℕ → List ℕ
copied_cells source target zero cells = cells
copied_cells source target (suc n) cells = slice_set (copied_cells source target n cells) (target + n) (slice_index cells (source + n))
