use Rattle.std.proofs.Common.{◌≡◌, ℕ, ◌*◌, ◌<◌, ◌≤◌, length, get_or}
use Rattle.checker.specs.Contents.{contents}
use Rattle.model.specs.Program.{base}
use Rattle.session.proofs.memory.making.first_cells.Given as goal

abbrev pub invariant-loop-v : goal.invariant-loop-v
invariant-loop-v g l =
    (l.start ≡ base (contents l.program).tables l.v) × (l.start ≤ 65536 * l.v) × (length l.first-items ≡ 65)
    × ((k : ℕ) → k < l.v → get_or l.first-items k 0 ≡ base (contents l.program).tables k)
