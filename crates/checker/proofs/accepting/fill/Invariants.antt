use Rattle.std.proofs.Common.{◌≡◌, ℕ, map}
use Rattle.std.specs.List.{range_with_len}
use Rattle.arrayvec.specs.ArrayVec.{array_vec_len}
use Rattle.checker.proofs.accepting.fill.Given as goal

abbrev pub invariant-loop-k : goal.invariant-loop-k
invariant-loop-k g l =
    (array_vec_len l.table ≡ l.k)
    × ((f : ℕ → _) → ((k : ℕ) (x : _) → goal.F-post g l.entry k x → x ≡ f k) → l.table.items ≡ map f (range_with_len 0 l.k))
