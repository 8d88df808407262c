-- The stack as a list, its top first. Assumes nothing.
use mathlib.Core.List.{reverse}
use Rattle.std.specs.Prelude.{ℕ, List, [], ◌∷◌}
use Rattle.session.specs.declared.stack.Stack.{Stack}

abbrev pub pile : Stack → List ℕ
pile s = reverse s.entries.items

abbrev pub below_top : List ℕ → List ℕ
below_top [] = []
below_top (top ∷ s) = s
