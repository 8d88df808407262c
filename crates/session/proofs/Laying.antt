-- Where the variables begin. Assumes nothing.
use Rattle.std.proofs.Common.{◌≡◌, ℕ, zero, suc, ◌+◌, ◌<◌, ◌≤◌, List, [], ◌∷◌, length, get_or, take, refl, ap, ◌∙◌, add-one, arith}
use Rattle.std.proofs.lemmas.List.FromFn.{get_or-map-range_with_len}
use Rattle.std.proofs.lemmas.List.{take_all}
use Rattle.sheet.specs.declared.tables.Variable.{Variable}
use Rattle.sheet.specs.Tables.{cells}
use Rattle.model.specs.Program.{Program, no_variable, variable_at, length_of, extent, base, cells_needed}
use Rattle.session.specs.Starts.{first_cells}

extent_more : (vs : List Variable) (v : ℕ) → extent (take (suc v) vs) ≡ extent (take v vs) + cells (get_or vs v no_variable).kind
extent_more [] zero = refl
extent_more [] (suc v) = refl
extent_more (x ∷ vs) zero = omega arith
extent_more (x ∷ vs) (suc v) = let e = extent_more vs v in omega arith

pub base_more : (p : Program) (v : ℕ) → base p (v + 1) ≡ base p v + length_of p.variables v
unfolding base variable_at
base_more p v = rw (add-one v) (extent_more p.variables v)

pub base_none : (p : Program) → base p 0 ≡ 0
unfolding base
base_none p = refl

module _ (p : Program) (starts : List ℕ) (laid : starts ≡ first_cells p) where
  pub start_at : (v : ℕ) → v < 65 → get_or starts v 0 ≡ base p v
  unfolding first_cells
  start_at v h = ap (λ (l : List ℕ). get_or l v 0) laid ∙ get_or-map-range_with_len (base p) 0 65 v v 0 h (omega arith)

  -- after the last variable stands the number of all cells
  pub start_last : (n : ℕ) → n ≡ length p.variables → n ≤ 64 → get_or starts n 0 ≡ cells_needed p
  unfolding base cells_needed
  start_last n e h = start_at n (omega arith) ∙ ap (λ (k : ℕ). extent (take k p.variables)) e ∙ ap extent (take_all (length p.variables) p.variables (omega arith))
