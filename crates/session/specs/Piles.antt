-- The stack of a session, and how a step moves it. Assumes nothing.
use Rattle.std.specs.Prelude.{ℕ, Bool, true, cond, ◌&&◌, List, [], ◌∷◌, length}
use Rattle.sheet.specs.declared.tables.Form.{Form}
use Rattle.sheet.specs.declared.tables.Form.TheVariants.{If, While}
use Rattle.model.specs.Program.{Program}
use Rattle.model.specs.Machine.{Memory, held, holds}
use Rattle.rules.specs.Shape.{link_fits}

-- every entry but 0 is above its height and within the count
abbrev pub piled : ℕ → List ℕ → Bool
piled count [] = true
piled count (e ∷ s) = link_fits count (length s) e && piled count s

-- what takes the place of record r on the stack, and what is put above that, 0 for nothing
abbrev pub moved : Program → ℕ → ℕ → Form → Memory → ℕ × ℕ
moved p r next (If a first second) m = (next, cond (holds (held p m a 0)) first second)
moved p r next (While a body) m = cond (holds (held p m a 0)) (r, body) (next, 0)
moved p r next f m = (next, 0)
