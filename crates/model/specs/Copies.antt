-- What oram does to the memory. Assumes nothing.
use Rattle.std.specs.Prelude.{◌≡◌, ℕ, ◌<◌, ◌≤◌, true, ◌≢◌, length}
use Rattle.sheet.specs.declared.tables.Form.TheVariants.{Oram}
use Rattle.model.specs.Program.{Program, IsVariable, length_of, cells_needed}
use Rattle.model.specs.Rules.{IsArray}
use Rattle.model.specs.Machine.{Memory, inside, held, act}

-- each cell of array x becomes that of a, and every other place stays
pub record Copies (p : Program) (x a : ℕ) (before after : Memory) : Type 0 where
  pub copied : (i : ℕ) → i < length_of p.variables x → held p after x i ≡ held p before a i
  pub others : (v i : ℕ) → IsVariable p v → inside p v i ≡ true → v ≢ x → held p after v i ≡ held p before v i

-- in any memory with the numbers and cells that the program needs
abbrev pub OramCopies : Program → Type 0
OramCopies p =
    (x a : ℕ) (m : Memory) → IsVariable p x → IsArray p x → length m.numbers ≡ length p.variables → cells_needed p ≤ length m.cells →
    Copies p x a m (act p (Oram x a) m)
