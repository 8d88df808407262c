-- What a memory holds. Assumes nothing.
use Rattle.std.specs.Prelude.{◌≡◌, ℕ, List, length, take}
use Rattle.labels.specs.declared.order.LabelOrder as LabelOrder
use Rattle.model.specs.Program as model
use Rattle.model.specs.Program.{IsVariable}
use Rattle.model.specs.Rules.{IsNumber, IsArray}
use Rattle.model.specs.Machine as machine
use Rattle.checker.specs.declared.program.Program as checked
use Rattle.checker.specs.Contents.{contents}
use Rattle.session.specs.declared.memory.Memory.{Memory}

-- its program's tables
abbrev pub tables_of : {O B : Type 0} {o : LabelOrder.Ghosts O} → Memory O B o → model.Program
tables_of m = (contents m.program).tables

-- how many records a program has
abbrev pub records_in : {A : Type 0} {g : LabelOrder.Ghosts A} → checked.Program A g → ℕ
records_in q = length (contents q).tables.records

-- its program's order
abbrev pub order_of : {O B : Type 0} {o : LabelOrder.Ghosts O} → Memory O B o → O
order_of m = (contents m.program).order

-- the numbers of the variables and the row of the bank
abbrev pub memory_of : {O B : Type 0} {o : LabelOrder.Ghosts O} → (B → List ℕ) → Memory O B o → machine.Memory
memory_of row m = record { numbers = take (length (tables_of m).variables) m.numbers; cells = row m.bank }

-- the memory holds this now, and the program stays
pub record Becomes {O B : Type 0} {o : LabelOrder.Ghosts O} (row : B → List ℕ) (m : machine.Memory) (old new : Memory O B o) : Type 0 where
  pub memory : memory_of row new ≡ m
  pub program : new.program ≡ old.program

-- variable v is there, and is a number
abbrev pub HasNumber : model.Program → ℕ → Type 0
HasNumber p v = IsVariable p v × IsNumber p v

-- variable v is there, and is an array
abbrev pub HasArray : model.Program → ℕ → Type 0
HasArray p v = IsVariable p v × IsArray p v
