-- What the act of a record leaves in memory and on the tape. Assumes nothing.
use Rattle.std.specs.Prelude.{◌≡◌, ℕ, ◌+◌, ◌≤◌, List, [], ◌∷◌, length, slice_set}
use Rattle.sheet.specs.declared.tables.Form.{Form}
use Rattle.tape.specs.declared.entry.Entry.{Entry}
use Rattle.labels.specs.Labels.{Labels}
use Rattle.labels.specs.declared.order.LabelOrder as LabelOrder
use Rattle.model.specs.Program.{Program}
use Rattle.model.specs.Rules.{Present, RightKinds, SameLength}
use Rattle.model.specs.Machine.{Memory, act, entries}
use Rattle.session.specs.Memories.{tables_of, order_of, memory_of}
use Rattle.session.specs.declared.turn.Turn.{Turn}

-- entries written over a tape, from a place on
abbrev pub write_at : List Entry → ℕ → List Entry → List Entry
write_at tape at [] = tape
write_at tape at (e ∷ es) = write_at (slice_set tape at e) (at + 1) es

-- so many entries more have room on a turn's tape
abbrev pub HasRoom : {O B : Type 0} {o : LabelOrder.Ghosts O} → ℕ → Turn O B o → Type 0
HasRoom n t = t.at + n ≤ length t.tape.now

-- A turn has written these entries, and its memory holds this now. The rest stays: the record, the program, and whose
-- memory and tape they are.
pub record Leaves {O B : Type 0} {o : LabelOrder.Ghosts O} (row : B → List ℕ) (es : List Entry) (m : Memory) (old new : Turn O B o) : Type 0 where
  pub memory : memory_of row new.memory.now ≡ m
  pub tape : new.tape.now ≡ write_at old.tape.now old.at es
  pub at : new.at ≡ old.at + length es
  pub number : new.number ≡ old.number
  pub label : new.label ≡ old.label
  pub program : new.memory.now.program ≡ old.memory.now.program
  pub lent : (new.memory.ghost_name ≡ old.memory.ghost_name) × (new.tape.ghost_name ≡ old.tape.ghost_name)

-- a record of this form has acted: its entries and the memory are as the machine says
abbrev pub Acts : {O B : Type 0} {o : LabelOrder.Ghosts O} → (O → Labels) → (B → List ℕ) → Form → Turn O B o → Turn O B o → Type 0
Acts meaning row f old new =
    let p = tables_of old.memory.now in
    let m = memory_of row old.memory.now in
    Leaves row (entries (meaning (order_of old.memory.now)) p old.number old.label f m) (act p f m) old new

-- the variables of a form are there, of the right kinds, and an oram's arrays of one length
pub record Runs (p : Program) (f : Form) : Type 0 where
  pub present : Present p f
  pub kinds : RightKinds p f
  pub lengths : SameLength p f

-- a record of this form may act: it runs, and there is room for six entries
pub record MayAct {O B : Type 0} {o : LabelOrder.Ghosts O} (f : Form) (t : Turn O B o) : Type 0 where
  pub room : HasRoom 6 t
  pub runs : Runs (tables_of t.memory.now) f
