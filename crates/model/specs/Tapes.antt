-- What is true of every tape that the runs of a session write. Assumes nothing.
use Rattle.std.specs.Prelude.{◌≡◌, ℕ, ◌<◌, ◌≤◌, ◌⊎◌, ◌↔◌, List, Some}
use Rattle.tape.specs.declared.entry.Entry.{Entry}
use Rattle.std.specs.List.{AllByRecursion}
use Rattle.tape.specs.declared.entry.Kind.TheVariants.{Fetch, Store}
use Rattle.tape.specs.Log.{kind_of}
use Rattle.tape.specs.Fields.{WellFormed}
use Rattle.labels.specs.Labels.{Labels}
use Rattle.model.specs.Program.{Program, length_of}
use Rattle.model.specs.Machine.{Config, ended, step, written}
use Rattle.model.specs.Log.{closed}
use Rattle.model.specs.Session.{Call, opened, after}
use Rattle.model.specs.Secrecy.{log}

-- over a bank that had any cells, after any list of calls: each entry is well-formed, so pick takes the tape
abbrev pub WellFormedTapes : Labels → Program → Type 0
WellFormedTapes L p = (cells : List ℕ) (cs : List Call) → AllByRecursion (WellFormed L) (after L p cs (opened p cells)).tape

-- an entry of a fetch or a store
abbrev pub HasIndex : Entry → Type 0
HasIndex e = (kind_of e.kind ≡ Some Fetch) ⊎ (kind_of e.kind ≡ Some Store)

-- What the mark of an entry tells: it is 0 or 1, and 1 just where the entry is of a fetch or a store and its index is not
-- below the length of its array. And a fetch that is marked found 0.
pub record MarkTells (p : Program) (e : Entry) : Type 0 where
  pub bit : e.mark ≤ 1
  pub outside : (e.mark ≡ 1) ↔ (HasIndex e × (length_of p.variables e.variable ≤ e.index))
  pub found : kind_of e.kind ≡ Some Fetch → e.mark ≡ 1 → e.value ≡ 0

-- a step that writes a marked store leaves the memory as it was
abbrev pub MarkedStoreIdle : Program → Config → Entry → Type 0
MarkedStoreIdle p c e = kind_of e.kind ≡ Some Store → e.mark ≡ 1 → (step p c).memory ≡ c.memory

-- Over a bank that had any cells, after any list of calls: of each entry of the tape, and of each entry of a party's log,
-- whose mark thus says nothing that its index does not. And of what any step writes.
pub record MarksTell (L : Labels) (p : Program) : Type 0 where
  pub on_tape : (cells : List ℕ) (cs : List Call) → AllByRecursion (MarkTells p) (after L p cs (opened p cells)).tape
  pub in_logs : (q : ℕ) (cells : List ℕ) (cs : List Call) → AllByRecursion (MarkTells p) (log L p q cs (opened p cells))
  pub in_steps : (c : Config) → AllByRecursion (MarkedStoreIdle p c) (written L p c)

-- a party's log is closed just when the program has ended
abbrev pub EndCloses : Labels → Program → Type 0
EndCloses L p =
    (q : ℕ) → q < L.parties → (cells : List ℕ) (cs : List Call) →
    closed (log L p q cs (opened p cells)) ≡ ended (after L p cs (opened p cells)).state.config
