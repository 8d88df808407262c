-- Runs as steps taken one after the other. Assumes nothing.
use Rattle.std.specs.Prelude.{◌≡◌, ℕ, zero, suc, ◌+◌, ◌<◌, ◌≤◌, true, false, ◌⊎◌, List, [], ◌++◌, length, Some, None}
use Rattle.tape.specs.declared.entry.Entry.{Entry}
use Rattle.labels.specs.Labels.{Labels}
use Rattle.model.specs.declared.stop.Stop.{Stop}
use Rattle.model.specs.declared.stop.Stop.TheVariants.{Ended, Spent, Full}
use Rattle.model.specs.Program.{Program}
use Rattle.model.specs.Machine.{Config, ended, step, written}
use Rattle.model.specs.Session.{State, Call, Ran, Done, opened, after, at_start}

-- where k steps lead
unfoldable pub advance : Program → ℕ → Config → Config
advance p zero c = c
advance p (suc k) c = advance p k (step p c)

-- what k steps write
unfoldable pub trail : Labels → Program → ℕ → Config → List Entry
trail L p zero c = []
trail L p (suc k) c = written L p c ++ trail L p k (step p c)

-- what each reason to stop says: the program has ended; all n steps are taken; there is no room for six more entries
abbrev pub StoppedFor : ℕ → ℕ → Ran → Stop → Type 0
StoppedFor n room r Ended = ended r.config ≡ true
StoppedFor n room r Spent = (ended r.config ≡ false) × (r.count ≡ n)
StoppedFor n room r Full = (ended r.config ≡ false) × (r.count < n) × (room < length r.tape + 6)

-- a run from c of at most n steps, with room for so many entries
pub record IsRun (L : Labels) (p : Program) (n room : ℕ) (c : Config) (r : Ran) : Type 0 where
  -- it stands where as many steps lead as it counts, and wrote what they write
  pub config : r.config ≡ advance p r.count c
  pub tape : r.tape ≡ trail L p r.count c
  pub within : r.count ≤ n
  -- it took each step from where the program had not ended, with room for six entries
  pub went_on : (k : ℕ) → k < r.count → (ended (advance p k c) ≡ false) × (length (trail L p k c) + 6 ≤ room)
  pub why : StoppedFor n room r r.stop

-- k steps from c, and no more, are what was done
pub record Stepped (L : Labels) (p : Program) (k : ℕ) (c : Config) (d : Done) : Type 0 where
  pub tape : d.tape ≡ trail L p k c
  pub config : d.state.config ≡ advance p k c

-- All runs of a session are one: before the accepted start nothing is written, and from there on each run goes on where
-- the one before it stopped.
abbrev pub RunsAreOne : Labels → Program → Type 0
RunsAreOne L p =
    (cells : List ℕ) (cs : List Call) →
    ((at_start L p cs (opened p cells) ≡ None) × ((after L p cs (opened p cells)).tape ≡ []))
    ⊎ ((from : State) × (at_start L p cs (opened p cells) ≡ Some from) × (k : ℕ) × Stepped L p k from.config (after L p cs (opened p cells)))
