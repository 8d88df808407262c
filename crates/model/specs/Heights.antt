-- How high the stack of a session grows. Assumes nothing.
use Rattle.std.specs.Prelude.{ℕ, ◌≤◌, List, length}
use Rattle.labels.specs.Labels.{Labels}
use Rattle.model.specs.Program.{Program}
use Rattle.model.specs.Session.{Call, opened, after}

-- over a bank that had any cells, after any list of calls
abbrev pub LowStack : Labels → Program → Type 0
LowStack L p = (cells : List ℕ) (cs : List Call) → length (after L p cs (opened p cells)).state.config.stack ≤ 16
