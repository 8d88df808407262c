-- A run in two pieces is the run in one. Assumes nothing.
use Rattle.std.specs.Prelude.{◌≡◌, ℕ, ◌+◌, ◌≢◌, ◌++◌}
use Rattle.labels.specs.Labels.{Labels}
use Rattle.model.specs.declared.stop.Stop.TheVariants.{Full}
use Rattle.model.specs.Program.{Program}
use Rattle.model.specs.Machine.{Config}
use Rattle.model.specs.Session.{Ran, steps}

-- two runs, one after the other: their entries joined and their steps added, with the end of the second
abbrev pub one_then : Ran → Ran → Ran
one_then a b = record { config = b.config; tape = a.tape ++ b.tape; count = a.count + b.count; stop = b.stop }

-- however the steps are split and whatever room each tape has, as long as no tape gets full: a run of n steps and then one
-- of the m others end where the whole run ends, and write what it writes
abbrev pub InPieces : Labels → Program → Config → ℕ → ℕ → Type 0
InPieces L p c all room =
    (n m first second : ℕ) → n + m ≡ all →
    (steps L p n first c).stop ≢ Full → (steps L p m second (steps L p n first c).config).stop ≢ Full → (steps L p all room c).stop ≢ Full →
    one_then (steps L p n first c) (steps L p m second (steps L p n first c).config) ≡ steps L p all room c
