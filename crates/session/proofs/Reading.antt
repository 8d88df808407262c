-- How the places of variables are read and set. Assumes nothing.
use Rattle.std.proofs.Common.{◌≡◌, ℕ, ◌≤◌, List, length, get_or, take, set, sym, ap, get_or-take}
use Rattle.labels.specs.declared.order.LabelOrder as LabelOrder
use lib.Seq.{take-set-lt}
use Rattle.model.specs.Program.{Program, IsVariable}
use Rattle.model.specs.Rules.{IsNumber}
use Rattle.model.specs.Machine.{Memory, held, put}
use Rattle.checker.specs.declared.program.Program as checked
use Rattle.checker.specs.Contents.{contents}

-- a program has at most 64 variables
pub few_variables : {A : Type 0} {g : LabelOrder.Ghosts A} (q : checked.Program A g) → length (contents q).tables.variables ≤ 64
few_variables q = q.tables.fits.0

module _ (p : Program) (numbers cells : List ℕ) (v : ℕ) (there : IsVariable p v) (number : IsNumber p v) where
  abbrev here : Memory
  here = record { numbers = take (length p.variables) numbers; cells = cells }

  pub held_number : get_or numbers v 0 ≡ held p here v 0
  unfolding held
  held_number = rw number (sym (get_or-take (length p.variables) numbers v 0 there))

  pub put_number : (k : ℕ) → ◌≡◌ {A = Memory} (record { numbers = take (length p.variables) (set numbers v k); cells = cells }) (put p here v 0 k)
  unfolding put
  put_number k = rw number (ap (λ (ns : List ℕ). record { numbers = ns; cells = cells }) (take-set-lt (length p.variables) numbers v k there))
