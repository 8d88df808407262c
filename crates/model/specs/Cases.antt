-- Worked cases, as one statement. Variables 0 to 3 are numbers labelled A, B, O, P; 4 is an array of four cells labelled A.
-- Assumes nothing.
use Rattle.std.specs.Prelude.{◌≡◌, ℕ, List, [], ◌∷◌, slice_index}
use Rattle.sheet.specs.declared.tables.Kind.TheVariants.{Number, Array}
use Rattle.sheet.specs.declared.tables.Op.TheVariants.{Sum}
use Rattle.sheet.specs.declared.tables.Variable.{Variable}
use Rattle.sheet.specs.declared.tables.Form.{Form}
use Rattle.sheet.specs.declared.tables.Form.TheVariants.{Copy, Binary, Fetch, If, While}
use Rattle.sheet.specs.declared.tables.Record.{Record}
use Rattle.labels.specs.Labels.{Lawful}
use Rattle.labels.specs.Orders.{two_party}
use Rattle.labels.specs.Cases.{ThreeParties}
use Rattle.model.specs.declared.rule.Rule.{Rule}
use Rattle.model.specs.declared.rule.Rule.TheVariants as rule
use Rattle.model.specs.Program.{Program}
use Rattle.model.specs.Rules.{Accepted, Keeps}
use Rattle.model.specs.Machine.{mux, apply, held, fetched, onward, Memory, instruction, read, write, name, end}
use Rattle.model.specs.Session.{Call, enter, start, run, opened, after}
use Rattle.model.specs.Secrecy.{log, Secrecy}

abbrev number : ℕ → Variable
number l = record { label = l; kind = Number }

abbrev pub variables : List Variable
variables = number 1 ∷ (number 2 ∷ (number 3 ∷ (number 0 ∷ (record { label = 1; kind = Array 4 } ∷ []))))

abbrev program : List Record → Program
program rs = record { variables = variables; records = rs }

-- a record that ends its chain
abbrev last : ℕ → Form → Record
last l f = record { label = l; next = 0; form = f }

-- 2 := 0 + 1, labelled O
abbrev pub addition : Program
addition = program (last 3 (Binary 2 0 1 Sum) ∷ [])

-- Alice enters 5, Bob 7, and the program runs to its end
abbrev pub calls : List Call
calls = enter 0 0 0 5 ∷ (enter 1 1 0 7 ∷ (start ∷ (run 9 9 ∷ [])))

-- a bank's cells before open
abbrev pub row : List ℕ
row = 9 ∷ (9 ∷ (9 ∷ (9 ∷ (9 ∷ []))))

-- 3 := 2, labelled P
abbrev pub copying : Program
copying = program (last 0 (Copy 3 2) ∷ [])

-- a while on 2, labelled O
abbrev pub looping : Program
looping = program (last 3 (While 2 0) ∷ [])

-- an if on Alice's number, labelled A, and 2 := 1, labelled O, in its branch
abbrev pub nested : Program
nested = program (last 1 (If 0 2 0) ∷ (last 3 (Copy 2 1) ∷ []))

-- Alice's array fetched at Bob's number into 2, labelled O
abbrev pub fetching : Program
fetching = program (last 3 (Fetch 2 4 1) ∷ [])

abbrev Breaks : Program → ℕ → Rule → Type 0
Breaks p r k = Keeps two_party p r k → ⊥

pub record Cases : Type 0 where
  pub order_lawful : Lawful two_party
  -- the addition is accepted and secret; its tape, and Alice's log
  pub addition_accepted : Accepted two_party addition
  pub addition_secret : Secrecy two_party addition
  pub addition_tape : (after two_party addition calls (opened addition row)).tape
      ≡ instruction 3 1 ∷ (read 1 0 5 ∷ (read 2 1 7 ∷ (write 3 2 12 ∷ (end 0 ∷ []))))
  pub addition_log : log two_party addition 0 calls (opened addition row)
      ≡ instruction 3 1 ∷ (read 1 0 5 ∷ (name 3 2 ∷ (end 0 ∷ [])))
  -- the four refused examples
  pub secret_to_public : Breaks copying 1 rule.Source
  pub secret_guard : Breaks looping 1 rule.OpenGuard
  pub secret_in_branch : Breaks nested 2 rule.Around
  pub foreign_index : Breaks fetching 1 rule.Index
  pub mux_zero : mux 0 10 20 ≡ 10
  pub mux_other : mux 7 10 20 ≡ 20
  -- guard 2 takes the second branch
  pub guard_two : (m : Memory) (rest : List ℕ) → held addition m 0 0 ≡ 2 → onward addition 1 9 (If 0 7 8) m rest ≡ 8 ∷ (9 ∷ rest)
  pub sum_wraps : apply Sum 4294967295 1 ≡ 0
  -- index 4 of a four-cell array fetches 0, index 3 its last cell
  pub past_end : (m : Memory) → fetched fetching m 4 4 ≡ 0
  pub last_cell : (m : Memory) → fetched fetching m 4 3 ≡ slice_index m.cells 3
  -- with three parties, 1 joined with 2 is 3, open to party 2 alone
  pub three_parties : ThreeParties
