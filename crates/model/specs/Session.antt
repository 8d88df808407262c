-- A session and its calls: enter, start, run and look, each with its refusals in order.
-- Assumes nothing.
use Rattle.std.specs.Prelude.{ℕ, zero, suc, ◌-◌, Bool, true, false, cond, not, ◌&&◌, List, [], ◌∷◌, ◌++◌, length, replicate, Some, None, Option, Result, nat_le, nat_lt}
use Rattle.std.specs.Option.{option_or}
use Rattle.tape.specs.declared.entry.Entry.{Entry}
use Rattle.refusal.specs.Answers.{expect, answer, unless}
use Rattle.model.specs.declared.fault.SessionFault.{SessionFault}
use Rattle.model.specs.declared.fault.SessionFault.TheVariants.{BankTooSmall, Started, NoParty, NoPlace, NotOpen, NotStarted, Ended, TapeTooShort}
use Rattle.model.specs.declared.stop.Stop.{Stop}
use Rattle.model.specs.declared.stop.Stop.TheVariants as stop
use Rattle.labels.specs.Labels.{Labels}
use Rattle.model.specs.Program.{Program, label_of, cells_needed}
use Rattle.model.specs.Machine.{Config, inside, held, put, ended, step, written}

pub record State : Type 0 where
  pub config : Config
  pub started : Bool

-- the first n cells set to 0
abbrev pub zeroed : ℕ → List ℕ → List ℕ
zeroed zero cs = cs
zeroed (suc n) [] = []
zeroed (suc n) (c ∷ cs) = 0 ∷ zeroed n cs

-- a newly opened session over a bank that had these cells
unfoldable pub opened : Program → List ℕ → State
opened p cells =
    record {
      config = record {
        memory = record { numbers = replicate (length p.variables) 0; cells = zeroed (cells_needed p) cells };
        stack = 1 ∷ [];
      };
      started = false;
    }

pub data Call : Type 0 where
  -- party, variable, index, value
  enter : ℕ → ℕ → ℕ → ℕ → Call
  start : Call
  -- steps, and the entries that the tape has room for
  run : ℕ → ℕ → Call
  -- party, variable, index
  look : ℕ → ℕ → ℕ → Call

unfoldable pub too_small : Program → State → Bool
too_small p s = nat_lt (length s.config.memory.cells) (cells_needed p)

-- there is such a variable, and the index is inside it
unfoldable pub has_place : Program → ℕ → ℕ → Bool
has_place p v i = nat_lt v (length p.variables) && inside p v i

-- the first fault that applies
unfoldable pub fault : Labels → Program → Call → State → Option SessionFault
fault L p (enter q v i k) s =
    option_or (expect (not (too_small p s)) BankTooSmall)
    (option_or (expect (not s.started) Started)
    (option_or (expect (nat_lt q L.parties) (NoParty q))
    (option_or (expect (has_place p v i) (NoPlace v))
    (expect (L.opens (label_of p.variables v) q) (NotOpen v)))))
fault L p start s =
    option_or (expect (not (too_small p s)) BankTooSmall)
    (expect (not s.started) Started)
fault L p (run n room) s =
    option_or (expect s.started NotStarted)
    (option_or (expect (not (ended s.config)) Ended)
    (expect (nat_le 6 room) TapeTooShort))
fault L p (look q v i) s =
    option_or (expect (not (too_small p s)) BankTooSmall)
    (option_or (expect (nat_lt q L.parties) (NoParty q))
    (option_or (expect (has_place p v i) (NoPlace v))
    (expect (L.opens (label_of p.variables v) q) (NotOpen v))))

-- What a run did: where it stands then, what it wrote, how many steps it took and why it stopped.
pub record Ran : Type 0 where
  pub config : Config
  pub tape : List Entry
  pub count : ℕ
  pub stop : Stop

abbrev pub stopped : Stop → Config → Ran
stopped why c = record { config = c; tape = []; count = 0; stop = why }

-- a step, and what was done after it
abbrev pub then_ran : List Entry → Ran → Ran
then_ran es more = record { config = more.config; tape = es ++ more.tape; count = suc more.count; stop = more.stop }

-- at most n steps, with room for so many entries; before each step: ended, else spent, else full (under 6 entries left)
unfoldable pub steps : Labels → Program → ℕ → ℕ → Config → Ran
steps L p zero room c = cond (ended c) (stopped stop.Ended c) (stopped stop.Spent c)
steps L p (suc n) room c =
    cond (ended c) (stopped stop.Ended c)
    (cond (nat_lt room 6) (stopped stop.Full c)
    (then_ran (written L p c) (steps L p n (room - length (written L p c)) (step p c))))

pub record Done : Type 0 where
  pub state : State
  pub tape : List Entry

abbrev pub granted : Labels → Program → Call → State → Done
granted L p (enter q v i k) s =
    record {
      state = record { config = record { memory = put p s.config.memory v i k; stack = s.config.stack }; started = s.started };
      tape = [];
    }
granted L p start s = record { state = record { config = s.config; started = true }; tape = [] }
granted L p (run n room) s =
    record {
      state = record { config = (steps L p n room s.config).config; started = s.started };
      tape = (steps L p n room s.config).tape;
    }
granted L p (look q v i) s = record { state = s; tape = [] }

-- a refused call leaves all as it was
unfoldable pub perform : Labels → Program → Call → State → Done
perform L p c s = unless (fault L p c s) (record { state = s; tape = [] }) (granted L p c s)

-- the session after a list of calls, and all that its runs wrote, joined
unfoldable pub after : Labels → Program → List Call → State → Done
after L p [] s = record { state = s; tape = [] }
after L p (c ∷ cs) s =
    let rest = after L p cs (perform L p c s).state in
    record { state = rest.state; tape = (perform L p c s).tape ++ rest.tape }

-- what look answers
unfoldable pub looked : Labels → Program → State → ℕ → ℕ → ℕ → Result ℕ SessionFault
looked L p s q v i = answer (fault L p (look q v i) s) (held p s.config.memory v i)

abbrev pub first_of : Option SessionFault → State → Option State → Option State
first_of (Some f) s later = later
first_of None s later = Some s

-- the session just before the accepted start of a list of calls
unfoldable pub at_start : Labels → Program → List Call → State → Option State
at_start L p [] s = None
at_start L p (enter q v i k ∷ cs) s = at_start L p cs (perform L p (enter q v i k) s).state
at_start L p (start ∷ cs) s = first_of (fault L p start s) s (at_start L p cs s)
at_start L p (run n room ∷ cs) s = at_start L p cs (perform L p (run n room) s).state
at_start L p (look q v i ∷ cs) s = at_start L p cs (perform L p (look q v i) s).state
