-- What a session holds. Assumes nothing.
use Rattle.std.specs.Prelude.{ℕ, List, Option, nat_lt}
use Rattle.labels.specs.declared.order.LabelOrder as LabelOrder
use Rattle.model.specs.Machine.{Config}
use Rattle.std.specs.Option.{option_or}
use Rattle.labels.specs.Labels.{Labels}
use Rattle.refusal.specs.Answers.{expect}
use Rattle.model.specs.declared.fault.SessionFault.{SessionFault}
use Rattle.model.specs.declared.fault.SessionFault.TheVariants.{NoParty, NoPlace, NotOpen}
use Rattle.model.specs.Program.{Program, label_of}
use Rattle.model.specs.Session.{State, Call, Done, Ran, fault, perform, has_place, steps}
use Rattle.session.specs.Stacks.{pile}
use Rattle.session.specs.Memories.{tables_of, order_of, memory_of}
use Rattle.session.specs.declared.session.Session.{Session}

-- the memory and the stack, over a bank that means a row of cells
abbrev pub config_of : {O B : Type 0} {o : LabelOrder.Ghosts O} → (B → List ℕ) → Session O B o → Config
config_of row s = record { memory = memory_of row s.memory; stack = pile s.stack }

abbrev pub state_of : {O B : Type 0} {o : LabelOrder.Ghosts O} → (B → List ℕ) → Session O B o → State
state_of row s = record { config = config_of row s; started = s.started }

-- why a call is refused, if it is
abbrev pub refusal_of : {O B : Type 0} {o : LabelOrder.Ghosts O} → (O → Labels) → (B → List ℕ) → Call → Session O B o → Option SessionFault
refusal_of meaning row call s = fault (meaning (order_of s.memory)) (tables_of s.memory) call (state_of row s)

-- what a call makes of the session, and what it writes
abbrev pub done : {O B : Type 0} {o : LabelOrder.Ghosts O} → (O → Labels) → (B → List ℕ) → Call → Session O B o → Done
done meaning row call s = perform (meaning (order_of s.memory)) (tables_of s.memory) call (state_of row s)

-- at most n steps, with room for so many entries
abbrev pub ran_of : {O B : Type 0} {o : LabelOrder.Ghosts O} → (O → Labels) → (B → List ℕ) → ℕ → ℕ → Session O B o → Ran
ran_of meaning row n room s = steps (meaning (order_of s.memory)) (tables_of s.memory) n room (config_of row s)

-- why party q may not see variable v at index i: no such party, no such place, or the label is not open to the party
abbrev pub access_fault : Labels → Program → ℕ → ℕ → ℕ → Option SessionFault
access_fault L p q v i =
    option_or (expect (nat_lt q L.parties) (NoParty q))
    (option_or (expect (has_place p v i) (NoPlace v))
    (expect (L.opens (label_of p.variables v) q) (NotOpen v)))
