-- What a comparison answers. Assumes nothing.
use Rattle.std.specs.Prelude.{◌≡◌, ℕ, cond, List, length, Some, None, Ok, Err, Option, Result, nat_lt}
use Rattle.refusal.specs.declared.Refusal.{Refusal}
use Rattle.tape.specs.declared.entry.Entry.{Entry}
use Rattle.tape.specs.declared.fault.LogFault.{LogFault}
use Rattle.tape.specs.declared.fault.LogFault.TheVariants.{Party}
use Rattle.tape.specs.Log.{log_of, log_refusal, pick_answer}
use Rattle.labels.specs.Labels.{Labels}
use Rattle.model.specs.Program.{Program}
use Rattle.model.specs.Session.{Call, opened}
use Rattle.model.specs.Secrecy.{log, StartAlike, SecretBetween}
use Rattle.checker.specs.Accepting.{accept_refusal}
use Rattle.compare.specs.declared.fault.CompareFault.{CompareFault}
use Rattle.compare.specs.declared.fault.CompareFault.TheVariants.{Refused, Memory}

-- it holds, unless memory was wanting
abbrev pub OrMemory : {X : Type 0} → Result X CompareFault → Type 0 → Type 0
OrMemory (Ok x) P = P
OrMemory (Err (Refused f)) P = P
OrMemory (Err Memory) P = Unit {0}

abbrev pub by_pick : Result ℕ LogFault → List Entry → Result (List Entry) CompareFault
by_pick (Ok n) es = Ok es
by_pick (Err f) es = Err (Refused (log_refusal f))

abbrev pub by_accept : {X : Type 0} → Option Refusal → Result X CompareFault → Result X CompareFault
by_accept (Some f) r = Err (Refused f)
by_accept None r = r

-- a party's log of a tape, or why there is none
abbrev pub picked_log : Labels → ℕ → List Entry → Result (List Entry) CompareFault
picked_log L q tape = by_pick (pick_answer L q tape (length tape)) (log_of L q tape)

-- a party's log, if there is such a party
abbrev pub for_party : Labels → ℕ → List Entry → Result (List Entry) CompareFault
for_party L q es = cond (nat_lt q L.parties) (Ok es) (Err (Refused (log_refusal (Party q))))

-- the log of a session of the program after some calls, over a bank that had these cells; none where the program is not
-- accepted or there is no such party
abbrev pub logged : Labels → Program → ℕ → List Call → List ℕ → Result (List Entry) CompareFault
logged L p q cs cells = by_accept (accept_refusal L p) (for_party L q (log L p q cs (opened p cells)))

-- both logs, or the first fault
abbrev pub both : Result (List Entry) CompareFault → Result (List Entry) CompareFault → Result (List Entry × List Entry) CompareFault
both (Err e) second = Err e
both (Ok a) (Err e) = Err e
both (Ok a) (Ok b) = Ok (a, b)

-- What two logs of a party tell: they are its logs of the two sessions, and if the lists of calls start alike for it,
-- they tell it no more than the values released to it.
pub record Compared (L : Labels) (p : Program) (q : ℕ) (cs : List Call) (cells : List ℕ) (ds : List Call) (cells' : List ℕ) (first second : List Entry) : Type 0 where
  pub first_log : first ≡ log L p q cs (opened p cells)
  pub second_log : second ≡ log L p q ds (opened p cells')
  pub secret : StartAlike L p q cs (opened p cells) ds (opened p cells') → SecretBetween L p q cs (opened p cells) ds (opened p cells')
