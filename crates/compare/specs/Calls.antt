-- Lists of calls. Assumes nothing.
use Rattle.std.specs.Prelude.{◌≡◌, List, [], ◌∷◌, ◌++◌, take, Ok, Err, Result}
use Rattle.model.specs.declared.fault.SessionFault.{SessionFault}
use Rattle.session.specs.declared.report.RunReport.{RunReport}
use Rattle.tape.specs.declared.entry.Entry.{Entry}
use Rattle.labels.specs.Labels.{Labels}
use Rattle.model.specs.Program.{Program}
use Rattle.model.specs.Session as session
use Rattle.compare.specs.declared.call.Call.{Call}
use Rattle.compare.specs.declared.call.Call.TheVariants.{Enter, Start, Run, Look}

-- what a call means
abbrev pub call_of : Call → session.Call
call_of (Enter party variable index value) = session.enter party variable index value
call_of Start = session.start
call_of (Run steps room) = session.run steps room
call_of (Look party variable index) = session.look party variable index

abbrev pub calls_of : List Call → List session.Call
calls_of [] = []
calls_of (c ∷ cs) = call_of c ∷ calls_of cs

-- a call has been performed: the state is as it leaves it, and what it writes is joined to the tape
pub record Performed (L : Labels) (p : Program) (c : session.Call) (before after : session.State) (old new : List Entry) : Type 0 where
  pub state : after ≡ (session.perform L p c before).state
  pub tape : new ≡ old ++ (session.perform L p c before).tape

-- the entries that a run wrote, by its answer; none where it was refused
abbrev pub kept : Result RunReport SessionFault → List Entry → List Entry
kept (Ok report) tape = take report.entries tape
kept (Err fault) tape = []
