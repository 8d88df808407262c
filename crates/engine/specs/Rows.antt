-- Answers as rows of numbers, for C. Assumes nothing.
use Rattle.std.specs.Prelude.{◌≡◌, ℕ, ◌⊎◌, Ok, Err, Result}
use Rattle.refusal.specs.declared.Layer.{Layer}
use Rattle.refusal.specs.declared.Layer.TheVariants.{Sheet, Shape, Rule, Session, Log, Order}
use Rattle.refusal.specs.declared.Refusal.{Refusal}
use Rattle.tape.specs.declared.fault.LogFault.{LogFault}
use Rattle.tape.specs.Log.{log_refusal}
use Rattle.model.specs.declared.fault.SessionFault.{SessionFault}
use Rattle.model.specs.declared.stop.Stop.{Stop}
use Rattle.model.specs.declared.stop.Stop.TheVariants.{Ended, Spent, Full}
use Rattle.model.specs.Faults.{session_refusal_of}
use Rattle.verdict.specs.declared.sizes.Sizes.{Sizes}
use Rattle.session.specs.declared.report.RunReport.{RunReport}
use Rattle.engine.specs.declared.rows.AnswerRow.{AnswerRow}
use Rattle.engine.specs.declared.fault.Fault.{Fault}
use Rattle.engine.specs.declared.fault.Fault.TheVariants.{Refused, Memory, NoCall, NoRoom}

abbrev pub layer_code : Layer → ℕ
layer_code Sheet = 1
layer_code Shape = 2
layer_code Rule = 3
layer_code Session = 4
layer_code Log = 5
layer_code Order = 6

abbrev pub stop_code : Stop → ℕ
stop_code Ended = 1
stop_code Spent = 2
stop_code Full = 3

-- nothing was refused
abbrev pub values : ℕ → ℕ → AnswerRow
values a b = record { layer = 0; number = 0; stop = 0; place = 0; first = a; second = b }

-- refused with this layer, number and place
abbrev pub no : ℕ → ℕ → ℕ → AnswerRow
no l n p = record { layer = l; number = n; stop = 0; place = p; first = 0; second = 0 }

abbrev pub refused_row : Refusal → AnswerRow
refused_row r = no (layer_code r.layer) r.number r.place

-- there was no memory for the bank
abbrev pub no_memory : AnswerRow
no_memory = no 7 0 0

-- that answer, unless there was no memory
abbrev pub OrMemory : AnswerRow → AnswerRow → Type 0
OrMemory r expected = (r ≡ expected) ⊎ (r ≡ no_memory)

-- no call has this number
abbrev pub no_call : ℕ → AnswerRow
no_call n = no 8 0 n

-- there are fewer rows for answers than calls, which are so many
abbrev pub no_room : ℕ → AnswerRow
no_room n = no 9 0 n

-- variables and records
abbrev pub sizes_row : Sizes → AnswerRow
sizes_row s = values s.variables s.records

-- steps and entries
abbrev pub report_row : RunReport → AnswerRow
report_row r = record { layer = 0; number = 0; stop = stop_code r.stop; place = 0; first = r.steps; second = r.entries }

abbrev pub fault_row : Fault → AnswerRow
fault_row (Refused r) = refused_row r
fault_row Memory = no_memory
fault_row (NoCall n) = no_call n
fault_row (NoRoom n) = no_room n

-- the row of an answer that was made, or of why none was
abbrev pub row_of : Result AnswerRow Fault → AnswerRow
row_of (Ok row) = row
row_of (Err f) = fault_row f

abbrev pub check_row : Result Sizes Refusal → AnswerRow
check_row (Ok s) = sizes_row s
check_row (Err r) = refused_row r

-- entries
abbrev pub pick_row : Result ℕ LogFault → AnswerRow
pick_row (Ok n) = values n 0
pick_row (Err f) = refused_row (log_refusal f)

abbrev pub done_row : Result (Unit {0}) SessionFault → AnswerRow
done_row (Ok _) = values 0 0
done_row (Err f) = refused_row (session_refusal_of f)

-- the value
abbrev pub look_row : Result ℕ SessionFault → AnswerRow
look_row (Ok v) = values v 0
look_row (Err f) = refused_row (session_refusal_of f)

abbrev pub run_row : Result RunReport SessionFault → AnswerRow
run_row (Ok r) = report_row r
run_row (Err f) = refused_row (session_refusal_of f)
