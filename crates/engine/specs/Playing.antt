-- Calls that are played on a session one after the other. Assumes nothing.
use Rattle.std.specs.Prelude.{ℕ, ◌+◌, cond, List, [], ◌∷◌, length, Some, None, Option, ◌==◌, nat_lt, slice_set}
use Rattle.refusal.specs.Answers.{answer}
use Rattle.tape.specs.declared.entry.Entry.{Entry}
use Rattle.tape.specs.Log.{overwritten}
use Rattle.labels.specs.Labels.{Labels}
use Rattle.labels.specs.Orders.{two_party}
use Rattle.model.specs.Program.{Program}
use Rattle.model.specs.Session.{State, Call, enter, start, run, look, opened, fault, perform, steps, looked}
use Rattle.session.specs.Reports.{reported}
use Rattle.checker.specs.Accepting.{sheet_program}
use Rattle.verdict.specs.Verdicts.{checked}
use Rattle.engine.specs.declared.rows.CallRow.{CallRow}
use Rattle.engine.specs.declared.rows.AnswerRow.{AnswerRow}
use Rattle.engine.specs.Rows.{no_call, no_room, done_row, look_row, run_row, check_row}

-- the call that a row means, where the tape has room for so many entries
abbrev pub call_of : ℕ → CallRow → Option Call
call_of room c =
    cond (c.call == 0) (Some (enter c.party c.variable c.index c.value))
    (cond (c.call == 1) (Some start)
    (cond (c.call == 2) (Some (run c.steps room))
    (cond (c.call == 3) (Some (look c.party c.variable c.index)) None)))

-- what a call answers
abbrev pub answer_of : Labels → Program → Call → State → AnswerRow
answer_of L p (enter q v i k) s = done_row (answer (fault L p (enter q v i k) s) tt)
answer_of L p start s = done_row (answer (fault L p start s) tt)
answer_of L p (run n room) s = run_row (answer (fault L p (run n room) s) (reported (steps L p n room s.config)))
answer_of L p (look q v i) s = look_row (looked L p s q v i)

abbrev pub row_answer : Labels → Program → ℕ → Option Call → State → AnswerRow
row_answer L p n None s = no_call n
row_answer L p n (Some c) s = answer_of L p c s

-- the session after a call; a number that no call has changes nothing
abbrev pub row_state : Labels → Program → Option Call → State → State
row_state L p None s = s
row_state L p (Some c) s = (perform L p c s).state

-- the tape after a call: a run writes over its front, no other call writes
abbrev pub row_tape : Labels → Program → Option Call → State → List Entry → List Entry
row_tape L p None s t = t
row_tape L p (Some (enter q v i k)) s t = t
row_tape L p (Some start) s t = t
row_tape L p (Some (run n room)) s t = overwritten (perform L p (run n room) s).tape t
row_tape L p (Some (look q v i)) s t = t

-- the tape and the answers
pub record Played : Type 0 where
  pub tape : List Entry
  pub answers : List AnswerRow

-- the calls from number k on, each with its answer in the row of its number
unfoldable pub played : Labels → Program → List CallRow → ℕ → State → List Entry → List AnswerRow → Played
played L p [] k s t rs = record { tape = t; answers = rs }
played L p (c ∷ cs) k s t rs =
    let call = call_of (length t) c in
    played L p cs (k + 1) (row_state L p call s) (row_tape L p call s t) (slice_set rs k (row_answer L p c.call call s))

-- What playing answers: refused where the answers have no room, else the verdict on the sheet.
abbrev pub play_row : List ℕ → List CallRow → List AnswerRow → AnswerRow
play_row sheet calls rs =
    cond (nat_lt (length rs) (length calls)) (no_room (length calls)) (check_row (checked two_party sheet))

-- What playing leaves: where its answer names no layer, the calls are played on a session of the sheet's program over a
-- bank that had these cells; else nothing is touched.
abbrev pub play_over : AnswerRow → List ℕ → List ℕ → List CallRow → List Entry → List AnswerRow → Played
play_over r sheet cells calls t rs =
    cond (r.layer == 0)
    (played two_party (sheet_program sheet) calls 0 (opened (sheet_program sheet) cells) t rs)
    (record { tape = t; answers = rs })
