-- Calls that are played one after the other. Assumes nothing.
use Rattle.std.proofs.Common.{◌≡◌, ℕ, ◌+◌, ◌<◌, ◌≤◌, List, length, get_or, drop, set, sym, ◌∙◌}
use Rattle.std.proofs.lemmas.List.{at_drop_more, at_drop_all}
use Rattle.tape.specs.declared.entry.Entry.{Entry}
use Rattle.labels.specs.Labels.{Labels}
use Rattle.model.specs.Program.{Program}
use Rattle.model.specs.Session.{State}
use Rattle.engine.specs.declared.rows.CallRow.{CallRow}
use Rattle.engine.specs.declared.rows.AnswerRow.{AnswerRow}
use Rattle.engine.specs.Playing.{call_of, row_answer, row_state, row_tape, Played, played}

-- a call has been played: its answer, the session and the tape are as it leaves them
pub record Plays (L : Labels) (p : Program) (c : CallRow) (s s' : State) (t t' : List Entry) (r : AnswerRow) : Type 0 where
  pub answer : r ≡ row_answer L p c.call (call_of (length t) c) s
  pub state : s' ≡ row_state L p (call_of (length t) c) s
  pub tape : t' ≡ row_tape L p (call_of (length t) c) s t

module _ (L : Labels) (p : Program) (calls : List CallRow) (k : ℕ) (s : State) (t : List Entry) (rs : List AnswerRow) (whole : Played) where
  -- one call more
  pub played_more : (d : CallRow) (s' : State) (t' : List Entry) (r : AnswerRow) → k < length calls →
      Plays L p (get_or calls k d) s s' t t' r → played L p (drop k calls) k s t rs ≡ whole →
      played L p (drop (k + 1) calls) (k + 1) s' t' (set rs k r) ≡ whole
  unfolding played
  played_more d s' t' r h done inv =
      (λ j. played L p (drop (k + 1) calls) (k + 1) (done.state j) (done.tape j) (set rs k (done.answer j)))
      ∙ sym (at_drop_more (λ (cs : List CallRow). played L p cs k s t rs) calls k d h)
      ∙ inv

  -- all calls
  pub played_all : length calls ≤ k → played L p (drop k calls) k s t rs ≡ whole → record { tape = t; answers = rs } ≡ whole
  unfolding played
  played_all h inv = sym (at_drop_all (λ (cs : List CallRow). played L p cs k s t rs) calls k h) ∙ inv
