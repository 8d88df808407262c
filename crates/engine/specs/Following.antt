-- What playing calls says of the session, in the words of its calls. Assumes nothing.
use Rattle.std.specs.Prelude.{◌≡◌, ℕ, ◌≤◌, ◌≢◌, List, [], ◌∷◌, ◌++◌, length, take, Some}
use Rattle.std.specs.List.{slice_get, AllByRecursion}
use Rattle.std.specs.Option.{option_to_list}
use Rattle.tape.specs.declared.entry.Entry.{Entry}
use Rattle.tape.specs.Log.{overwritten}
use Rattle.labels.specs.Labels.{Labels}
use Rattle.model.specs.Program.{Program}
use Rattle.model.specs.Session.{State, Call, after}
use Rattle.engine.specs.declared.rows.CallRow.{CallRow}
use Rattle.engine.specs.declared.rows.AnswerRow.{AnswerRow}
use Rattle.engine.specs.Playing.{call_of, row_answer, Played, played}

-- the calls that rows mean, where the tape has room for so many entries; a number that no call has means none
abbrev pub meant : ℕ → List CallRow → List Call
meant room [] = []
meant room (c ∷ cs) = option_to_list (call_of room c) ++ meant room cs

abbrev pub NoRun : List CallRow → Type 0
NoRun cs = AllByRecursion (λ c. c.call ≢ 2) cs

-- Where there is an answer for each call: each is that of its call in the session as the calls before it leave it; the tape
-- keeps its length; and where no more than one of the calls is a run, it holds what the session wrote and then what stood
-- there.
pub record Follows (L : Labels) (p : Program) (calls : List CallRow) (s : State) (t : List Entry) (r : Played) : Type 0 where
  pub answers : (k : ℕ) (c : CallRow) → slice_get calls k ≡ Some c →
      slice_get r.answers k ≡ Some (row_answer L p c.call (call_of (length t) c) (after L p (meant (length t) (take k calls)) s).state)
  pub long : length r.tape ≡ length t
  pub tape : (us vs : List CallRow) (c : CallRow) → calls ≡ us ++ (c ∷ vs) → NoRun us → NoRun vs →
      r.tape ≡ overwritten (after L p (meant (length t) calls) s).tape t

abbrev pub PlayFollows : Labels → Program → List CallRow → State → List Entry → List AnswerRow → Type 0
PlayFollows L p calls s t rs = length calls ≤ length rs → Follows L p calls s t (played L p calls 0 s t rs)
