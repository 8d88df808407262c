-- Each call is played on the session as the calls before it leave it. Assumes nothing.
use Rattle.std.proofs.Common.{◌≡◌, ℕ, zero, suc, ◌+◌, ◌<◌, ◌≤◌, ◌≢◌, eqb, Option, Some, None, List, [], ◌∷◌, ◌++◌, length, take, drop, set, sym, refl, ap, ◌∙◌, inl, inr, arith, append-nil, length-append, length-drop, length-set}
use Rattle.std.specs.List.{slice_get}
use Rattle.std.specs.Option.{option_to_list}
use Rattle.std.proofs.lemmas.Bool.{cond_both, eqb-true}
use Rattle.tape.specs.declared.entry.Entry.{Entry}
use Rattle.tape.specs.Log.{overwritten}
use Rattle.labels.specs.Labels.{Labels}
use Rattle.model.specs.Program.{Program}
use Rattle.model.specs.Machine.{Config, written}
use Rattle.model.specs.Session.{State, Call, enter, start, run, look, fault, granted, perform, after}
use Rattle.model.specs.Runs.{trail, advance}
use Rattle.model.proofs.Bounds.{written_six}
use Rattle.model.proofs.Running.{is_run}
use Rattle.model.proofs.Calls.{is_refusal, perform_refused, perform_granted}
use Rattle.model.proofs.Tape.{trail_add}
use Rattle.engine.specs.declared.rows.CallRow.{CallRow}
use Rattle.engine.specs.declared.rows.AnswerRow.{AnswerRow}
use Rattle.engine.specs.Playing.{call_of, row_answer, row_state, row_tape, played}
use Rattle.engine.specs.Following.{NoRun, meant, PlayFollows}

set_other : {X : Type 0} (xs : List X) (i k : ℕ) (x : X) → k < i → slice_get (set xs i x) k ≡ slice_get xs k
set_other [] i k x h = refl
set_other (y ∷ xs) zero k x h = absurd (omega arith)
set_other (y ∷ xs) (suc i) zero x h = refl
set_other (y ∷ xs) (suc i) (suc k) x h = set_other xs i k x (omega arith)

set_same : {X : Type 0} (xs : List X) (i : ℕ) (x : X) → i < length xs → slice_get (set xs i x) i ≡ Some x
set_same [] i x h = absurd (omega arith)
set_same (y ∷ xs) zero x h = refl
set_same (y ∷ xs) (suc i) x h = set_same xs i x (omega arith)

-- a run has just this room
abbrev InRoom : ℕ → Option Call → Type 0
InRoom room (Some (run n r)) = r ≡ room
InRoom room call = Unit {0}

call_in_room : (room : ℕ) (c : CallRow) → InRoom room (call_of room c)
call_in_room room c =
    cond_both (eqb c.call 0) _ _ (InRoom room) (λ _. tt)
    (λ _. cond_both (eqb c.call 1) _ _ (InRoom room) (λ _. tt)
    (λ _. cond_both (eqb c.call 2) _ _ (InRoom room) (λ _. refl)
    (λ _. cond_both (eqb c.call 3) _ _ (InRoom room) (λ _. tt) (λ _. tt))))

module _ (L : Labels) (p : Program) where
  trail_fits : (k room : ℕ) (c : Config) → ((j : ℕ) → j < k → length (trail L p j c) + 6 ≤ room) → length (trail L p k c) ≤ room
  unfolding trail
  trail_fits zero room c w = omega arith
  trail_fits (suc k) room c w =
      let last : suc k ≡ k + 1 = omega arith in
      let d = advance p k c in
      omega (arith, w k (omega arith), ap length (ap (λ (j : ℕ). trail L p j c) last ∙ trail_add L p k 1 c), length-append (trail L p k c) (written L p d ++ []), length-append (written L p d) [], written_six L p d.memory d.stack)

  -- a run writes no more than there is room for
  run_fits : (n room : ℕ) (s : State) → length (perform L p (run n room) s).tape ≤ room
  run_fits n room s =
      elim (is_refusal (fault L p (run n room) s)) [
        | inl e ↦
            let r = is_run L p n room s.config in
            rw (perform_granted L p (run n room) s e, r.tape) (trail_fits _ room s.config (λ j h. (r.went_on j h).1))
        | inr e ↦ rw (perform_refused L p (run n room) s e.0 e.1) (omega arith)
      ]

  keeps : (call : Option Call) (s : State) (t : List Entry) → InRoom (length t) call → length (row_tape L p call s t) ≡ length t
  keeps None s t h = refl
  keeps (Some (enter q v i k)) s t h = refl
  keeps (Some start) s t h = refl
  keeps (Some (run n r)) s t h =
      let front = (perform L p (run n r) s).tape in
      omega (arith, h, run_fits n r s, length-append front (drop (length front) t), length-drop (length front) t)
  keeps (Some (look q v i)) s t h = refl

  after_row : (call : Option Call) (rest : List Call) (s : State) → (after L p (option_to_list call ++ rest) s).state ≡ (after L p rest (row_state L p call s)).state
  unfolding after
  after_row None rest s = refl
  after_row (Some c) rest s = refl

  stays : (cs : List CallRow) (i : ℕ) (s : State) (t : List Entry) (rs : List AnswerRow) (k : ℕ) → k < i →
      slice_get (played L p cs i s t rs).answers k ≡ slice_get rs k
  unfolding played
  stays [] i s t rs k h = refl
  stays (c ∷ cs) i s t rs k h = stays cs (i + 1) _ _ _ k (omega arith) ∙ set_other rs i k _ h

  long : (cs : List CallRow) (i : ℕ) (s : State) (t : List Entry) (rs : List AnswerRow) → length (played L p cs i s t rs).tape ≡ length t
  unfolding played
  long [] i s t rs = refl
  long (c ∷ cs) i s t rs =
      let call = call_of (length t) c in
      long cs (i + 1) (row_state L p call s) (row_tape L p call s t) (set rs i (row_answer L p c.call call s)) ∙ keeps call s t (call_in_room (length t) c)

  answered : (cs : List CallRow) (i room : ℕ) (s : State) (t : List Entry) (rs : List AnswerRow) (k : ℕ) (c : CallRow) →
      length t ≡ room → i + length cs ≤ length rs → slice_get cs k ≡ Some c →
      slice_get (played L p cs i s t rs).answers (i + k) ≡ Some (row_answer L p c.call (call_of room c) (after L p (meant room (take k cs)) s).state)
  unfolding played after
  answered [] i room s t rs k c e h is = absurd cc
  answered (d ∷ cs) i room s t rs zero c e h is =
      let same : d ≡ c = cc in
      let here : i + 0 ≡ i = omega arith in
      ap (slice_get (played L p (d ∷ cs) i s t rs).answers) here
      ∙ stays cs (i + 1) _ _ _ i (omega arith) ∙ set_same rs i _ (omega arith)
      ∙ (λ j. Some (row_answer L p (same j).call (call_of (e j) (same j)) s))
  answered (d ∷ cs) i room s t rs (suc k) c e h is =
      let call = call_of (length t) d in
      let answer = row_answer L p d.call call s in
      let there : i + suc k ≡ i + 1 + k = omega arith in
      let state = ap (λ (x : ℕ). (after L p (option_to_list (call_of x d) ++ meant room (take k cs)) s).state) e in
      ap (slice_get (played L p cs (i + 1) (row_state L p call s) (row_tape L p call s t) (set rs i answer)).answers) there
      ∙ answered cs (i + 1) room (row_state L p call s) (row_tape L p call s t) (set rs i answer) k c (keeps call s t (call_in_room (length t) d) ∙ e)
      (omega (arith, h, length-set rs i answer)) is
      ∙ ap (λ (z : State). Some (row_answer L p c.call (call_of room c) z)) (sym (after_row call (meant room (take k cs)) s) ∙ state)

  -- a call that is no run writes nothing
  abbrev Silent : Option Call → Type 0
  Silent (Some (run n r)) = ⊥
  Silent call = Unit {0}

  silent_of : (room : ℕ) (c : CallRow) → c.call ≢ 2 → Silent (call_of room c)
  silent_of room c ne =
      cond_both (eqb c.call 0) _ _ Silent (λ _. tt)
      (λ _. cond_both (eqb c.call 1) _ _ Silent (λ _. tt)
      (λ _. cond_both (eqb c.call 2) _ _ Silent (λ e. ne (eqb-true c.call 2 e))
      (λ _. cond_both (eqb c.call 3) _ _ Silent (λ _. tt) (λ _. tt))))

  abbrev tape_of : Option Call → State → List Entry
  tape_of None s = []
  tape_of (Some c) s = (perform L p c s).tape

  no_tape : (c : Call) (s : State) → (granted L p c s).tape ≡ [] → (perform L p c s).tape ≡ []
  no_tape c s h =
      elim (is_refusal (fault L p c s)) [
        | inl e ↦ rw (perform_granted L p c s e) h
        | inr e ↦ rw (perform_refused L p c s e.0 e.1)
      ]

  silent_tape : (call : Option Call) (s : State) → Silent call → tape_of call s ≡ []
  silent_tape None s h = refl
  silent_tape (Some (run n r)) s h = absurd h
  silent_tape (Some (enter q v i k)) s h = no_tape (enter q v i k) s refl
  silent_tape (Some start) s h = no_tape start s refl
  silent_tape (Some (look q v i)) s h = no_tape (look q v i) s refl

  silent_row : (call : Option Call) (s : State) (t : List Entry) → Silent call → row_tape L p call s t ≡ t
  silent_row (Some (run n r)) s t h = absurd h
  silent_row (Some (enter q v i k)) s t h = refl
  silent_row (Some start) s t h = refl
  silent_row (Some (look q v i)) s t h = refl
  silent_row None s t h = refl

  over_row : (call : Option Call) (s : State) (t : List Entry) → row_tape L p call s t ≡ overwritten (tape_of call s) t
  over_row (Some (run n r)) s t = refl
  over_row (Some (enter q v i k)) s t = ap (λ (x : List Entry). overwritten x t) (sym (silent_tape (Some (enter q v i k)) s tt))
  over_row (Some start) s t = ap (λ (x : List Entry). overwritten x t) (sym (silent_tape (Some start) s tt))
  over_row (Some (look q v i)) s t = ap (λ (x : List Entry). overwritten x t) (sym (silent_tape (Some (look q v i)) s tt))
  over_row None s t = refl

  after_tape : (call : Option Call) (rest : List Call) (s : State) →
      (after L p (option_to_list call ++ rest) s).tape ≡ tape_of call s ++ (after L p rest (row_state L p call s)).tape
  unfolding after
  after_tape None rest s = refl
  after_tape (Some c) rest s = refl

  quiet_after : (cs : List CallRow) (room : ℕ) (s : State) → NoRun cs → (after L p (meant room cs) s).tape ≡ []
  unfolding after
  quiet_after [] room s h = refl
  quiet_after (c ∷ cs) room s h =
      let call = call_of room c in
      after_tape call (meant room cs) s ∙ (λ j. silent_tape call s (silent_of room c h.0) j ++ quiet_after cs room (row_state L p call s) h.1 j)

  quiet_played : (cs : List CallRow) (i : ℕ) (s : State) (t : List Entry) (rs : List AnswerRow) → NoRun cs → (played L p cs i s t rs).tape ≡ t
  unfolding played
  quiet_played [] i s t rs h = refl
  quiet_played (c ∷ cs) i s t rs h =
      quiet_played cs (i + 1) _ _ _ h.1 ∙ silent_row (call_of (length t) c) s t (silent_of (length t) c h.0)

  one_run : (us vs : List CallRow) (c : CallRow) (i room : ℕ) (s : State) (t : List Entry) (rs : List AnswerRow) → length t ≡ room → NoRun us → NoRun vs →
      (played L p (us ++ (c ∷ vs)) i s t rs).tape ≡ overwritten (after L p (meant room (us ++ (c ∷ vs))) s).tape t
  unfolding played
  one_run [] vs c i room s t rs e h k =
      let call = call_of (length t) c in
      let is = ap (λ (x : ℕ). call_of x c) e in
      let whole = after_tape (call_of room c) (meant room vs) s ∙ ap (λ (x : List Entry). tape_of (call_of room c) s ++ x) (quiet_after vs room _ k) ∙ append-nil (tape_of (call_of room c) s) in
      quiet_played vs (i + 1) _ _ _ k ∙ over_row call s t ∙ ap (λ (x : Option Call). overwritten (tape_of x s) t) is ∙ ap (λ (x : List Entry). overwritten x t) (sym whole)
  one_run (u ∷ us) vs c i room s t rs e h k =
      let call = call_of (length t) u in
      let is = ap (λ (x : ℕ). call_of x u) e in
      let q = silent_of (length t) u h.0 in
      let same = silent_row call s t q in
      let first = after_tape (call_of room u) (meant room (us ++ (c ∷ vs))) s
      ∙ (λ j. silent_tape (call_of room u) s (silent_of room u h.0) j ++ (after L p (meant room (us ++ (c ∷ vs))) (row_state L p (call_of room u) s)).tape)
      ∙ ap (λ (x : Option Call). (after L p (meant room (us ++ (c ∷ vs))) (row_state L p x s)).tape) (sym is) in
      one_run us vs c (i + 1) room (row_state L p call s) (row_tape L p call s t) (set rs i (row_answer L p u.call call s)) (keeps call s t (call_in_room (length t) u) ∙ e) h.1 k
      ∙ ap (λ (x : List Entry). overwritten x (row_tape L p call s t)) (sym first)
      ∙ ap (overwritten (after L p (meant room (u ∷ (us ++ (c ∷ vs)))) s).tape) same

  pub follows : (cs : List CallRow) (s : State) (t : List Entry) (rs : List AnswerRow) → PlayFollows L p cs s t rs
  follows cs s t rs h =
      record {
        answers = λ k c is.
            let here : 0 + k ≡ k = omega arith in
            ap (slice_get (played L p cs 0 s t rs).answers) (sym here) ∙ answered cs 0 (length t) s t rs k c refl (omega arith) is;
        long = long cs 0 s t rs;
        tape = λ us vs c is h k. ap (λ (x : List CallRow). (played L p x 0 s t rs).tape) is ∙ one_run us vs c 0 (length t) s t rs refl h k
            ∙ ap (λ (x : List CallRow). overwritten (after L p (meant (length t) x) s).tape t) (sym is);
      }
