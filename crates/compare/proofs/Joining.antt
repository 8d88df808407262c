-- Calls, one after the other. Assumes nothing.
use Rattle.std.proofs.Common.{◌≡◌, ℕ, ◌+◌, ◌<◌, ◌≤◌, List, [], ◌++◌, length, get_or, drop, Some, None, Option, sym, refl, ap, ◌∙◌, append_assoc, append-nil}
use Rattle.std.proofs.lemmas.List.{drop_more, drop_all}
use Rattle.refusal.specs.Answers.{unless}
use Rattle.tape.specs.declared.entry.Entry.{Entry}
use Rattle.labels.specs.Labels.{Labels}
use Rattle.model.specs.declared.fault.SessionFault.{SessionFault}
use Rattle.model.specs.Program.{Program}
use Rattle.model.specs.Session as session
use Rattle.model.specs.Session.{State, fault, perform, granted, after}
use Rattle.compare.specs.declared.call.Call.{Call}
use Rattle.compare.specs.Calls.{call_of, calls_of, Performed}

module _ (L : Labels) (p : Program) (s s' : State) (old : List Entry) where
  -- a call that writes nothing
  pub silent : (c : session.Call) → (granted L p c s).tape ≡ [] → s' ≡ (perform L p c s).state → Performed L p c s s' old old
  unfolding perform
  silent c none e = record { state = e; tape = sym (ap (λ (t : List Entry). old ++ t) (go (fault L p c s)) ∙ append-nil old) }
    where
      go : (o : Option SessionFault) → (unless o (record { state = s; tape = [] }) (granted L p c s)).tape ≡ []
      go (Some f) = refl
      go None = none

module _ (L : Labels) (p : Program) (calls : List Call) where
  -- one call more
  pub all_more : (i : ℕ) (d : Call) (s s' : State) (old new whole : List Entry) → i < length calls →
      Performed L p (call_of (get_or calls i d)) s s' old new → old ++ (after L p (calls_of (drop i calls)) s).tape ≡ whole →
      new ++ (after L p (calls_of (drop (i + 1) calls)) s').tape ≡ whole
  unfolding after
  all_more i d s s' old new whole h done inv =
      let call = get_or calls i d in
      let rest = λ (t : State). (after L p (calls_of (drop (i + 1) calls)) t).tape in
      ap (λ (t : List Entry). t ++ rest s') done.tape
      ∙ append_assoc old (perform L p (call_of call) s).tape (rest s')
      ∙ ap (λ (t : State). old ++ ((perform L p (call_of call) s).tape ++ rest t)) done.state
      ∙ ap (λ (cs : List Call). old ++ (after L p (calls_of cs) s).tape) (sym (drop_more calls i d h))
      ∙ inv

  -- all calls
  pub all_done : (i : ℕ) (s : State) (tape whole : List Entry) → length calls ≤ i → tape ++ (after L p (calls_of (drop i calls)) s).tape ≡ whole → tape ≡ whole
  unfolding after
  all_done i s tape whole h inv =
      sym (append-nil tape) ∙ ap (λ (cs : List Call). tape ++ (after L p (calls_of cs) s).tape) (sym (drop_all i calls h)) ∙ inv
