-- Logs that were picked. Assumes nothing.
use Rattle.std.proofs.Common.{◌≡◌, ℕ, ◌+◌, ◌<◌, ◌≤◌, Bool, true, false, cond, ltb, leb, List, [], ◌∷◌, length, take, drop, is_ok, Some, None, Ok, Err, Option, Result, sym, refl, ap, ◌∙◌, inl, inr, arith, length-append}
use Rattle.std.specs.List.{AllByRecursion}
use Rattle.std.specs.Option.{option_to_list}
use Rattle.std.proofs.lemmas.List.{take_at}
use Rattle.std.proofs.lemmas.Bool.{cases_Bool, ltb-true, le-leb}
use Rattle.tape.specs.declared.entry.Entry.{Entry}
use Rattle.tape.specs.declared.fault.LogFault.{LogFault}
use Rattle.tape.specs.declared.fault.LogFault.TheVariants.{Party, Short}
use Rattle.tape.specs.Fields.{WellFormed}
use Rattle.tape.specs.Log.{picked, log_of, log_refusal, overwritten, pick_answer, pick_buffer, unless_unknown, first_unknown}
use Rattle.labels.specs.Labels.{Labels, Lawful}
use Rattle.refusal.specs.declared.Refusal.{Refusal}
use Rattle.model.specs.Program.{Program}
use Rattle.model.specs.Rules.{Accepted}
use Rattle.model.specs.Log.{pick}
use Rattle.model.specs.Session.{Call, State, opened, after}
use Rattle.model.specs.Secrecy.{log, Secrecy}
use Rattle.model.proofs.Tapes.{well_formed}
use Rattle.checker.specs.Accepting.{accept_refusal}
use Rattle.checker.specs.Contents.{Contents, holding}
use Rattle.compare.specs.declared.fault.CompareFault.{CompareFault}
use Rattle.compare.specs.declared.fault.CompareFault.TheVariants.{Refused, Memory}
use Rattle.compare.specs.Comparing.{OrMemory, by_pick, by_accept, picked_log, for_party, logged, Compared}

module _ (L : Labels) (q : ℕ) (tape : List Entry) where
  -- a log that was picked is for a party of the order, and all of it was written
  pub picked_whole : (n room : ℕ) → Ok n ≡ pick_answer L q tape room → (n ≡ length (log_of L q tape)) × (q < L.parties)
  picked_whole n room e =
      let t = go (ltb q L.parties) (first_unknown L 0 tape) (leb (length (log_of L q tape)) room) e in
      (t.0, ltb-true q L.parties t.1)
    where
      go : (a : Bool) (o : Option ℕ) (b : Bool) →
          Ok n ≡ cond a (unless_unknown o (cond b (Ok (length (log_of L q tape))) (Err (Short (length (log_of L q tape)))))) (Err (Party q)) → (n ≡ length (log_of L q tape)) × (a ≡ true)
      go true None true h = (cc, refl)
      go true None false h = absurd cc
      go true (Some i) b h = absurd cc
      go false o b h = absurd cc

  pub log_kept : (n room : ℕ) (out new : List Entry) → length out ≡ room → room ≡ length tape → Ok n ≡ pick_answer L q tape (length out) → new ≡ pick_buffer L q tape out →
      Ok (take n new) ≡ picked_log L q tape
  log_kept n room out new a b e w =
      let whole = (picked_whole n (length out) e).0 in
      let here : pick_answer L q tape (length tape) ≡ Ok n = ap (pick_answer L q tape) (sym (a ∙ b)) ∙ sym e in
      let is : new ≡ overwritten (log_of L q tape) out = w ∙ ap (λ (r : Result ℕ LogFault). cond (is_ok r) (overwritten (log_of L q tape) out) out) (sym e) in
      ap (λ (t : List Entry). Ok (take n t)) is
      ∙ ap Ok (take_at (log_of L q tape) (drop (length (log_of L q tape)) out) n (sym whole))
      ∙ sym (ap (λ (r : Result ℕ LogFault). by_pick r (log_of L q tape)) here)

-- of a tape of well-formed entries
module _ (L : Labels) (q : ℕ) where
  all_known : (i : ℕ) (tape : List Entry) → AllByRecursion (WellFormed L) tape → first_unknown L i tape ≡ None
  all_known i [] h = refl
  all_known i (e ∷ tape) h = rw (h.0.numbered, h.0.label) (all_known (i + 1) tape h.1)

  picked_short : (e : Entry) → length (option_to_list (picked L q e)) ≤ 1
  picked_short e = go (picked L q e)
    where
      go : (o : Option Entry) → length (option_to_list o) ≤ 1
      go None = omega arith
      go (Some x) = omega arith

  no_longer : (tape : List Entry) → length (log_of L q tape) ≤ length tape
  no_longer [] = omega arith
  no_longer (e ∷ tape) = omega (arith, no_longer tape, picked_short e, length-append (option_to_list (picked L q e)) (log_of L q tape))

  pub picked_all : (tape : List Entry) → AllByRecursion (WellFormed L) tape → picked_log L q tape ≡ for_party L q (log_of L q tape)
  picked_all tape h =
      elim (cases_Bool (ltb q L.parties)) [
        | inl e ↦ rw (e, all_known 0 tape h, le-leb (length (log_of L q tape)) (length tape) (no_longer tape))
        | inr e ↦ rw e
      ]

module _ (L : Labels) (p : Program) (q : ℕ) where
  -- the log that was picked is that of the session
  pub logged_by : Lawful L → Accepted L p → (cs : List Call) (cells : List ℕ) → picked_log L q (after L p cs (opened p cells)).tape ≡ for_party L q (log L p q cs (opened p cells))
  unfolding pick
  logged_by W A cs cells = picked_all L q _ (well_formed L W p A cells cs)

  -- a log of an accepted program is the party's
  pub logged_is : (cs : List Call) (cells : List ℕ) (es : List Entry) → Ok es ≡ logged L p q cs cells → (es ≡ log L p q cs (opened p cells)) × (q < L.parties)
  logged_is cs cells es e =
      let t = go (accept_refusal L p) (ltb q L.parties) e in
      (t.0, ltb-true q L.parties t.1)
    where
      go : (o : Option Refusal) (b : Bool) → Ok es ≡ by_accept o (cond b (Ok (log L p q cs (opened p cells))) (Err (Refused (log_refusal (Party q))))) →
          (es ≡ log L p q cs (opened p cells)) × (b ≡ true)
      go (Some f) b h = absurd cc
      go None false h = absurd cc
      go None true h = (cc, refl)

  pub compared : Secrecy L p → (cs ds : List Call) (cells cells' : List ℕ) (a b : List Entry) → Ok a ≡ logged L p q cs cells → Ok b ≡ logged L p q ds cells' →
      Compared L p q cs cells ds cells' a b
  compared S cs ds cells cells' a b e f =
      let x = logged_is cs cells a e in
      let y = logged_is ds cells' b f in
      record { first_log = x.0; second_log = y.0; secret = λ alike. S q x.1 cells cells' cs ds alike }

-- a session's tape, by what accept filled and open made
pub session_tape : {O : Type 0} (meaning : O → Labels) (order : O) (p : Program) (cs : List Call) (cells : List ℕ) (x y : Contents O) (s : State) (tape : List Entry) →
    tape ≡ (after (meaning x.order) x.tables cs s).tape → s ≡ opened y.tables cells → x ≡ y → y ≡ holding order p → tape ≡ (after (meaning order) p cs (opened p cells)).tape
session_tape meaning order p cs cells x y s tape e f g h = cc

pub or_memory : {X : Type 0} (r : Result X CompareFault) (P Q : Type 0) → (P → Q) → OrMemory r P → OrMemory r Q
or_memory (Ok x) P Q f h = f h
or_memory (Err (Refused e)) P Q f h = f h
or_memory (Err Memory) P Q f h = tt
