-- Runs: what was done, joined with what remains to be done, is the whole run. Assumes nothing.
use Rattle.std.proofs.Common.{◌≡◌, ℕ, zero, suc, ◌+◌, ◌-◌, ◌<◌, ◌≤◌, true, false, List, [], ◌∷◌, ◌++◌, length, take, drop, set, sym, refl, ap, ◌∙◌, zero-add, add-one, arith}
use Rattle.std.proofs.lemmas.List.Edits.{sets, sets-eq}
use Rattle.std.proofs.lemmas.List.{append_assoc, append-nil, take_at, drop_at, take-append-drop, length-append, length-take-le, drop-drop}
use Rattle.std.proofs.lemmas.Bool.{cond-true, cond-false, lt-ltb, le-ltb, both_ways}
use Rattle.tape.specs.declared.entry.Entry.{Entry}
use Rattle.tape.specs.Log.{overwritten}
use Rattle.labels.specs.Labels.{Labels}
use Rattle.model.specs.declared.stop.Stop.{Stop}
use Rattle.model.specs.declared.stop.Stop.TheVariants.{Ended, Spent, Full}
use Rattle.model.specs.Program.{Program}
use Rattle.model.specs.Machine.{Config, is_empty, ended, step, written}
use Rattle.model.specs.Session.{Ran, steps, then_ran, stopped}
use Rattle.model.proofs.Bounds.{written_six}
use Rattle.session.specs.Acting.{write_at}
use Rattle.session.specs.Reports.{reported}

pub not_ended : (c : Config) → ended c ≡ false → 0 < length c.stack
unfolding ended
not_ended c e = go c.stack e
  where
    go : (st : List ℕ) → is_empty st ≡ false → 0 < length st
    go [] h = absurd (both_ways true h refl)
    go (x ∷ st) h = omega arith

-- k steps with their entries, and then r
abbrev pub joined_run : ℕ → List Entry → Ran → Ran
joined_run k es r = record { config = r.config; tape = es ++ r.tape; count = k + r.count; stop = r.stop }

pub joined_none : (r : Ran) → joined_run 0 [] r ≡ r
joined_none r = ap (λ (k : ℕ). record { config = r.config; tape = r.tape; count = k; stop = r.stop }) (zero-add r.count)

joined_then : (k : ℕ) (es new : List Entry) (r : Ran) → joined_run k es (then_ran new r) ≡ joined_run (k + 1) (es ++ new) r
joined_then k es new r =
    let f : k + suc r.count ≡ k + 1 + r.count = omega arith in
    let h = append_assoc es new r.tape in
    cc

write_at_sets : (t : List Entry) (at : ℕ) (es : List Entry) → write_at t at es ≡ sets t at es
write_at_sets t at [] = refl
write_at_sets t at (e ∷ es) = rw (add-one at) (write_at_sets (set t at e) (suc at) es)

write_at_is : (t : List Entry) (at : ℕ) (es : List Entry) → at + length es ≤ length t → write_at t at es ≡ take at t ++ es ++ drop (at + length es) t
write_at_is t at es h = write_at_sets t at es ∙ sets-eq es t at h

module _ (t : List Entry) (at : ℕ) (es : List Entry) (h : at + length es ≤ length t) where
  front : length (take at t ++ es) ≡ at + length es
  front = omega (arith, length-append (take at t) es, length-take-le at t (omega arith))

  take_write_at : take (at + length es) (write_at t at es) ≡ take at t ++ es
  take_write_at = ap (take (at + length es)) (write_at_is t at es h) ∙ take_at (take at t ++ es) (drop (at + length es) t) (at + length es) front

  drop_write_at : drop (at + length es) (write_at t at es) ≡ drop (at + length es) t
  drop_write_at = ap (drop (at + length es)) (write_at_is t at es h) ∙ drop_at (take at t ++ es) (drop (at + length es) t) (at + length es) front

-- one step more, before R
more_with : (k at : ℕ) (t t0 new : List Entry) (Q R whole : Ran) → Q ≡ then_ran new R → at + length new ≤ length t
    → drop at t ≡ drop at t0 → joined_run k (take at t) Q ≡ whole
    → (drop (at + length new) (write_at t at new) ≡ drop (at + length new) t0)
    × (joined_run (k + 1) (take (at + length new) (write_at t at new)) R ≡ whole)
more_with k at t t0 new Q R whole next fits kept inv =
    let m = length new in (
      drop_write_at t at new fits ∙ sym (drop-drop m at t) ∙ ap (drop m) kept ∙ drop-drop m at t0,
      ap (λ (x : List Entry). joined_run (k + 1) x R) (take_write_at t at new fits) ∙ sym (joined_then k (take at t) new R)
          ∙ ap (joined_run k (take at t)) (sym next) ∙ inv,
    )

module _ (L : Labels) (p : Program) where
  pub run_ended : (m room : ℕ) (c : Config) → ended c ≡ true → steps L p m room c ≡ stopped Ended c
  unfolding steps
  run_ended zero room c e = cond-true _ _ _ e
  run_ended (suc m) room c e = cond-true _ _ _ e

  pub run_spent : (m room : ℕ) (c : Config) → ended c ≡ false → m ≡ 0 → steps L p m room c ≡ stopped Spent c
  unfolding steps
  run_spent zero room c e h = cond-false _ _ _ e
  run_spent (suc m) room c e h = absurd (omega arith)

  pub run_full : (m room : ℕ) (c : Config) → ended c ≡ false → 0 < m → room < 6 → steps L p m room c ≡ stopped Full c
  unfolding steps
  run_full zero room c e h l = absurd (omega arith)
  run_full (suc m) room c e h l = cond-false _ _ _ e ∙ cond-true _ _ _ (lt-ltb room 6 l)

  pub run_step : (m room : ℕ) (c : Config) → ended c ≡ false → 6 ≤ room
      → steps L p (suc m) room c ≡ then_ran (written L p c) (steps L p m (room - length (written L p c)) (step p c))
  unfolding steps
  run_step m room c e l = cond-false _ _ _ e ∙ cond-false _ _ _ (le-ltb room 6 l)

  -- one step more: what remains to be done is still the same whole
  pub run_more : (n k at next : ℕ) (t t0 new : List Entry) (c c' : Config) (whole : Ran)
      → k < n → 6 ≤ length t - at → ended c ≡ false
      → new ≡ write_at t at (written L p c) → next ≡ at + length (written L p c) → c' ≡ step p c
      → length new ≡ length t → drop at t ≡ drop at t0
      → joined_run k (take at t) (steps L p (n - k) (length t - at) c) ≡ whole
      → (next ≤ length new) × (drop next new ≡ drop next t0)
      × (joined_run (k + 1) (take next new) (steps L p (n - (k + 1)) (length new - next) c') ≡ whole)
  run_more n k at next t t0 new c c' whole less room live wrote moved after long kept inv =
      let es : List Entry = written L p c in
      let few : length es ≤ 6 = written_six L p c.memory c.stack in
      let fits : at + length es ≤ length t = omega arith in
      let left : n - k ≡ suc (n - (k + 1)) = omega arith in
      let rest : length t - at - length es ≡ length new - next = omega arith in
      let more = more_with k at t t0 es (steps L p (n - k) (length t - at) c) (steps L p (n - (k + 1)) (length t - at - length es) (step p c)) whole
      (ap (λ (x : ℕ). steps L p x (length t - at) c) left ∙ run_step (n - (k + 1)) (length t - at) c live room) fits kept inv in (
        omega arith,
        ap (λ (x : ℕ). drop x new) moved ∙ ap (drop (at + length es)) wrote ∙ more.0 ∙ ap (λ (x : ℕ). drop x t0) (sym moved),
        ap (λ (x : ℕ). joined_run (k + 1) (take x new) (steps L p (n - (k + 1)) (length new - next) c')) moved
            ∙ ap (λ (x : List Entry). joined_run (k + 1) (take (at + length es) x) (steps L p (n - (k + 1)) (length new - next) c')) wrote
            ∙ ap (λ (x : Config). joined_run (k + 1) (take (at + length es) (write_at t at es)) (steps L p (n - (k + 1)) (length new - next) x)) after
            ∙ ap (λ (x : ℕ). joined_run (k + 1) (take (at + length es) (write_at t at es)) (steps L p (n - (k + 1)) x (step p c))) (sym rest)
            ∙ more.1,
      )

-- where the loop stops
module _ (t t0 : List Entry) (k at : ℕ) (why : Stop) (c : Config) (rest whole : Ran) (within : at ≤ length t) (kept : drop at t ≡ drop at t0)
    (inv : joined_run k (take at t) rest ≡ whole) (e : rest ≡ stopped why c) where
  all : joined_run k (take at t) (stopped why c) ≡ whole
  all = ap (joined_run k (take at t)) (sym e) ∙ inv

  ahead : take at t ≡ whole.tape
  ahead = sym (append-nil (take at t)) ∙ ap (λ (r : Ran). r.tape) all

  long : at ≡ length whole.tape
  long = sym (length-take-le at t within) ∙ ap length ahead

  pub run_report : record { steps = k; entries = at; stop = why } ≡ reported whole
  run_report =
      let zero_more : k + 0 ≡ k = omega arith in
      let a = sym zero_more ∙ ap (λ (r : Ran). r.count) all in
      let b = ap (λ (r : Ran). r.stop) all in
      λ i. record { steps = a i; entries = long i; stop = b i }

  pub run_config : c ≡ whole.config
  run_config = ap (λ (r : Ran). r.config) all

  pub run_tape : t ≡ overwritten whole.tape t0
  run_tape =
      sym (take-append-drop at t) ∙ (λ i. ahead i ++ kept i) ∙ ap (λ (n : ℕ). whole.tape ++ drop n t0) long
