-- A session's calls: before the accepted start nothing is written, after it the runs are pieces of one run.
use Rattle.std.proofs.Common.{◌≡◌, ℕ, ◌+◌, ◌<◌, true, false, ◌⊎◌, List, [], ◌∷◌, ◌++◌, length, Some, None, Ok, Option, sym, refl, ap, ◌∙◌, ap₂, inl, inr, length-set}
use lib.ListN.{length-replicate}
use Rattle.std.proofs.lemmas.Bool.{cases_Bool, ltb-false, lt-ltb, le-ltb}
use Rattle.sheet.specs.declared.tables.Kind.{Kind}
use Rattle.sheet.specs.declared.tables.Kind.TheVariants.{Number, Array}
use Rattle.tape.specs.declared.entry.Entry.{Entry}
use Rattle.model.specs.declared.fault.SessionFault.{SessionFault}
use Rattle.model.specs.declared.fault.SessionFault.TheVariants.{BankTooSmall, Started, NotStarted}
use Rattle.labels.specs.Labels.{Labels, Open}
use Rattle.model.specs.Program.{Program, IsVariable, kind_of, label_of, base, cells_needed}
use Rattle.model.specs.Machine.{Memory, Config, inside, held, put}
use Rattle.model.specs.Session.{State, Call, enter, start, run, look, Done, granted, opened, too_small, has_place, fault, perform, after, looked, at_start, steps}
use Rattle.model.proofs.Memory.{Sized, put_as}
use Rattle.model.specs.Runs.{advance, trail, RunsAreOne}
use Rattle.model.proofs.Tape.{trail_add, advance_add}
use Rattle.model.proofs.Running.{is_run}

pub is_refusal : (o : Option SessionFault) → (o ≡ None) ⊎ ((e : SessionFault) × (o ≡ Some e))
is_refusal (Some e) = inr (e, refl)
is_refusal None = inl refl

pub perform_refused : (L : Labels) (p : Program) (c : Call) (s : State) (e : SessionFault) → fault L p c s ≡ Some e → perform L p c s ≡ record { state = s; tape = [] }
unfolding perform
perform_refused L p c s e h = rw h

pub perform_granted : (L : Labels) (p : Program) (c : Call) (s : State) → fault L p c s ≡ None → perform L p c s ≡ granted L p c s
unfolding perform
perform_granted L p c s h = rw h

-- what a call, or a list of them, did was k steps from c
pub record Went (L : Labels) (p : Program) (c : Config) (d : Done) : Type 0 where
  pub count : ℕ
  pub tape : d.tape ≡ trail L p count c
  pub config : d.state.config ≡ advance p count c
  pub started : d.state.started ≡ true

went_nowhere : (L : Labels) (p : Program) (s : State) → s.started ≡ true → Went L p s.config (record { state = s; tape = [] })
unfolding trail advance
went_nowhere L p s h = record { count = 0; tape = refl; config = refl; started = h }

started_enter : (L : Labels) (p : Program) (q v i k : ℕ) (s : State) → s.started ≡ true → (e : SessionFault) × (fault L p (enter q v i k) s ≡ Some e)
unfolding fault
started_enter L p q v i k s h = elim (cases_Bool (too_small p s)) [ inl t ↦ (BankTooSmall, rw t) | inr t ↦ (Started, rw (t, h)) ]

started_start : (L : Labels) (p : Program) (s : State) → s.started ≡ true → (e : SessionFault) × (fault L p start s ≡ Some e)
unfolding fault
started_start L p s h = elim (cases_Bool (too_small p s)) [ inl t ↦ (BankTooSmall, rw t) | inr t ↦ (Started, rw (t, h)) ]

waiting_run : (L : Labels) (p : Program) (n room : ℕ) (s : State) → s.started ≡ false → (e : SessionFault) × (fault L p (run n room) s ≡ Some e)
unfolding fault
waiting_run L p n room s h = (NotStarted, rw h)

look_same : (L : Labels) (p : Program) (q v i : ℕ) (s : State) → perform L p (look q v i) s ≡ record { state = s; tape = [] }
look_same L p q v i s =
    elim (is_refusal (fault L p (look q v i) s)) [
      | inl e ↦ perform_granted L p (look q v i) s e
      | inr e ↦ perform_refused L p (look q v i) s e.0 e.1
    ]

perform_started : (L : Labels) (p : Program) (c : Call) (s : State) → s.started ≡ true → Went L p s.config (perform L p c s)
perform_started L p (enter q v i k) s h =
    let e = started_enter L p q v i k s h in
    rw (perform_refused L p (enter q v i k) s e.0 e.1) (went_nowhere L p s h)
perform_started L p start s h =
    let e = started_start L p s h in
    rw (perform_refused L p start s e.0 e.1) (went_nowhere L p s h)
perform_started L p (run n room) s h =
    elim (is_refusal (fault L p (run n room) s)) [
      | inl e ↦
          let k = is_run L p n room s.config in
          rw (perform_granted L p (run n room) s e) (record { count = (steps L p n room s.config).count; tape = k.tape; config = k.config; started = h })
      | inr e ↦ rw (perform_refused L p (run n room) s e.0 e.1) (went_nowhere L p s h)
    ]
perform_started L p (look q v i) s h = rw (look_same L p q v i s) (went_nowhere L p s h)

pub after_started : (L : Labels) (p : Program) (cs : List Call) (s : State) → s.started ≡ true → Went L p s.config (after L p cs s)
unfolding after
after_started L p [] s h = went_nowhere L p s h
after_started L p (c ∷ cs) s h =
    let one = perform_started L p c s h in
    let more = after_started L p cs (perform L p c s).state one.started in
    record {
      count = one.count + more.count;
      tape = ap₂ (λ (x y : List Entry). x ++ y) one.tape (more.tape ∙ ap (λ (d : Config). trail L p more.count d) one.config) ∙ sym (trail_add L p one.count more.count s.config);
      config = more.config ∙ ap (λ (d : Config). advance p more.count d) one.config ∙ sym (advance_add p one.count more.count s.config);
      started = more.started;
    }

-- a session that waits for its start
pub record Fresh (p : Program) (s : State) : Type 0 where
  pub waiting : s.started ≡ false
  pub stack : s.config.stack ≡ 1 ∷ []
  pub numbered : length s.config.memory.numbers ≡ length p.variables

pub opened_fresh : (p : Program) (cells : List ℕ) → Fresh p (opened p cells)
unfolding opened
opened_fresh p cells = record { waiting = refl; stack = refl; numbered = length-replicate (length p.variables) 0 }

put_numbers : (p : Program) (m : Memory) (v i k : ℕ) → length (put p m v i k).numbers ≡ length m.numbers
unfolding put
put_numbers p m v i k = go (kind_of p.variables v)
  where
    go : (t : Kind) → length (put_as t m v (base p v + i) k).numbers ≡ length m.numbers
    go Number = length-set m.numbers v k
    go (Array c) = refl

-- what a list of calls did from a session that waits: it waits still, with nothing on the tape, or an accepted start and then one run
pub record Began (L : Labels) (p : Program) (cs : List Call) (s : State) : Type 0 where
  pub from : State
  pub found : at_start L p cs s ≡ Some from
  pub fresh : Fresh p from
  pub large : too_small p from ≡ false
  pub went : Went L p from.config (after L p cs s)

abbrev pub Before : Labels → Program → List Call → State → Type 0
Before L p cs s = ((at_start L p cs s ≡ None) × ((after L p cs s).tape ≡ []) × ((after L p cs s).state.config.stack ≡ 1 ∷ [])) ⊎ Began L p cs s

-- a call that writes nothing and is no accepted start
before_quiet : (L : Labels) (p : Program) (c : Call) (cs : List Call) (s t : State) → perform L p c s ≡ record { state = t; tape = [] } →
    at_start L p (c ∷ cs) s ≡ at_start L p cs t → Before L p cs t → Before L p (c ∷ cs) s
unfolding after
before_quiet L p c cs s t e a (inl h) = inl (a ∙ h.0, rw e h.1, rw e h.2)
before_quiet L p c cs s t e a (inr b) =
    inr (record {
      from = b.from;
      found = a ∙ b.found;
      fresh = b.fresh;
      large = b.large;
      went = rw e (record { count = b.went.count; tape = b.went.tape; config = b.went.config; started = b.went.started });
    })

start_large : (L : Labels) (p : Program) (s : State) → fault L p start s ≡ None → too_small p s ≡ false
unfolding fault
start_large L p s e =
    elim (cases_Bool (too_small p s)) [
      | inl t ↦ let z : Some (BankTooSmall) ≡ None = rw t at e in cc
      | inr t ↦ t
    ]

pub before_start : (L : Labels) (p : Program) (cs : List Call) (s : State) → Fresh p s → Before L p cs s
unfolding after at_start
before_start L p [] s h = inl (refl, refl, h.stack)
before_start L p (enter q v i k ∷ cs) s h =
    elim (is_refusal (fault L p (enter q v i k) s)) [
      | inl e ↦
          let g = perform_granted L p (enter q v i k) s e in
          let ih = before_start L p cs (granted L p (enter q v i k) s).state (record {
            waiting = h.waiting;
            stack = h.stack;
            numbered = put_numbers p s.config.memory v i k ∙ h.numbered;
          }) in
          before_quiet L p (enter q v i k) cs s (granted L p (enter q v i k) s).state g (rw g) ih
      | inr e ↦
          let g = perform_refused L p (enter q v i k) s e.0 e.1 in
          before_quiet L p (enter q v i k) cs s s g (rw g) (before_start L p cs s h)
    ]
before_start L p (start ∷ cs) s h =
    elim (is_refusal (fault L p start s)) [
      | inl e ↦
          let g = perform_granted L p start s e in
          let w = after_started L p cs (granted L p start s).state refl in
          inr (record {
            from = s;
            found = rw e;
            fresh = h;
            large = start_large L p s e;
            went = rw g (record { count = w.count; tape = w.tape; config = w.config; started = w.started });
          })
      | inr e ↦
          let g = perform_refused L p start s e.0 e.1 in
          before_quiet L p start cs s s g (rw e.1) (before_start L p cs s h)
    ]
before_start L p (run n room ∷ cs) s h =
    let e = waiting_run L p n room s h.waiting in
    let g = perform_refused L p (run n room) s e.0 e.1 in
    before_quiet L p (run n room) cs s s g (rw g) (before_start L p cs s h)
before_start L p (look q v i ∷ cs) s h =
    let g = look_same L p q v i s in
    before_quiet L p (look q v i) cs s s g (rw g) (before_start L p cs s h)

pub runs_are_one : (L : Labels) (p : Program) → RunsAreOne L p
runs_are_one L p cells cs =
    elim (before_start L p cs (opened p cells) (opened_fresh p cells)) [
      | inl n ↦ inl (n.0, n.1)
      | inr b ↦ inr (b.from, b.found, b.went.count, record { tape = b.went.tape; config = b.went.config })
    ]

-- what look answers of a place that the party may read
pub looked_open : (L : Labels) (p : Program) (s : State) (q v i : ℕ) → too_small p s ≡ false → q < L.parties → IsVariable p v → Open L (label_of p.variables v) q → inside p v i ≡ true →
    looked L p s q v i ≡ Ok (held p s.config.memory v i)
unfolding looked fault has_place
looked_open L p s q v i z hq hv ho hi = rw (z, lt-ltb q L.parties hq, lt-ltb v (length p.variables) hv, hi, ho)

pub fresh_sized : (p : Program) (s : State) → Fresh p s → too_small p s ≡ false → Sized p s.config.memory
unfolding too_small
fresh_sized p s h z = record { numbers = h.numbered; cells = ltb-false (length s.config.memory.cells) (cells_needed p) z }

pub sized_large : (p : Program) (s : State) → Sized p s.config.memory → too_small p s ≡ false
unfolding too_small
sized_large p s z = le-ltb (length s.config.memory.cells) (cells_needed p) z.cells
