-- A run takes its steps one after the other until it must stop. Assumes nothing.
use Rattle.std.proofs.Common.{◌≡◌, ℕ, zero, suc, ◌+◌, ◌-◌, ◌<◌, ◌≤◌, false, ltb, List, ◌++◌, length, refl, ap, inl, inr, arith, length-append}
use Rattle.std.proofs.lemmas.Bool.{cases_Bool, ltb-true, ltb-false}
use Rattle.tape.specs.declared.entry.Entry.{Entry}
use Rattle.labels.specs.Labels.{Labels}
use Rattle.model.specs.declared.stop.Stop.{Stop}
use Rattle.model.specs.declared.stop.Stop.TheVariants.{Ended, Spent, Full}
use Rattle.model.specs.Program.{Program}
use Rattle.model.specs.Machine.{Config, ended, step, written}
use Rattle.model.specs.Session.{Ran, then_ran, stopped, steps}
use Rattle.model.specs.Runs.{advance, trail, StoppedFor, IsRun}

module _ (L : Labels) (p : Program) where
  -- no step was taken
  at_once : (n room : ℕ) (c : Config) (why : Stop) → StoppedFor n room (stopped why c) why → IsRun L p n room c (stopped why c)
  unfolding advance trail
  at_once n room c why h =
      record {
        config = refl;
        tape = refl;
        within = omega arith;
        went_on = λ k l. absurd (omega arith);
        why = h;
      }

  -- a step, and the run after it
  one_more : (n room : ℕ) (c : Config) (r : Ran) → ended c ≡ false → 6 ≤ room → IsRun L p n (room - length (written L p c)) (step p c) r →
      IsRun L p (suc n) room c (then_ran (written L p c) r)
  unfolding advance trail
  one_more n room c r e f ih =
      record {
        config = ih.config;
        tape = ap (λ (t : List Entry). written L p c ++ t) ih.tape;
        within = omega (arith, ih.within);
        went_on = went_on;
        why = why r.stop ih.why;
      }
    where
      went_on : (k : ℕ) → k < suc r.count → (ended (advance p k c) ≡ false) × (length (trail L p k c) + 6 ≤ room)
      went_on zero l = (e, f)
      went_on (suc k) l = let w = ih.went_on k (omega arith) in (w.0, omega (arith, w.1, length-append (written L p c) (trail L p k (step p c))))

      why : (s : Stop) → StoppedFor n (room - length (written L p c)) r s → StoppedFor (suc n) room (then_ran (written L p c) r) s
      why Ended h = h
      why Spent h = (h.0, omega (arith, h.1))
      why Full h = (h.0, omega (arith, h.1), omega (arith, h.2, length-append (written L p c) r.tape))

  pub is_run : (n room : ℕ) (c : Config) → IsRun L p n room c (steps L p n room c)
  unfolding steps
  is_run zero room c =
      elim (cases_Bool (ended c)) [
        | inl e ↦ rw e (at_once zero room c Ended e)
        | inr e ↦ rw e (at_once zero room c Spent (e, refl))
      ]
  is_run (suc n) room c =
      elim (cases_Bool (ended c)) [
        | inl e ↦ rw e (at_once (suc n) room c Ended e)
        | inr e ↦ elim (cases_Bool (ltb room 6)) [
          | inl f ↦ rw (e, f) (at_once (suc n) room c Full (e, omega arith, omega (arith, ltb-true room 6 f)))
          | inr f ↦ rw (e, f) (one_more n room c _ e (ltb-false room 6 f) (is_run n (room - length (written L p c)) (step p c)))
        ]
      ]
