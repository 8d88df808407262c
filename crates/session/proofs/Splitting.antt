-- A run in two pieces is the run in one. Assumes nothing.
use Rattle.std.proofs.Common.{◌≡◌, ℕ, zero, suc, ◌+◌, ◌-◌, ◌<◌, ◌≤◌, ◌≢◌, false, List, length, sym, refl, ap, ◌∙◌, inl, inr, ⊎_elim, append_assoc, arith}
use Rattle.std.proofs.lemmas.Bool.{cases_Bool, cases_lt, cond_both}
use Rattle.tape.specs.declared.entry.Entry.{Entry}
use Rattle.labels.specs.Labels.{Labels}
use Rattle.model.specs.Program.{Program}
use Rattle.model.specs.Machine.{Config, ended, step, written}
use Rattle.model.specs.declared.stop.Stop.TheVariants.{Ended, Spent, Full}
use Rattle.model.specs.Session.{Ran, steps, then_ran, stopped}
use Rattle.session.specs.Pieces.{one_then, InPieces}
use Rattle.session.proofs.Running.{run_ended, run_full, run_step, joined_none}

after_step : (es : List Entry) (a b : Ran) → one_then (then_ran es a) b ≡ then_ran es (one_then a b)
after_step es a b =
    let f : suc a.count + b.count ≡ suc (a.count + b.count) = omega arith in
    let h = append_assoc es a.tape b.tape in
    λ i. record { config = b.config; tape = h i; count = f i; stop = b.stop }

module _ (L : Labels) (p : Program) where
  -- a step that was not stopped by a full tape had room for six entries
  had_room : (m room : ℕ) (c : Config) → ended c ≡ false → (steps L p (suc m) room c).stop ≢ Full → 6 ≤ room
  had_room m room c e h =
      ⊎_elim
      (λ (few : room < 6). absurd (h (ap (λ (r : Ran). r.stop) (run_full L p (suc m) room c e (omega arith) few))))
      (λ (enough : 6 ≤ room). enough)
      (cases_lt room 6)

  -- no step takes no room, and leaves all to what follows
  none_free : (a b : ℕ) (c : Config) → steps L p zero a c ≡ steps L p zero b c
  unfolding steps
  none_free a b c = refl

  none_stays : (first : ℕ) (c : Config) → (steps L p zero first c).config ≡ c
  unfolding steps
  none_stays first c = cond_both (ended c) (stopped Ended c) (stopped Spent c) (λ (x : Ran). x.config ≡ c) (λ _. refl) (λ _. refl)

  none_then : (m first second : ℕ) (c : Config) → one_then (steps L p zero first c) (steps L p m second (steps L p zero first c).config) ≡ steps L p m second c
  unfolding steps
  none_then m first second c =
      cond_both (ended c) (stopped Ended c) (stopped Spent c) (λ (x : Ran). one_then x (steps L p m second x.config) ≡ steps L p m second c)
      (λ _. joined_none (steps L p m second c)) (λ _. joined_none (steps L p m second c))

  -- where no tape gets full, it does not matter how much room there is
  room_free : (m a b : ℕ) (c : Config) → (steps L p m a c).stop ≢ Full → (steps L p m b c).stop ≢ Full → steps L p m a c ≡ steps L p m b c
  room_free zero a b c h k = none_free a b c
  room_free (suc m) a b c h k =
      elim (cases_Bool (ended c)) [
        | inl e ↦ run_ended L p (suc m) a c e ∙ sym (run_ended L p (suc m) b c e)
        | inr e ↦
            let s = run_step L p m a c e (had_room m a c e h) in
            let t = run_step L p m b c e (had_room m b c e k) in
            let deep = room_free m (a - length (written L p c)) (b - length (written L p c)) (step p c)
            (λ f. h (ap (λ (r : Ran). r.stop) s ∙ f)) (λ f. k (ap (λ (r : Ran). r.stop) t ∙ f)) in
            s ∙ ap (then_ran (written L p c)) deep ∙ sym t
      ]

  pub in_pieces : (c : Config) (all room : ℕ) → InPieces L p c all room
  in_pieces c all room zero m first second sum h k w =
      let same : m ≡ all = omega arith in
      none_then m first second c
      ∙ room_free m second room c (λ f. k (ap (λ (d : Config). (steps L p m second d).stop) (none_stays first c) ∙ f)) (λ f. w (ap (λ (i : ℕ). (steps L p i room c).stop) (sym same) ∙ f))
      ∙ ap (λ (k : ℕ). steps L p k room c) same
  in_pieces c all room (suc n) m first second sum h k w =
      elim (cases_Bool (ended c)) [
        | inl e ↦
            ap (λ (x : Ran). one_then x (steps L p m second x.config)) (run_ended L p (suc n) first c e)
            ∙ joined_none (steps L p m second c) ∙ run_ended L p m second c e ∙ sym (run_ended L p all room c e)
        | inr e ↦
            let es = written L p c in
            let last : suc (all - 1) ≡ all = omega arith in
            let whole = ap (λ (i : ℕ). steps L p i room c) last in
            let s = run_step L p n first c e (had_room n first c e h) in
            let t = run_step L p (all - 1) room c e (had_room (all - 1) room c e (λ f. w (ap (λ (r : Ran). r.stop) (sym whole) ∙ f))) in
            let deep = in_pieces (step p c) (all - 1) (room - length es) n m (first - length es) second (omega arith)
            (λ f. h (ap (λ (r : Ran). r.stop) s ∙ f))
            (λ f. k (ap (λ (r : Ran). (steps L p m second r.config).stop) s ∙ f))
            (λ f. w (ap (λ (r : Ran). r.stop) (sym whole ∙ t) ∙ f)) in
            ap (λ (x : Ran). one_then x (steps L p m second x.config)) s
            ∙ after_step es (steps L p n (first - length es) (step p c)) (steps L p m second (steps L p n (first - length es) (step p c)).config)
            ∙ ap (then_ran es) deep ∙ sym t ∙ whole
      ]
