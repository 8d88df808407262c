-- The tape of a number of steps, and what pick makes of it.
use Rattle.std.proofs.Common.{◌≡◌, ℕ, zero, suc, ◌+◌, ◌<◌, Bool, true, false, eqb, ◌≢◌, List, [], ◌∷◌, ◌++◌, Some, None, Option, sym, refl, ap, ◌∙◌, inl, inr, append_assoc, append-nil, suc-add, zero-add}
use mathlib.Core.List.{tail-eq_of_cons-eq}
use Rattle.std.proofs.lemmas.Bool.{both_ways, cases_Bool}
use Rattle.sheet.specs.declared.tables.Form.{Form}
use Rattle.sheet.specs.declared.tables.Form.TheVariants.{Skip, Fetch, Store}
use Rattle.tape.specs.declared.entry.Entry.{Entry}
use Rattle.labels.specs.Labels.{Labels, Lawful}
use Rattle.model.specs.Nesting.{record_at}
use Rattle.model.specs.Program.{Program}
use Rattle.model.specs.Machine.{Memory, Config, entries, is_empty, ended, end_if, step, step_at, written, release}
use Rattle.model.specs.Log.{pick, closed, released}
use Rattle.std.specs.Option.{option_to_list}
use Rattle.tape.specs.declared.entry.Kind.{Kind}
use Rattle.tape.specs.declared.entry.Kind.TheVariants.{Instruction, Read, Fetch, Write, Store, Name, Release, End}
use Rattle.tape.specs.Log.{kind_of, secret_view}
use Rattle.model.proofs.Picked.{covered, picked}
use Rattle.model.proofs.Memory.{Sized}
use Rattle.model.proofs.Steps.{act_sized}
use Rattle.model.specs.Runs.{advance, trail}
use Rattle.model.proofs.Compare.{at, body, Parts}

pub advance_add : (p : Program) (j k : ℕ) (c : Config) → advance p (j + k) c ≡ advance p k (advance p j c)
unfolding advance
advance_add p zero k c = rw (zero-add k)
advance_add p (suc j) k c = rw (suc-add j k) (advance_add p j k (step p c))

pub trail_add : (L : Labels) (p : Program) (j k : ℕ) (c : Config) → trail L p (j + k) c ≡ trail L p j c ++ trail L p k (advance p j c)
unfolding advance trail
trail_add L p zero k c = rw (zero-add k)
trail_add L p (suc j) k c =
    rw (suc-add j k)
    (ap (λ (t : List Entry). written L p c ++ t) (trail_add L p j k (step p c))
    ∙ sym (append_assoc (written L p c) (trail L p j (step p c)) (trail L p k (advance p j (step p c)))))

pub pick_append : (L : Labels) (q : ℕ) (xs ys : List Entry) → pick L q (xs ++ ys) ≡ pick L q xs ++ pick L q ys
unfolding pick picked
pick_append L q [] ys = refl
pick_append L q (x ∷ xs) ys = ap (λ (t : List Entry). picked L q x ++ t) (pick_append L q xs ys) ∙ sym (append_assoc (picked L q x) (pick L q xs) (pick L q ys))

pub advance_sized : (p : Program) (k : ℕ) (m : Memory) (st : List ℕ) → Sized p m → Sized p (advance p k (at m st)).memory
unfolding advance step
advance_sized p zero m st z = z
advance_sized p (suc k) m [] z = advance_sized p k m [] z
advance_sized p (suc k) m (r ∷ rest) z = advance_sized p k _ _ (act_sized p (record_at p.records r).form m z)

-- once ended, a run stays so and writes nothing
ended_stays : (L : Labels) (p : Program) (q k : ℕ) (m : Memory) →
    (trail L p k (at m []) ≡ []) × (body L p q k (at m []) ≡ []) × (ended (advance p k (at m [])) ≡ true)
unfolding trail body advance written step ended pick
ended_stays L p q zero m = (refl, refl, refl)
ended_stays L p q (suc k) m = ended_stays L p q k m

pick_end : (L : Labels) (W : Lawful L) (q : ℕ) → q < L.parties → (b : Bool) → pick L q (end_if L b) ≡ end_if L b
unfolding pick picked
pick_end L W q hq true = rw (W.public_open q hq)
pick_end L W q hq false = refl

log_more : (L : Labels) (W : Lawful L) (p : Program) (q : ℕ) → q < L.parties → (k : ℕ) (es : List Entry) (n : Memory) (st : List ℕ) →
    ((t : ℕ) (su : List ℕ) → pick L q (trail L p k (at n (t ∷ su))) ≡ body L p q k (at n (t ∷ su)) ++ end_if L (ended (advance p k (at n (t ∷ su))))) →
    pick L q ((es ++ end_if L (is_empty st)) ++ trail L p k (at n st)) ≡ (pick L q es ++ body L p q k (at n st)) ++ end_if L (ended (advance p k (at n st)))
log_more L W p q hq k es n [] ih =
    let e = ended_stays L p q k n in
    rw (e.0, e.1, e.2, append-nil (es ++ end_if L true), append-nil (pick L q es))
    (pick_append L q es (end_if L true) ∙ ap (λ (t : List Entry). pick L q es ++ t) (pick_end L W q hq true))
log_more L W p q hq k es n (t ∷ st) ih =
    rw (append-nil es)
    (pick_append L q es (trail L p k (at n (t ∷ st)))
    ∙ ap (λ (u : List Entry). pick L q es ++ u) (ih t st)
    ∙ sym (append_assoc (pick L q es) (body L p q k (at n (t ∷ st))) (end_if L (ended (advance p k (at n (t ∷ st)))))))

-- the log of k steps: what they add, and end once the run has ended
pub trail_log : (L : Labels) (W : Lawful L) (p : Program) (q : ℕ) → q < L.parties → (k : ℕ) (m : Memory) (r : ℕ) (rest : List ℕ) →
    pick L q (trail L p k (at m (r ∷ rest))) ≡ body L p q k (at m (r ∷ rest)) ++ end_if L (ended (advance p k (at m (r ∷ rest))))
unfolding trail body advance written step ended pick
trail_log L W p q hq zero m r rest = refl
trail_log L W p q hq (suc k) m r rest =
    log_more L W p q hq k (entries L p r (record_at p.records r).label (record_at p.records r).form m) (step_at p m (r ∷ rest)).memory (step_at p m (r ∷ rest)).stack
    (λ t su. trail_log L W p q hq k (step_at p m (r ∷ rest)).memory t su)

-- Closed logs.

pub closed_append : (xs ys : List Entry) → closed xs ≡ false → closed (xs ++ ys) ≡ closed ys
unfolding closed
closed_append [] ys h = refl
closed_append (x ∷ xs) ys h =
    elim (cases_Bool (eqb x.kind 8)) [
      | inl e ↦ absurd (both_ways true (sym (rw e refl) ∙ h) refl)
      | inr e ↦ rw e (closed_append xs ys (rw e at h))
    ]

closed_covered : (e : Entry) → eqb e.kind 8 ≡ false → closed (covered e) ≡ false
unfolding closed covered
closed_covered e h =
    go (kind_of e.kind)
  where
    go : (k : Option Kind) → closed (option_to_list (secret_view k e)) ≡ false
    go None = refl
    go (Some Instruction) = rw h
    go (Some Read) = refl
    go (Some Fetch) = refl
    go (Some Write) = refl
    go (Some Store) = refl
    go (Some Name) = rw h
    go (Some Release) = refl
    go (Some End) = rw h

closed_picked : (L : Labels) (q : ℕ) (e : Entry) → eqb e.kind 8 ≡ false → closed (picked L q e) ≡ false
unfolding closed picked covered
closed_picked L q e h =
    elim (cases_Bool (L.opens e.label q)) [
      | inl a ↦ rw (a, h)
      | inr a ↦ elim (cases_Bool (eqb e.label L.secret)) [
        | inl b ↦ rw (a, b) (closed_covered e h)
        | inr b ↦ rw (a, b)
      ]
    ]

closed_picks : (L : Labels) (q : ℕ) (es : List Entry) → closed es ≡ false → closed (pick L q es) ≡ false
unfolding closed pick picked
closed_picks L q [] h = refl
closed_picks L q (e ∷ es) h =
    elim (cases_Bool (eqb e.kind 8)) [
      | inl k ↦ absurd (both_ways true (sym (rw k refl) ∙ h) refl)
      | inr k ↦ closed_append (picked L q e) (pick L q es) (closed_picked L q e k) ∙ closed_picks L q es (rw k at h)
    ]

-- no form writes end itself
no_end : (L : Labels) (p : Program) (r l : ℕ) (f : Form) (m : Memory) → closed (entries L p r l f m) ≡ false
unfolding closed
no_end L p r l Skip m = refl
no_end L p r l f m = refl

pub closed_body : (L : Labels) (p : Program) (q k : ℕ) (m : Memory) (st : List ℕ) → closed (body L p q k (at m st)) ≡ false
unfolding body step closed
closed_body L p q zero m st = refl
closed_body L p q (suc k) m [] = closed_append (pick L q []) (body L p q k (at m [])) (closed_picks L q [] refl) ∙ closed_body L p q k m []
closed_body L p q (suc k) m (r ∷ rest) =
    let es = entries L p r (record_at p.records r).label (record_at p.records r).form m in
    closed_append (pick L q es) _ (closed_picks L q es (no_end L p r (record_at p.records r).label (record_at p.records r).form m))
    ∙ closed_body L p q k _ _

pub closed_end : (L : Labels) (b : Bool) → closed (end_if L b) ≡ b
unfolding closed
closed_end L true = refl
closed_end L false = refl

-- Released values.

released_append : (xs ys : List Entry) → released (xs ++ ys) ≡ released xs ++ released ys
unfolding released
released_append [] ys = refl
released_append (x ∷ xs) ys =
    elim (cases_Bool (eqb x.kind 7)) [
      | inl e ↦ rw e (ap (λ (t : List ℕ). x.value ∷ t) (released_append xs ys))
      | inr e ↦ rw e (released_append xs ys)
    ]

released_one : (l v x : ℕ) (es : List Entry) → released (release l v x ∷ es) ≡ x ∷ released es
unfolding released
released_one l v x es = refl

cancel : (zs : List ℕ) (x y : ℕ) (xs ys : List ℕ) → zs ++ (x ∷ xs) ≡ zs ++ (y ∷ ys) → x ≡ y
cancel [] x y xs ys e = cc
cancel (z ∷ zs) x y xs ys e = cancel zs x y xs ys (tail-eq_of_cons-eq e)

-- logs that part at a release have other values released
pub parts_differ : (xs ys : List Entry) → Parts xs ys → released xs ≢ released ys
parts_differ xs ys s e =
    s.differ (cancel (released s.common) s.x s.y (released s.es) (released s.fs)
    (sym (released_of s.x s.es) ∙ sym (ap released s.first) ∙ e ∙ ap released s.second ∙ released_of s.y s.fs))
  where
    released_of : (x : ℕ) (es : List Entry) → released (s.common ++ (release s.label s.variable x ∷ es)) ≡ released s.common ++ (x ∷ released es)
    released_of x es = released_append s.common (release s.label s.variable x ∷ es) ∙ ap (λ (t : List ℕ). released s.common ++ t) (released_one s.label s.variable x es)
