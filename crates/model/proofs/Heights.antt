-- The stack of an accepted program is at most 16 high, since each record on it stands as deep as it is nested. Assumes nothing.
use Rattle.std.proofs.Common.{◌≡◌, ℕ, zero, suc, ◌≤◌, Bool, true, false, cond, ◌≢◌, List, [], ◌∷◌, length, refl, ap, ◌∙◌, inl, inr, arith}
use Rattle.sheet.specs.declared.tables.Form.{Form}
use Rattle.sheet.specs.declared.tables.Form.TheVariants.{If, While}
use Rattle.labels.specs.Labels.{Labels}
use Rattle.model.specs.Nesting.{branches, record_at}
use Rattle.model.specs.declared.place.Place.{Place}
use Rattle.model.specs.Program.{Program, IsRecord}
use Rattle.model.specs.Rules.{Sound, Accepted, depth}
use Rattle.model.specs.Machine.{Memory, holds, held, onward, stripped, step}
use Rattle.model.specs.Session.{State, Call, run, opened, granted, perform, after}
use Rattle.model.specs.Heights.{LowStack}
use Rattle.model.proofs.Places.{Branch, next_up, branch_up, next_place, branch_place, main_place}
use Rattle.model.specs.Runs.{advance}
use Rattle.model.proofs.Compare.{at}
use Rattle.model.proofs.Running.{is_run}
use Rattle.model.proofs.Calls.{is_refusal, perform_refused, perform_granted}

-- each record on the stack stands as deep as it is nested
abbrev pub Heights : Program → List ℕ → Type 0
Heights p [] = Unit {0}
Heights p (r ∷ rest) = (r ≢ 0 → IsRecord p r × (depth p r ≡ suc (length rest))) × Heights p rest

pub heights_stripped : (p : Program) (st : List ℕ) → Heights p st → Heights p (stripped st)
unfolding stripped
heights_stripped p [] h = h
heights_stripped p (zero ∷ rest) h = heights_stripped p rest h.1
heights_stripped p (suc r ∷ rest) h = h

onward_heights : (p : Program) (f : Form) (r next : ℕ) (m : Memory) (rest : List ℕ) → Heights p (r ∷ rest) →
    (next ≢ 0 → IsRecord p next × (depth p next ≡ suc (length rest))) →
    ((branches f).0 ≢ 0 → IsRecord p (branches f).0 × (depth p (branches f).0 ≡ suc (suc (length rest)))) ×
    ((branches f).1 ≢ 0 → IsRecord p (branches f).1 × (depth p (branches f).1 ≡ suc (suc (length rest)))) →
    Heights p (onward p r next f m rest)
onward_heights p (If a first second) r next m rest h n b = go (holds (held p m a 0))
  where
    go : (t : Bool) → Heights p (cond t first second ∷ (next ∷ rest))
    go true = (b.0, (n, h.1))
    go false = (b.1, (n, h.1))
onward_heights p (While a body) r next m rest h n b = go (holds (held p m a 0))
  where
    go : (t : Bool) → Heights p (cond t (body ∷ (r ∷ rest)) (next ∷ rest))
    go true = (b.0, h)
    go false = (n, h.1)
onward_heights p f r next m rest h n b = (n, h.1)

-- a step keeps that
pub step_heights : (p : Program) → Sound p → (m : Memory) (r : ℕ) (rest : List ℕ) → Heights p (suc r ∷ rest) → Heights p (step p (at m (suc r ∷ rest))).stack
unfolding step
step_heights p s m r rest h =
    let here = h.0 (λ e. omega arith) in
    heights_stripped p _ (onward_heights p (record_at p.records (suc r)).form (suc r) (record_at p.records (suc r)).next m rest h
    (λ ne. let u = next_up p s (suc r) here.0 ne in ((omega arith, u.1), ap (λ (t : Place). t.depth) (next_place p s (suc r) here.0 ne) ∙ here.1))
    (branch _ (inl refl), branch _ (inr refl)))
  where
    branch : (k : ℕ) → Branch p s (suc r) (h.0 (λ e. omega arith)).0 k → k ≢ 0 → IsRecord p k × (depth p k ≡ suc (suc (length rest)))
    branch k is ne =
        let here = h.0 (λ e. omega arith) in
        let u = branch_up p s (suc r) here.0 k is ne in
        ((omega arith, u.1), ap (λ (t : Place). t.depth) (branch_place p s (suc r) here.0 k is ne) ∙ omega (arith, here.1))

pub first_heights : (p : Program) → Sound p → 1 ≤ length p.records → Heights p (1 ∷ [])
first_heights p s h = (λ ne. ((omega arith, h), ap (λ (t : Place). t.depth) (main_place p.records)), tt)

-- a record, if there is one, is on top
abbrev Topped : List ℕ → Type 0
Topped [] = Unit {0}
Topped (zero ∷ rest) = ⊥
Topped (suc r ∷ rest) = Unit {0}

topped : (st : List ℕ) → Topped (stripped st)
unfolding stripped
topped [] = tt
topped (zero ∷ rest) = topped rest
topped (suc r ∷ rest) = tt

record Low (p : Program) (st : List ℕ) : Type 0 where
  heights : Heights p st
  top : Topped st

at_most_16 : (p : Program) → Sound p → (st : List ℕ) → Low p st → length st ≤ 16
at_most_16 p s [] h = omega arith
at_most_16 p s (zero ∷ rest) h = absurd h.top
at_most_16 p s (suc r ∷ rest) h = let here = h.heights.0 (λ e. omega arith) in rw here.1 at (s.shallow (suc r) here.0)

low_advance : (p : Program) → Sound p → (k : ℕ) (m : Memory) (st : List ℕ) → Low p st → Low p (advance p k (at m st)).stack
unfolding advance step
low_advance p s zero m st h = h
low_advance p s (suc k) m [] h = low_advance p s k m [] h
low_advance p s (suc k) m (zero ∷ rest) h = absurd h.top
low_advance p s (suc k) m (suc r ∷ rest) h = low_advance p s k _ _ (record { heights = step_heights p s m r rest h.heights; top = topped _ })

low_call : (L : Labels) (p : Program) → Sound p → (c : Call) (s : State) → Low p s.config.stack → Low p (perform L p c s).state.config.stack
low_call L p S c s h =
    elim (is_refusal _) [
      | inl e ↦ rw (perform_granted L p c s e) (granted_low c)
      | inr e ↦ rw (perform_refused L p c s e.0 e.1) h
    ]
  where
    granted_low : (c : Call) → Low p (granted L p c s).state.config.stack
    granted_low (run n room) = rw (is_run L p n room s.config).config (low_advance p S _ s.config.memory s.config.stack h)
    granted_low c = h

low_after : (L : Labels) (p : Program) → Sound p → (cs : List Call) (s : State) → Low p s.config.stack → Low p (after L p cs s).state.config.stack
unfolding after
low_after L p S [] s h = h
low_after L p S (c ∷ cs) s h = low_after L p S cs (perform L p c s).state (low_call L p S c s h)

pub low_stack : (L : Labels) (p : Program) → Accepted L p → 1 ≤ length p.records → LowStack L p
unfolding opened
low_stack L p A some cells cs =
    at_most_16 p A.shape.sound _ (low_after L p A.shape.sound cs (opened p cells) (record { heights = first_heights p A.shape.sound some; top = tt }))
