-- A step moves the stack as the machine says, and the stack keeps climbing. Assumes nothing.
use Rattle.std.proofs.Common.{◌≡◌, ℕ, zero, suc, ◌<◌, ◌≤◌, Bool, true, false, cond, ◌&&◌, eqb, ltb, leb, ◌⊎◌, List, [], ◌∷◌, length, sym, refl, ap, ◌∙◌, subst, inl, inr, ⊎_elim, arith}
use Rattle.labels.specs.declared.order.LabelOrder as LabelOrder
use Rattle.std.proofs.lemmas.Bool.{and_parts, and_from, or_cases, or_right, eqb-true, ltb-true, leb-true, lt-ltb, le-leb, cond_both}
use Rattle.sheet.specs.declared.tables.Form.{Form}
use Rattle.sheet.specs.declared.tables.Form.TheVariants.{If, While}
use Rattle.sheet.specs.declared.tables.Record.{Record}
use Rattle.model.specs.Nesting.{record_at, branches}
use Rattle.model.specs.Program.{Program}
use Rattle.model.specs.Machine.{Memory, held, holds, onward, stripped}
use Rattle.checker.specs.declared.program.Program as checked
use Rattle.checker.specs.Contents.{contents}
use Rattle.rules.specs.Shape.{link_fits}
use Rattle.session.proofs.StackLaws.{clean_top, stripped_twice}
use Rattle.session.specs.Memories.{records_in}
use Rattle.session.specs.Piles.{piled, moved}
use Rattle.session.proofs.Sound.{few_records, some_record, record_runs, record_links}
use Rattle.session.specs.Acting.{Runs}

pub onward_moved : (p : Program) (r next : ℕ) (f : Form) (m : Memory) (rest : List ℕ) →
    stripped ((moved p r next f m).1 ∷ ((moved p r next f m).0 ∷ rest)) ≡ stripped (onward p r next f m rest)
unfolding stripped
onward_moved p r next (If a first second) m rest = refl
onward_moved p r next (While a body) m rest = go (holds (held p m a 0))
  where
    go : (t : Bool) → stripped ((cond {A = ℕ × ℕ} t (r, body) (next, 0)).1 ∷ ((cond {A = ℕ × ℕ} t (r, body) (next, 0)).0 ∷ rest)) ≡ stripped (cond t (body ∷ (r ∷ rest)) (next ∷ rest))
    go true = refl
    go false = refl
onward_moved p r next f m rest = refl

-- what is put above is a branch, or nothing
above_fits : (p : Program) (r next count : ℕ) (f : Form) (m : Memory) → link_fits count r (branches f).0 ≡ true → link_fits count r (branches f).1 ≡ true → link_fits count r (moved p r next f m).1 ≡ true
above_fits p r next count (If a first second) m g h = cond_both (holds (held p m a 0)) first second (λ l. link_fits count r l ≡ true) (λ _. g) (λ _. h)
above_fits p r next count (While a body) m g h = cond_both (holds (held p m a 0)) (r, body) (next, 0) (λ (t : ℕ × ℕ). link_fits count r t.1 ≡ true) (λ _. g) (λ _. refl)
above_fits p r next count f m g h = refl

-- what takes the place of r is r itself, or the record after it
place_cases : (p : Program) (r next : ℕ) (f : Form) (m : Memory) → ((moved p r next f m).0 ≡ r) ⊎ ((moved p r next f m).0 ≡ next)
place_cases p r next (While a body) m =
    cond_both (holds (held p m a 0)) (r, body) (next, 0) (λ (t : ℕ × ℕ). (t.0 ≡ r) ⊎ (t.0 ≡ next)) (λ _. inl refl) (λ _. inr refl)
place_cases p r next f m = inr refl

-- a link as numbers
Rises : ℕ → ℕ → ℕ → Type 0
Rises count own link = 0 < link → (own < link) × (link ≤ count)

rises : (count own link : ℕ) → link_fits count own link ≡ true → Rises count own link
unfolding Rises
rises count own link h l =
    ⊎_elim (λ e. absurd (omega (arith, eqb-true link 0 e)))
    (λ e. let t = and_parts (ltb own link) (leb link count) e in (ltb-true own link t.0, leb-true link count t.1))
    (or_cases (eqb link 0) (ltb own link && leb link count) h)

test_rises : (count own link : ℕ) → Rises count own link → link_fits count own link ≡ true
unfolding Rises
test_rises count own zero h = refl
test_rises count own (suc k) h =
    let t = h (omega arith) in
    or_right (eqb (suc k) 0) _ (and_from _ _ (lt-ltb own (suc k) t.0) (le-leb (suc k) count t.1))

piled_stripped : (count : ℕ) (s : List ℕ) → piled count s ≡ true → piled count (stripped s) ≡ true
unfolding stripped
piled_stripped count [] h = refl
piled_stripped count (zero ∷ s) h = piled_stripped count s h
piled_stripped count (suc r ∷ s) h = h

-- record n on top of a clean stack that climbs
module _ {A : Type 0} {g : LabelOrder.Ghosts A} (q : checked.Program A g) (st : List ℕ) (n : ℕ) (rest : List ℕ) (r : Record) (on : st ≡ n ∷ rest)
    (is : r ≡ record_at (contents q).tables.records n) (climbs : piled (records_in q) st ≡ true) (clean : stripped st ≡ st) where
  abbrev p : Program
  p = (contents q).tables

  abbrev count : ℕ
  count = records_in q

  parts : (link_fits count (length rest) n ≡ true) × (piled count rest ≡ true)
  parts = and_parts _ _ (ap (piled count) (sym on) ∙ climbs)

  within : (0 < n) × (length rest < n) × (n ≤ count)
  unfolding Rises
  within =
      let live = clean_top n rest (ap stripped (sym on) ∙ clean ∙ on) in
      let t = rises count (length rest) n parts.0 live in
      (live, t.0, t.1)

  pub top_runs : Runs p r.form
  top_runs = let t = within in subst (λ (x : Record). Runs p x.form) (sym is) (record_runs q n t.0 t.2)

  links : (link_fits count n r.next ≡ true) × (link_fits count n (branches r.form).0 ≡ true) × (link_fits count n (branches r.form).1 ≡ true)
  links =
      let t = within in
      subst (λ (x : Record). (link_fits count n x.next ≡ true) × (link_fits count n (branches x.form).0 ≡ true) × (link_fits count n (branches x.form).1 ≡ true)) (sym is)
      (record_links q n t.0 t.2)

  -- what takes its place, and what is put above
  module _ (m : Memory) (place above : ℕ) (moves : (place, above) ≡ moved p n r.next r.form m) where
    above_within : 0 < above → (n < above) × (above ≤ count)
    unfolding Rises
    above_within = rises count n above (ap (λ (t : ℕ × ℕ). link_fits count n t.1) moves ∙ above_fits p n r.next count r.form m links.1 links.2)

    place_within : 0 < place → (length rest < place) × (place ≤ count)
    unfolding Rises
    place_within h =
        let t = within in
        let is_place : place ≡ (moved p n r.next r.form m).0 = ap (λ (t : ℕ × ℕ). t.0) moves in
        ⊎_elim (λ e. omega (arith, e, t))
        (λ e. let l : 0 < r.next = omega (arith, e) in omega (arith, e, t, rises count n r.next links.0 l))
        (place_cases p n r.next r.form m)

    -- room for one more
    pub room : 0 < above → length st < 512
    room h = omega (arith, above_within h, within, few_records q, ap length on)

    pub still_climbs : piled count (stripped (above ∷ (place ∷ rest))) ≡ true
    unfolding Rises
    still_climbs =
        let t = within in
        piled_stripped count (above ∷ (place ∷ rest))
        (and_from _ _ (test_rises count (suc (length rest)) above (λ h. omega (arith, above_within h, t)))
        (and_from _ _ (test_rises count (length rest) place place_within) parts.1))

-- what was stripped has no zero on top
pub still_clean : (st s : List ℕ) → st ≡ stripped s → stripped st ≡ st
still_clean st s e = ap stripped e ∙ stripped_twice s ∙ sym e

-- record 1 alone
pub first_climbs : {A : Type 0} {g : LabelOrder.Ghosts A} (q : checked.Program A g) (st : List ℕ) → st ≡ 1 ∷ [] → piled (records_in q) st ≡ true
unfolding Rises
first_climbs q st e = ap (piled (records_in q)) e ∙ and_from _ _ (test_rises (records_in q) 0 1 (λ h. (omega arith, some_record q))) refl

pub first_clean : (st : List ℕ) → st ≡ 1 ∷ [] → stripped st ≡ st
unfolding stripped
first_clean st e = ap stripped e ∙ sym e
