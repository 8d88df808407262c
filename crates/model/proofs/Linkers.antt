-- The linker of a record, and the places that follow from it. Assumes nothing.
use Rattle.std.proofs.Common.{◌≡◌, ℕ, zero, suc, ◌+◌, ◌-◌, ◌<◌, ◌≤◌, Bool, true, false, cond, ◌||◌, eqb, ◌⊎◌, List, length, get_or, Some, None, Option, sym, refl, ap, ◌∙◌, subst, ⊎_elim, arith}
use Rattle.std.specs.Option.{option_or}
use Rattle.std.proofs.lemmas.Bool.{eq-eqb, or_left, or_right}
use Rattle.sheet.specs.declared.tables.Record.{Record}
use Rattle.refusal.specs.Answers.{first_below}
use Rattle.refusal.proofs.First.{first_none, first_stop}
use Rattle.model.specs.declared.place.Place.{Place}
use Rattle.model.specs.Nesting.{count, links, branches, skip, record_at, times_linked, Linked, Link, next_of, branch_of, link, linker, placed, place_by, place}
use Rattle.model.proofs.Counts.{count_at, count_two}

-- the test of three links at once
none_of : {X : Type 0} (a b c : Bool) (x y : X) → cond a 1 0 + (cond b 1 0 + (cond c 1 0 + 0)) ≡ 0 → cond a (Some x) (cond (b || c) (Some y) None) ≡ None
none_of true b c x y e = absurd (omega arith)
none_of false true c x y e = absurd (omega arith)
none_of false false true x y e = absurd (omega arith)
none_of false false false x y e = refl

second_of : {X : Type 0} (a b c : Bool) (x y : X) → cond a 1 0 + (cond b 1 0 + (cond c 1 0 + 0)) ≤ 1 → (b || c) ≡ true → cond a (Some x) (cond (b || c) (Some y) None) ≡ Some y
second_of true true c x y h e = absurd (omega arith)
second_of true false true x y h e = absurd (omega arith)
second_of true false false x y h e = absurd cc
second_of false b c x y h e = ap (λ t. cond t (Some y) None) e

some_of : (a b c : Bool) → (b || c) ≡ true → 0 < cond a 1 0 + (cond b 1 0 + (cond c 1 0 + 0))
some_of a true c e = omega arith
some_of a false true e = omega arith
some_of a false false e = absurd cc

first_of : (a b c : Bool) → a ≡ true → 0 < cond a 1 0 + (cond b 1 0 + (cond c 1 0 + 0))
first_of true b c e = omega arith
first_of false b c e = absurd cc

-- records count from 1
pub at_index : (rs : List Record) (j : ℕ) → record_at rs (j + 1) ≡ get_or rs j skip
unfolding record_at
at_index rs j = let e : j + 1 ≡ suc j = omega arith in ap (record_at rs) e

few_links : (rs : List Record) → Linked rs → (k j : ℕ) → 2 ≤ j → j ≤ length rs → 1 ≤ k → k ≤ length rs → count j (links (record_at rs k)) ≤ 1
unfolding times_linked record_at
few_links rs well zero j low high some within = absurd (omega arith)
few_links rs well (suc i) j low high some within = omega (arith, count_at j rs i skip (omega arith), well.once j low high)

module _ (rs : List Record) (well : Linked rs) where
  -- where record k links to j, no other record does
  pub the_linker : (j k : ℕ) (x : Link) → 2 ≤ j → j ≤ length rs → 1 ≤ k → k < j → 0 < count j (links (record_at rs k)) → link rs j k ≡ Some x → linker rs j ≡ Some x
  unfolding linker times_linked
  the_linker j zero x low high some below linked is = absurd (omega arith)
  the_linker j (suc k) x low high some below linked is =
      let back : k + 1 ≡ suc k = omega arith in
      let one = well.once j low high in
      let here : record_at rs (suc k) ≡ get_or rs k skip = ap (record_at rs) (sym back) ∙ at_index rs k in
      let linked' : 0 < count j (links (get_or rs k skip)) = subst (λ r. 0 < count j (links r)) here linked in
      let others : (i : ℕ) → i < k → link rs j (i + 1) ≡ None =
      λ i h.
      let two = count_two j rs i k skip h (omega arith) in
      let zero-links : count j (links (record_at rs (i + 1))) ≡ 0 = ap (λ r. count j (links r)) (at_index rs i) ∙ omega arith in
      none_of _ _ _ _ _ zero-links in
      first_stop (λ i. link rs j (i + 1)) x k (j - 1) (omega arith) (first_none (λ i. link rs j (i + 1)) k others) (ap (link rs j) back ∙ is)

-- what was found first was found somewhere
pub found_first : {X : Type 0} (f : ℕ → Option X) (n : ℕ) (x : X) → first_below f n ≡ Some x → (i : ℕ) × (i < n) × (f i ≡ Some x)
found_first f zero x e = absurd cc
found_first f (suc n) x e = go (first_below f n) refl (λ q. found_first f n x q)
  where
    go : (o : _) → first_below f n ≡ o → (first_below f n ≡ Some x → (i : ℕ) × (i < n) × (f i ≡ Some x)) → (i : ℕ) × (i < suc n) × (f i ≡ Some x)
    go None q ih = (n, omega arith, ap (λ o. option_or o (f n)) (sym q) ∙ e)
    go (Some y) q ih =
        let t = ih (q ∙ (ap (λ o. option_or o (f n)) (sym q) ∙ e)) in
        (t.0, omega (arith, t.1), t.2)

abbrev pub source : Link → ℕ
source (next_of k) = k
source (branch_of k) = k

link_source : (a b : Bool) (k : ℕ) (x : Link) → cond a (Some (next_of k)) (cond b (Some (branch_of k)) None) ≡ Some x → source x ≡ k
link_source true b k x e = let z : next_of k ≡ x = cc in ap source (sym z)
link_source false true k x e = let z : branch_of k ≡ x = cc in ap source (sym z)
link_source false false k x e = absurd cc

module _ (rs : List Record) where
  -- a linker is a lower record
  pub lower : (j : ℕ) (x : Link) → linker rs j ≡ Some x → (1 ≤ source x) × (source x < j)
  unfolding linker
  lower j x e =
      let t = found_first (λ i. link rs j (i + 1)) (j - 1) x e in
      let k = t.0 + 1 in
      let r = record_at rs k in
      let s = link_source (eqb r.next j) (eqb (branches r.form).0 j || eqb (branches r.form).1 j) k x t.2 in
      (omega arith, omega (arith, t.1))

  main : Place
  main = record { enclosing = 0; depth = 1 }

  same_placed : (f g : ℕ → Place) (j : ℕ) (o : Option Link) → linker rs j ≡ o → ((k : ℕ) → k < j → f k ≡ g k) → placed f o ≡ placed g o
  same_placed f g j None e h = refl
  same_placed f g j (Some (next_of k)) e h = h k (lower j (next_of k) e).1
  same_placed f g j (Some (branch_of k)) e h = ap (λ (p : Place). record { enclosing = k; depth = p.depth + 1 }) (h k (lower j (branch_of k) e).1)

  first_linker : linker rs 0 ≡ None
  unfolding linker
  first_linker = refl

  turns : (m n k : ℕ) → k ≤ m → k ≤ n → place_by m rs k ≡ place_by n rs k
  turns zero zero k h l = refl
  turns zero (suc n) k h l = let z : 0 ≡ k = omega arith in sym (ap (placed (place_by n rs)) (ap (linker rs) (sym z) ∙ first_linker))
  turns (suc m) zero k h l = let z : 0 ≡ k = omega arith in ap (placed (place_by m rs)) (ap (linker rs) (sym z) ∙ first_linker)
  turns (suc m) (suc n) k h l = same_placed (place_by m rs) (place_by n rs) k (linker rs k) refl (λ i q. turns m n i (omega arith) (omega arith))

  -- a place follows from that of the linker
  pub place_step : (k : ℕ) → 1 ≤ k → place rs k ≡ placed (place rs) (linker rs k)
  unfolding place
  place_step zero h = absurd (omega arith)
  place_step (suc k) h = same_placed (place_by k rs) (λ i. place_by i rs i) (suc k) (linker rs (suc k)) refl (λ i q. turns k i i (omega arith) (omega arith))

  depth_by : (m k : ℕ) → 1 ≤ k → (place_by m rs k).depth ≤ k
  depth_by zero k h = h
  depth_by (suc m) k h = go (linker rs k) refl (λ j l. depth_by m j l)
    where
      go : (o : Option Link) → linker rs k ≡ o → ((j : ℕ) → 1 ≤ j → (place_by m rs j).depth ≤ j) → (placed (place_by m rs) o).depth ≤ k
      go None e ih = h
      go (Some (next_of j)) e ih = let w = lower k (next_of j) e in omega (arith, ih j w.0)
      go (Some (branch_of j)) e ih = let w = lower k (branch_of j) e in omega (arith, ih j w.0)

  pub depth_low : (k : ℕ) → 1 ≤ k → (place rs k).depth ≤ k
  unfolding place
  depth_low k h = depth_by k k h

module _ (rs : List Record) (well : Linked rs) where
  -- next leads to the same place
  pub place_next : (k j : ℕ) → 1 ≤ k → k < j → j ≤ length rs → (record_at rs k).next ≡ j → place rs j ≡ place rs k
  place_next k j low below high is =
      place_step rs j (omega arith)
      ∙ ap (placed (place rs)) (the_linker rs well j k (next_of k) (omega arith) high low below some first)
    where
      t : eqb (record_at rs k).next j ≡ true
      t = eq-eqb _ _ is

      some : 0 < count j (links (record_at rs k))
      some = first_of _ _ _ t

      first : link rs j k ≡ Some (next_of k)
      first = ap (λ b. cond b (Some (next_of k)) (cond (eqb (branches (record_at rs k).form).0 j || eqb (branches (record_at rs k).form).1 j) (Some (branch_of k)) None)) t

  -- a branch stands one deeper
  pub place_branch : (k j : ℕ) → 1 ≤ k → k < j → j ≤ length rs → ((branches (record_at rs k).form).0 ≡ j) ⊎ ((branches (record_at rs k).form).1 ≡ j) → place rs j ≡ record { enclosing = k; depth = (place rs k).depth + 1 }
  place_branch k j low below high is =
      place_step rs j (omega arith)
      ∙ ap (placed (place rs)) (the_linker rs well j k (branch_of k) (omega arith) high low below some second)
    where
      r : Record
      r = record_at rs k

      t : (eqb (branches (record_at rs k).form).0 j || eqb (branches (record_at rs k).form).1 j) ≡ true
      t = ⊎_elim (λ e. or_left _ _ (eq-eqb _ _ e)) (λ e. or_right _ _ (eq-eqb _ _ e)) is

      few : count j (links (record_at rs k)) ≤ 1
      few = few_links rs well k j (omega arith) high low (omega arith)

      some : 0 < count j (links (record_at rs k))
      some = some_of _ _ _ t

      second : link rs j k ≡ Some (branch_of k)
      second = second_of _ _ _ _ _ few t
