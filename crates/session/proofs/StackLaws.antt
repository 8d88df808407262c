-- Laws of the stack as a list.
use Rattle.std.proofs.Common.{◌≡◌, ℕ, zero, suc, ◌-◌, ◌<◌, ◌≤◌, Bool, true, false, List, [], ◌∷◌, ◌++◌, length, get_or, take, drop, set, length-set, sym, refl, ap, ◌∙◌, arith}
use Rattle.std.proofs.lemmas.List.{length-reverse, reverse-append, take_all, take_at}
use Rattle.std.proofs.Math.Seq.{take-suc, take-suc-set}
use Rattle.std.specs.List.{refill}
use mathlib.Core.List.{reverse}
use Rattle.session.specs.Stacks.{below_top}
use Rattle.model.specs.Machine.{is_empty, stripped}

pile_push : (xs : List ℕ) (x : ℕ) → reverse (xs ++ x ∷ []) ≡ x ∷ reverse xs
pile_push xs x = reverse-append xs (x ∷ [])

pub pile_top : (xs : List ℕ) → 0 < length (reverse xs) → reverse xs ≡ get_or xs (length xs - 1) 0 ∷ reverse (take (length xs - 1) xs)
pile_top xs h =
    let long : 0 < length xs = omega (arith, length-reverse xs) in
    let n : suc (length xs - 1) ≡ length xs = omega arith in
    let whole : xs ≡ take (length xs - 1) xs ++ get_or xs (length xs - 1) 0 ∷ [] =
    sym (take_all (length xs) xs (omega arith)) ∙ ap (λ (k : ℕ). take k xs) (sym n) ∙ take-suc xs (length xs - 1) 0 (omega arith) in
    ap reverse whole ∙ pile_push (take (length xs - 1) xs) (get_or xs (length xs - 1) 0)

pub below_pile : (xs : List ℕ) → 0 < length (reverse xs) → below_top (reverse xs) ≡ reverse (take (length xs - 1) xs)
below_pile xs h = ap below_top (pile_top xs h)

-- another top
pile_set : (xs : List ℕ) (v : ℕ) → 0 < length (reverse xs) → reverse (set xs (length xs - 1) v) ≡ v ∷ below_top (reverse xs)
pile_set xs v h =
    let long : 0 < length xs = omega (arith, length-reverse xs) in
    let n : suc (length xs - 1) ≡ length xs = omega arith in
    let whole : set xs (length xs - 1) v ≡ take (length xs - 1) xs ++ v ∷ [] =
    sym (take_all (length xs) (set xs (length xs - 1) v) (omega (arith, length-set xs (length xs - 1) v)))
    ∙ ap (λ (k : ℕ). take k (set xs (length xs - 1) v)) (sym n) ∙ take-suc-set xs (length xs - 1) v (omega arith) in
    ap reverse whole ∙ pile_push (take (length xs - 1) xs) v ∙ ap (λ (s : List ℕ). v ∷ s) (sym (below_pile xs h))

-- another top, written through the slice of the entries
pub pile_written : (xs ys : List ℕ) (i v : ℕ) → ys ≡ xs → i ≡ length xs - 1 → 0 < length (reverse xs) →
    reverse (refill (length xs) xs (set ys i v)) ≡ v ∷ below_top (reverse xs)
pile_written xs ys i v same at h =
    let ws : List ℕ = set ys i v in
    let whole : take (length xs) (ws ++ drop (length ws) xs) ≡ ws = take_at ws (drop (length ws) xs) (length xs) (length-set ys i v ∙ ap length same) in
    ap reverse (whole ∙ (λ k. set (same k) (at k) v)) ∙ pile_set xs v h

stripped_cons : (e : ℕ) (s : List ℕ) → 0 < e → stripped (e ∷ s) ≡ e ∷ s
unfolding stripped
stripped_cons zero s h = absurd (omega arith)
stripped_cons (suc e) s h = refl

-- a stack whose top is no zero stays
pub stripped_live : (s below : List ℕ) (top : ℕ) → s ≡ top ∷ below → (top ≡ 0 → ⊥) → s ≡ stripped s
stripped_live s below top e l = e ∙ sym (stripped_cons top below (omega arith)) ∙ ap stripped (sym e)

-- a zero on top is taken off
pub stripped_zero : (s : List ℕ) (top : ℕ) → s ≡ top ∷ below_top s → top ≡ 0 → stripped (below_top s) ≡ stripped s
unfolding stripped
stripped_zero s top e z = sym (ap stripped (e ∙ ap (λ (k : ℕ). k ∷ below_top s) z))

-- nor does an empty one
pub stripped_empty : (s : List ℕ) → is_empty s ≡ true → s ≡ stripped s
unfolding stripped
stripped_empty [] e = refl
stripped_empty (x ∷ s) e = let z : ◌≡◌ {A = Bool} false true = e in cc

-- one more on top, which is no zero
pub pile_over : (new xs s : List ℕ) (w : ℕ) → new ≡ xs ++ w ∷ [] → reverse xs ≡ s → 0 < w → reverse new ≡ stripped (w ∷ s)
pile_over new xs s w e below l = ap reverse e ∙ pile_push xs w ∙ ap (λ (t : List ℕ). w ∷ t) below ∙ sym (stripped_cons w s l)

-- a zero put on top is taken off
pub stripped_none : (w : ℕ) (s : List ℕ) → w ≡ 0 → stripped s ≡ stripped (w ∷ s)
unfolding stripped
stripped_none w s e = rw e

pub stripped_twice : (s : List ℕ) → stripped (stripped s) ≡ stripped s
unfolding stripped
stripped_twice [] = refl
stripped_twice (zero ∷ s) = stripped_twice s
stripped_twice (suc r ∷ s) = refl

length_stripped : (s : List ℕ) → length (stripped s) ≤ length s
unfolding stripped
length_stripped [] = omega arith
length_stripped (zero ∷ s) = let h = length_stripped s in omega arith
length_stripped (suc r ∷ s) = omega arith

-- the top of a clean stack is no zero
pub clean_top : (n : ℕ) (s : List ℕ) → stripped (n ∷ s) ≡ n ∷ s → 0 < n
unfolding stripped
clean_top zero s h = absurd (omega (arith, length_stripped s, ap length h))
clean_top (suc n) s h = omega arith
