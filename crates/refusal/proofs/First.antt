-- The first refusal below an index. Assumes nothing.
use Rattle.std.proofs.Common.{◌≡◌, ℕ, zero, suc, ◌+◌, ◌<◌, ◌≤◌, Bool, true, false, Some, None, Option, refl, ap, ◌∙◌, subst, ⊎_elim, add-one, arith}
use Rattle.std.specs.Option.{option_or}
use Rattle.std.proofs.lemmas.Bool.{cases_lt}
use Rattle.refusal.specs.Answers.{expect, first_below}

pub both_none : {X : Type 0} (o p : Option X) → option_or o p ≡ None → (o ≡ None) × (p ≡ None)
both_none None p e = (refl, e)
both_none (Some x) p e = absurd cc

module _ {X : Type 0} (f : ℕ → Option X) where
  pub first_clear : (n : ℕ) → first_below f n ≡ None → f n ≡ None → first_below f (n + 1) ≡ None
  first_clear n p q = rw (add-one n, p) q

  -- a refusal stays the first one
  first_stays : (x : X) (m n : ℕ) → m ≤ n → first_below f m ≡ Some x → first_below f n ≡ Some x
  first_stays x m zero h e = let z : m ≡ 0 = omega arith in subst (λ k. first_below f k ≡ Some x) z e
  first_stays x m (suc n) h e =
      ⊎_elim
      (λ lt. ap (λ o. option_or o (f n)) (first_stays x m n (omega arith) e))
      (λ ge. let z : m ≡ suc n = omega arith in subst (λ k. first_below f k ≡ Some x) z e)
      (cases_lt m (suc n))

  pub first_stop : (x : X) (m n : ℕ) → m < n → first_below f m ≡ None → f m ≡ Some x → first_below f n ≡ Some x
  first_stop x m n h e is = first_stays x (suc m) n h (ap (λ o. option_or o (f m)) e ∙ is)

  pub first_none : (n : ℕ) → ((k : ℕ) → k < n → f k ≡ None) → first_below f n ≡ None
  first_none zero h = refl
  first_none (suc n) h = ap (λ o. option_or o (f n)) (first_none n (λ k l. h k (omega arith))) ∙ h n (omega arith)

  pub none_first : (n : ℕ) → first_below f n ≡ None → (k : ℕ) → k < n → f k ≡ None
  none_first zero e k h = absurd (omega arith)
  none_first (suc n) e k h =
      let b = both_none (first_below f n) (f n) e in
      ⊎_elim (λ lt. none_first n b.0 k lt) (λ ge. let z : n ≡ k = omega arith in subst (λ i. f i ≡ None) z b.1) (cases_lt k n)

-- a test that passed, and one that passes
pub passed : {F : Type 0} (b : Bool) (f : F) → expect b f ≡ None → b ≡ true
passed true f e = refl
passed false f e = absurd cc

pub passes : {F : Type 0} (b : Bool) (f : F) → b ≡ true → expect b f ≡ None
passes b f e = ap (λ t. expect t f) e
