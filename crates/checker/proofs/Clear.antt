-- Checks that refuse nothing exactly where what they ask holds. Assumes nothing.
use Rattle.std.proofs.Common.{◌≡◌, ℕ, ◌+◌, ◌-◌, ◌<◌, ◌≤◌, Bool, None, Option, Decides, subst, arith}
use Rattle.std.specs.Option.{option_or}
use Rattle.refusal.specs.Answers.{expect, first_below}
use Rattle.refusal.proofs.First.{both_none, first_none, none_first, passed, passes}
use Rattle.checker.proofs.Joint.{both}

abbrev pub Clears : {F : Type 0} → Option F → Type 0 → Type 0
Clears o P = (o ≡ None → P) × (P → o ≡ None)

pub c_test : {F P : Type 0} (b : Bool) (f : F) → Decides b P → Clears (expect b f) P
c_test b f d = (λ e. d.0 (passed b f e), λ h. passes b f (d.1 h))

pub c_both : {F P Q : Type 0} (o q : Option F) → Clears o P → Clears q Q → Clears (option_or o q) (P × Q)
c_both o q c d = (λ e. let b = both_none o q e in (c.0 b.0, d.0 b.1), λ h. both o q (c.1 h.0) (d.1 h.1))

pub c_below : {F : Type 0} (f : ℕ → Option F) (P : ℕ → Type 0) (n : ℕ) → ((j : ℕ) → Clears (f j) (P j)) → Clears (first_below f n) ((j : ℕ) → j < n → P j)
c_below f P n c = (λ e j h. (c j).0 (none_first f n e j h), λ h. first_none f n (λ j l. (c j).1 (h j l)))

-- counted from a on
pub shifted : (P : ℕ → Type 0) (a n : ℕ) → ((j : ℕ) → j < n → P (j + a)) → (k : ℕ) → a ≤ k → k < n + a → P k
shifted P a n h k low high = let back : k - a + a ≡ k = omega arith in subst P back (h (k - a) (omega arith))
