-- The first refusal of a row of tests, as a search from the front finds it. Assumes nothing.
use Rattle.std.proofs.Common.{◌≡◌, ℕ, ◌<◌, ◌≤◌, Bool, cond, not, ltb, List, length, get_or, Ok, Err, Some, None, Option, Result, MatchOption, sym, ap, ◌∙◌, ⊎_elim, arith}
use Rattle.std.specs.List.{position_or_len}
use Rattle.std.specs.Option.{option_map}
use Rattle.std.proofs.lemmas.List.Sums.{fails_before_first, passes_at_first}
use Rattle.std.proofs.lemmas.Bool.{lt-ltb, le-ltb, cases_lt, not-false, not-true}
use Rattle.refusal.specs.Answers.{expect, first_below, answer}
use Rattle.refusal.proofs.First.{first_none, first_stop, passes}

-- the first index at which p passes, as `position` answers it
abbrev pub Found : {X : Type 0} → (X → Bool) → List X → Option ℕ → Type 0
Found p xs o = o ≡ cond (ltb (position_or_len p xs) (length xs)) (Some (position_or_len p xs)) None

-- the fault of the index found, as `map_or` answers it
pub told : {F : Type 0} (fault : ℕ → F) (o : Option ℕ) (q : Option F) (r : Result (Unit {0}) F) (Post : ℕ → Type 0) → MatchOption o (r ≡ Ok tt) Post → ((j : ℕ) → Post j → r ≡ Err (fault j)) →
    option_map fault o ≡ q → r ≡ answer q tt
told fault None q r Post m is e = m ∙ ap (λ q. answer q tt) e
told fault (Some j) q r Post m is e = is j m ∙ ap (λ q. answer q tt) e

module _ {X F : Type 0} (p : X → Bool) (b : ℕ → Bool) (fault : ℕ → F) (xs : List X) (d : X) (is : (j : ℕ) → j < length xs → not (b j) ≡ p (get_or xs j d)) where
  abbrev at : ℕ
  at = position_or_len p xs

  abbrev first : ℕ → Option F
  first n = first_below (λ j. expect (b j) (fault j)) n

  clear : (n : ℕ) → n ≤ at → n ≤ length xs → first n ≡ None
  clear n h k =
      first_none _ n
      (λ j l. let early : j < at = omega arith in passes (b j) (fault j) (not-false (b j) (is j (omega arith) ∙ fails_before_first p xs j d early)))

  found : first (length xs) ≡ option_map fault (cond (ltb at (length xs)) (Some at) None)
  found =
      ⊎_elim
      (λ (below : at < length xs).
      first_stop _ (fault at) at (length xs) below (clear at (omega arith) (omega arith)) (ap (λ t. expect t (fault at)) (not-true (b at) (is at below ∙ passes_at_first p xs d below)))
      ∙ sym (ap (λ t. option_map fault (cond t (Some at) None)) (lt-ltb at (length xs) below)))
      (λ (past : length xs ≤ at). clear (length xs) past (omega arith) ∙ sym (ap (λ t. option_map fault (cond t (Some at) None)) (le-ltb at (length xs) past)))
      (cases_lt at (length xs))

  pub first_at : (n : ℕ) → length xs ≡ n → (o : Option ℕ) → Found p xs o → option_map fault o ≡ first n
  first_at n long o e = ap (option_map fault) e ∙ sym found ∙ ap first long
