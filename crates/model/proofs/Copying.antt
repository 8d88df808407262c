-- Oram copies the whole array, and touches nothing else. Assumes nothing.
use Rattle.std.proofs.Common.{◌≡◌, ℕ, zero, suc, ◌<◌, ◌≤◌, true, ◌≢◌, sym, ◌∙◌, inl, inr, arith}
use Rattle.std.proofs.lemmas.Bool.{cases_eq}
use Rattle.model.specs.Program.{Program, IsVariable, length_of}
use Rattle.model.specs.Machine.{Memory, inside, held, copied}
use Rattle.model.specs.Copies.{OramCopies}
use Rattle.model.proofs.Typing.{ArrayAt}
use Rattle.model.proofs.Memory.{Sized, held_put_same, held_put_other, copied_sized}
use Rattle.model.proofs.Steps.{array_inside}

module _ (p : Program) (m : Memory) (x a : ℕ) (hx : ArrayAt p x) (z : Sized p m) where
  lies : (i : ℕ) → i < length_of p.variables x → inside p x i ≡ true
  lies i h = array_inside p x i hx.1.0 hx.1.1 h

  copied_cell : (n i : ℕ) → n ≤ length_of p.variables x → i < n → held p (copied p m x a n) x i ≡ held p m a i
  unfolding copied
  copied_cell zero i h l = absurd (omega arith)
  copied_cell (suc n) i h l =
      elim (cases_eq n i) [
        | inl e ↦ rw (← e) (held_put_same p (copied p m x a n) x n (held p m a n) (copied_sized p m x a n z) hx.0 (lies n h))
        | inr ne ↦
            held_put_other p (copied p m x a n) x n (held p m a n) x i hx.0 hx.0 (lies n h) (lies i (omega arith)) (λ _. ne)
            ∙ copied_cell n i (omega arith) (let apart : n ≢ i = ne in omega arith)
      ]

  other_cell : (n v i : ℕ) → n ≤ length_of p.variables x → IsVariable p v → inside p v i ≡ true → v ≢ x → held p (copied p m x a n) v i ≡ held p m v i
  unfolding copied
  other_cell zero v i h hv hi ne = sym (λ _. held p m v i)
  other_cell (suc n) v i h hv hi ne =
      held_put_other p (copied p m x a n) x n (held p m a n) v i hx.0 hv (lies n h) hi (λ e. absurd (ne (sym e)))
      ∙ other_cell n v i (omega arith) hv hi ne

pub oram_copies : (p : Program) → OramCopies p
oram_copies p x a m hx is numbers cells =
    let z : Sized p m = record { numbers = numbers; cells = cells } in
    record {
      copied = λ i h. copied_cell p m x a (hx, is) z (length_of p.variables x) i (omega arith) h;
      others = λ v i hv hi ne. other_cell p m x a (hx, is) z (length_of p.variables x) v i (omega arith) hv hi ne;
    }
