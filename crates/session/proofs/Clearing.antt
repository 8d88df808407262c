-- Cells set to 0 one after the other. Assumes nothing.
use Rattle.std.proofs.Common.{◌≡◌, ℕ, zero, suc, ◌+◌, ◌≤◌, List, [], ◌∷◌, length, take, set, replicate, refl, ap, ◌∙◌, add-one}
use Rattle.std.proofs.lemmas.List.{take-replicate}
use Rattle.model.specs.Program.{Program, cells_needed}
use Rattle.model.specs.Machine.{Memory}
use Rattle.model.specs.Session.{zeroed, opened}

zeroed_suc : (n : ℕ) (cells : List ℕ) → set (zeroed n cells) n 0 ≡ zeroed (suc n) cells
zeroed_suc zero [] = refl
zeroed_suc zero (c ∷ cells) = refl
zeroed_suc (suc n) [] = refl
zeroed_suc (suc n) (c ∷ cells) = ap (λ t. 0 ∷ t) (zeroed_suc n cells)

pub zeroed_more : (n : ℕ) (cells : List ℕ) → set (zeroed n cells) n 0 ≡ zeroed (n + 1) cells
zeroed_more n cells = rw (add-one n) (zeroed_suc n cells)

-- the memory of a newly opened session
pub opened_memory : (p : Program) (cells row : List ℕ) (k : ℕ) → row ≡ zeroed k cells → k ≡ cells_needed p → length p.variables ≤ 64 →
    ◌≡◌ {A = Memory} (record { numbers = take (length p.variables) (replicate 64 0); cells = row }) (opened p cells).config.memory
unfolding opened
opened_memory p cells row k is e few =
    let a = take-replicate (length p.variables) 64 0 few in
    let b : row ≡ zeroed (cells_needed p) cells = is ∙ ap (λ (n : ℕ). zeroed n cells) e in
    λ i. record { numbers = a i; cells = b i }
