-- Copies of arrays. Assumes nothing.
use Rattle.std.proofs.Common.{◌≡◌, ℕ, zero, suc, ◌+◌, ◌<◌, ◌≤◌, ◌≢◌, List, length, get_or, set, refl, ap, ◌∙◌, ⊎_elim, add-one, arith, get_or-set_other}
use Rattle.std.proofs.lemmas.Bool.{cases_order}
use Rattle.model.specs.Program.{Program, length_of, base}
use Rattle.model.specs.Machine.{Memory, held, put, copied}
use Rattle.model.proofs.Memory.{base_ends}
use Rattle.session.specs.Memories.{HasArray}
use Rattle.session.specs.Starts.{first_cells, copied_cells}
use Rattle.session.proofs.Laying.{start_at}

-- a copy leaves what is outside its target
copied_other : (source target n k : ℕ) (cells : List ℕ) → (target ≤ k → target + n ≤ k) → get_or (copied_cells source target n cells) k 0 ≡ get_or cells k 0
copied_other source target zero k cells out = refl
copied_other source target (suc n) k cells out =
    let ne : k ≢ target + n = λ e. omega (arith, e, out (omega (arith, e))) in
    get_or-set_other (copied_cells source target n cells) (target + n) k (get_or cells (source + n) 0) 0 ne
    ∙ copied_other source target n k cells (λ h. omega (arith, out h))

-- one cell more, read from the row as it stands now
pub copied_more : (source target m n : ℕ) (cells : List ℕ) → n < m → (target < source + m → target ≤ source)
    → set (copied_cells source target n cells) (target + n) (get_or (copied_cells source target n cells) (source + n) 0) ≡ copied_cells source target (n + 1) cells
copied_more source target m n cells l apart =
    rw (add-one n)
    (ap (set (copied_cells source target n cells) (target + n))
    (copied_other source target n (source + n) cells (λ h. omega (arith, apart (omega arith)))))

-- array a is copied to array x, from the cells where they start
module _ (p : Program) (starts : List ℕ) (laid : starts ≡ first_cells p) (few : length p.variables ≤ 64) (x a : ℕ) (target : HasArray p x) (source : HasArray p a)
    (n : ℕ) (size : n ≡ length_of p.variables x) where
  from : get_or starts a 0 ≡ base p a
  from = start_at p starts laid a (omega (arith, source))

  to : get_or starts x 0 ≡ base p x
  to = start_at p starts laid x (omega (arith, target))

  -- arrays lie one after the other
  arrays_apart : base p x < base p a + length_of p.variables a → base p x ≤ base p a
  arrays_apart h =
      ⊎_elim (λ e. omega (arith, ap (base p) e))
      (⊎_elim (λ l. absurd (omega (arith, base_ends p a x l (omega (arith, target))))) (λ l. omega (arith, base_ends p x a l (omega (arith, source))))) (cases_order a x)

  pub apart : length_of p.variables x ≡ length_of p.variables a → get_or starts x 0 < get_or starts a 0 + n → get_or starts x 0 ≤ get_or starts a 0
  apart same h = omega (arith, from, to, arrays_apart (omega (arith, h, from, to)))

  copied_is : (m : Memory) (k : ℕ) → ◌≡◌ {A = Memory} (record { numbers = m.numbers; cells = copied_cells (base p a) (base p x) k m.cells }) (copied p m x a k)
  unfolding copied held put
  copied_is m zero = refl
  copied_is m (suc k) =
      let e = target.1.1 in
      let f = source.1.1 in
      rw (← copied_is m k, e, f)

  pub copied_over : (m : Memory) (cells : List ℕ) → cells ≡ copied_cells (get_or starts a 0) (get_or starts x 0) n m.cells
      → ◌≡◌ {A = Memory} (record { numbers = m.numbers; cells = cells }) (copied p m x a (length_of p.variables x))
  copied_over m cells e =
      ap (λ (row : List ℕ). record { numbers = m.numbers; cells = row }) (e ∙ (λ i. copied_cells (from i) (to i) (size i) m.cells))
      ∙ copied_is m (length_of p.variables x)
