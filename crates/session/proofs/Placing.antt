-- Cells of arrays. Assumes nothing.
use Rattle.std.proofs.Common.{◌≡◌, ℕ, ◌+◌, ◌<◌, ◌≤◌, Bool, true, false, not, eqb, ltb, List, length, get_or, set, Some, None, Option, is_some, ◌↔◌, refl, sym, ap, ◌∙◌, ⊎_elim, arith}
use Rattle.std.specs.Prelude.{unwrap_or}
use Rattle.std.specs.Int.{from_bool}
use Rattle.std.proofs.lemmas.List.{get_or_past, set_past}
use Rattle.std.proofs.lemmas.Bool.{cases_lt, lt-ltb, le-ltb, ltb-true, and_parts, cond-true, cond-false, true≢false, false≢true}
use Rattle.sheet.specs.declared.tables.Kind.{Kind}
use Rattle.sheet.specs.declared.tables.Kind.TheVariants.{Number, Array}
use Rattle.sheet.specs.declared.tables.Variable.{Variable}
use Rattle.model.specs.Program.{Program, IsVariable, kind_of, length_of, base, variable_at}
use Rattle.model.specs.Rules.{IsNumber, IsArray}
use Rattle.model.specs.Machine.{Memory, inside, held, put, fetched, mark, stored}
use Rattle.model.specs.Session.{has_place}
use Rattle.model.proofs.Memory.{inside_number}
use Rattle.model.proofs.Steps.{array_inside}
use Rattle.model.proofs.Marks.{mark_inside, mark_outside, array_outside}

not_false : (b : Bool) → not b ≡ false → b ≡ true
not_false true h = refl
not_false false h = sym h

-- an index is outside just when it has no cell
pub no_cell : (n i k : ℕ) (r : Option ℕ) → (i < n → r ≡ Some k) → (n ≤ i → r ≡ None) → (none : Bool) → is_some r ≡ not none → (none ≡ true) ↔ (n ≤ i)
no_cell n i k r within beyond none e = (
  λ t. ⊎_elim (λ less. absurd (true≢false (sym (ap is_some (within less)) ∙ e ∙ ap not t))) (λ more. more) (cases_lt i n),
  λ more. not_false none (sym e ∙ ap is_some (beyond more)),
)

-- the mark of an entry, from whether its index was outside
pub mark_told : (p : Program) (v i : ℕ) (b : Bool) → (b ≡ true) ↔ (length_of p.variables v ≤ i) → from_bool b ≡ mark p v i
mark_told p v i true h = sym (mark_outside p v i (h.0 refl))
mark_told p v i false h =
    ⊎_elim (λ less. sym (mark_inside p v i less)) (λ more. absurd (false≢true (h.1 more))) (cases_lt i (length_of p.variables v))

-- an array at index i, whose cell is r if the index is inside; outside, the bank is asked for the cell after its last
module _ (p : Program) (m : Memory) (v i : ℕ) (array : IsArray p v) (r : Option ℕ)
    (within : i < length_of p.variables v → r ≡ Some (base p v + i)) (beyond : length_of p.variables v ≤ i → r ≡ None)
    (size : ℕ) (all : size ≡ length m.cells) (k : ℕ) (asked : k ≡ unwrap_or r size) where
  at_cell : i < length_of p.variables v → k ≡ base p v + i
  at_cell h = asked ∙ ap (λ (o : Option ℕ). unwrap_or o size) (within h)

  after_all : length_of p.variables v ≤ i → length m.cells ≤ k
  after_all h = omega (arith, all, asked ∙ ap (λ (o : Option ℕ). unwrap_or o size) (beyond h))

  held_cell : i < length_of p.variables v → get_or m.cells k 0 ≡ held p m v i
  unfolding held
  held_cell h = let e = array.1 in rw e (ap (λ (x : ℕ). get_or m.cells x 0) (at_cell h))

  put_cell : (value : ℕ) → i < length_of p.variables v → ◌≡◌ {A = Memory} (record { numbers = m.numbers; cells = set m.cells k value }) (put p m v i value)
  unfolding put
  put_cell value h = let e = array.1 in rw e (ap (λ (x : ℕ). record { numbers = m.numbers; cells = set m.cells x value }) (at_cell h))

  pub fetched_cell : get_or m.cells k 0 ≡ fetched p m v i
  unfolding fetched
  fetched_cell =
      ⊎_elim
      (λ less. held_cell less ∙ sym (cond-true _ _ _ (array_inside p v i array.0 array.1 less)))
      (λ more. get_or_past m.cells k 0 (after_all more) ∙ sym (cond-false _ _ _ (array_outside p v i array more)))
      (cases_lt i (length_of p.variables v))

  pub stored_cell : (value : ℕ) → ◌≡◌ {A = Memory} (record { numbers = m.numbers; cells = set m.cells k value }) (stored p m v i value)
  unfolding stored
  stored_cell value =
      ⊎_elim
      (λ less. put_cell value less ∙ sym (cond-true _ _ _ (array_inside p v i array.0 array.1 less)))
      (λ more. ap (λ (row : List ℕ). record { numbers = m.numbers; cells = row }) (set_past m.cells k value (after_all more)) ∙ sym (cond-false _ _ _ (array_outside p v i array more)))
      (cases_lt i (length_of p.variables v))

-- the kind of a variable, and whether there is such a place
module _ (p : Program) (v : ℕ) (t : Variable) (here : t ≡ variable_at p.variables v) where
  kind_is : (k : Kind) → t.kind ≡ k → kind_of p.variables v ≡ k
  kind_is k e = ap (λ (x : Variable). x.kind) (sym here) ∙ e

  pub is_number : t.kind ≡ Number → IsNumber p v
  is_number e = kind_is Number e

  pub is_array : (n : ℕ) → t.kind ≡ Array n → IsArray p v
  is_array n e = (n, kind_is (Array n) e)

  module _ (i : ℕ) (h : v < length p.variables) where
    pub has_number : t.kind ≡ Number → eqb i 0 ≡ has_place p v i
    unfolding has_place inside
    has_number e = rw (lt-ltb v (length p.variables) h, kind_is Number e)

    pub has_array : (n : ℕ) → t.kind ≡ Array n → ltb i n ≡ has_place p v i
    unfolding has_place inside
    has_array n e = rw (lt-ltb v (length p.variables) h, kind_is (Array n) e)

pub has_none : (p : Program) (v i : ℕ) → length p.variables ≤ v → false ≡ has_place p v i
unfolding has_place
has_none p v i h = rw (le-ltb v (length p.variables) h)

-- a place that there is
module _ (p : Program) (v i : ℕ) (has : has_place p v i ≡ true) where
  parts : (ltb v (length p.variables) ≡ true) × (inside p v i ≡ true)
  unfolding has_place
  parts = and_parts _ _ has

  pub there : IsVariable p v
  there = ltb-true _ _ parts.0

  module _ (m : Memory) where
    pub look_number : IsNumber p v → held p m v 0 ≡ held p m v i
    look_number k = ap (held p m v) (sym (inside_number p v i k parts.1))

    pub enter_number : (value : ℕ) → IsNumber p v → put p m v 0 value ≡ put p m v i value
    enter_number value k = ap (λ (j : ℕ). put p m v j value) (sym (inside_number p v i k parts.1))

    pub look_array : fetched p m v i ≡ held p m v i
    unfolding fetched
    look_array = cond-true _ _ _ parts.1

    pub enter_array : (value : ℕ) → stored p m v i value ≡ put p m v i value
    unfolding stored
    enter_array value = cond-true _ _ _ parts.1
