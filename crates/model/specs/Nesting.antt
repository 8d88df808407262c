-- How records are linked, and where each stands. Records count from 1. Assumes nothing.
use Rattle.std.specs.Prelude.{◌≡◌, ℕ, zero, suc, ◌+◌, ◌-◌, ◌<◌, ◌≤◌, cond, ◌||◌, ◌⊎◌, List, [], ◌∷◌, length, Some, None, Option, ◌==◌, slice_index_or}
use Rattle.std.specs.List.{flat_map, AllByRecursion}
use Rattle.sheet.specs.declared.tables.Form.{Form}
use Rattle.sheet.specs.declared.tables.Form.TheVariants.{Skip, If, While}
use Rattle.sheet.specs.declared.tables.Record.{Record}
use Rattle.refusal.specs.Answers.{first_below}
use Rattle.model.specs.declared.place.Place.{Place}

-- the branches of an if, the body of a while; zero for none
abbrev pub branches : Form → ℕ × ℕ
branches (If a then other) = (then, other)
branches (While a body) = (body, 0)
branches f = (0, 0)

abbrev pub links : Record → List ℕ
links r = r.next ∷ (branches r.form).0 ∷ (branches r.form).1 ∷ []

abbrev pub skip : Record
skip = record { label = 0; next = 0; form = Skip }

unfoldable pub record_at : List Record → ℕ → Record
record_at rs r = slice_index_or (skip ∷ rs) r skip

-- a link of record k is 0, or above k and within the count
abbrev pub Rises : ℕ → ℕ → ℕ → Type 0
Rises count k link = (link ≡ 0) ⊎ ((k < link) × (link ≤ count))

abbrev pub count : ℕ → List ℕ → ℕ
count k [] = 0
count k (l ∷ ls) = cond (l == k) 1 0 + count k ls

unfoldable pub times_linked : List Record → ℕ → ℕ
times_linked rs k = count k (flat_map links rs)

-- What links to a record
pub data Link : Type 0 where
  next_of : ℕ → Link
  branch_of : ℕ → Link

abbrev pub link : List Record → ℕ → ℕ → Option Link
link rs j k =
    cond ((record_at rs k).next == j) (Some (next_of k))
    (cond ((branches (record_at rs k).form).0 == j || (branches (record_at rs k).form).1 == j) (Some (branch_of k)) None)

-- the lowest record below j that links to j
unfoldable pub linker : List Record → ℕ → Option Link
linker rs j = first_below (λ i. link rs j (i + 1)) (j - 1)

-- next leads to the same place, a branch one deeper
abbrev pub placed : (ℕ → Place) → Option Link → Place
placed at None = record { enclosing = 0; depth = 1 }
placed at (Some (next_of k)) = at k
placed at (Some (branch_of k)) = record { enclosing = k; depth = (at k).depth + 1 }

-- a linker stands lower, so k turns are enough
abbrev pub place_by : ℕ → List Record → ℕ → Place
place_by zero rs k = record { enclosing = 0; depth = 1 }
place_by (suc turns) rs k = placed (place_by turns rs) (linker rs k)

-- where record k stands
unfoldable pub place : List Record → ℕ → Place
place rs k = place_by k rs k

-- links rise (24), and each record from 2 up is linked exactly once (25)
pub record Linked (rs : List Record) : Type 0 where
  pub rises : (k : ℕ) → 1 ≤ k → k ≤ length rs → AllByRecursion (Rises (length rs) k) (links (record_at rs k))
  pub once : (k : ℕ) → 2 ≤ k → k ≤ length rs → times_linked rs k ≡ 1

-- Where records stand, in words: record 1 begins the main chain, which no if or while encloses; the next record stands
-- where its predecessor does; a branch or body stands inside its if or while, one chain deeper.
pub data Stands (rs : List Record) : ℕ → Place → Type 0 where
  first : Stands rs 1 (record { enclosing = 0; depth = 1 })
  next : {k : ℕ} {p : Place} (j : ℕ) → 1 ≤ j → Stands rs k p → (record_at rs k).next ≡ j → Stands rs j p
  branch : {k : ℕ} {p : Place} (j : ℕ) → 1 ≤ j → Stands rs k p → ((branches (record_at rs k).form).0 ≡ j) ⊎ ((branches (record_at rs k).form).1 ≡ j)
      → Stands rs j (record { enclosing = k; depth = p.depth + 1 })

-- record k stands at one place, which is the one computed
abbrev pub StandsOnce : List Record → ℕ → Type 0
StandsOnce rs k = Stands rs k (place rs k) × ((p : Place) → Stands rs k p → p ≡ place rs k)
