-- Each record stands at one place. Assumes nothing.
use Rattle.std.proofs.Common.{◌≡◌, ℕ, ◌+◌, ◌≤◌, List, length, sym, subst, inl, inr, arith}
use Rattle.sheet.specs.declared.tables.Record.{Record}
use Rattle.model.specs.declared.place.Place.{Place}
use Rattle.model.specs.Nesting.{Linked, place, Stands, first, next, branch, StandsOnce}
use Rattle.checker.proofs.Walks.{To, on_next, on_branch}
use Rattle.checker.proofs.Reaches.{along}
use Rattle.model.proofs.Places.{main_place}

module _ (rs : List Record) (some : 1 ≤ length rs) (well : Linked rs) where
  only : {k : ℕ} {p : Place} → Stands rs k p → (1 ≤ k) × (k ≤ length rs) × (p ≡ place rs k)
  only first = (omega arith, some, sym (main_place rs))
  only (next {k} {p} j low s e) =
      let h = only s in
      let o = on_next rs well k j h.0 h.1 p h.2 e in
      (low, o.1, o.2 low)
  only (branch {k} {p} j low s e) =
      let h = only s in
      let o = on_branch rs well k j h.0 h.1 p h.2 e in
      (low, o.1, o.2 low)

  by_link : (k j : ℕ) → 1 ≤ j → To rs k j → Stands rs k (place rs k) → (p : Place) × Stands rs j p
  by_link k j low (inl e) s = (place rs k, next j low s e)
  by_link k j low (inr e) s = (record { enclosing = k; depth = (place rs k).depth + 1 }, branch j low s e)

  at : (k : ℕ) → 1 ≤ k → k ≤ length rs → Stands rs k (place rs k)
  at =
      along rs well (λ k. Stands rs k (place rs k)) (subst (Stands rs 1) (sym (main_place rs)) first)
      (λ k j low some to s. let q = by_link k j some to s in subst (Stands rs j) (only q.1).2 q.1)

pub one_place : (rs : List Record) → Linked rs → (k : ℕ) → 1 ≤ k → k ≤ length rs → StandsOnce rs k
one_place rs well k low high =
    let some : 1 ≤ length rs = omega arith in
    (at rs some well k low high, λ p s. (only rs some well s).2)
