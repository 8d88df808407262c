-- The two-party order is lawful: each law is a test over the four labels, which antt computes. Assumes nothing.
use Rattle.std.specs.Prelude.{◌≡◌, ℕ, Bool, true, false, not, ◌||◌, [], nat_eq, nat_lt, slice_index, slice_index_or, refl}
use Rattle.std.proofs.Common.{arith}
use Rattle.std.proofs.lemmas.Bool.{ltb-true, eqb-true, false≢true}
use Rattle.labels.specs.Labels.{Lawful}
use Rattle.labels.specs.Orders.{two_party, two_opens, join_table}
use Rattle.labels.specs.ByJoin.{Semilattice, lawful}
use Rattle.labels.specs.Below.{all_below, below}

abbrev join : ℕ → ℕ → ℕ
join m n = slice_index (slice_index_or join_table m []) n

abbrev known : ℕ → Bool
known l = nat_lt l 4

one : (f : ℕ → Bool) → all_below f 4 ≡ true → (m : ℕ) → known m ≡ true → f m ≡ true
one f e m km = below f 4 e m (ltb-true m 4 km)

two : (f : ℕ → ℕ → Bool) → all_below (λ m. all_below (f m) 4) 4 ≡ true → (m n : ℕ) → known m ≡ true → known n ≡ true → f m n ≡ true
two f e m n km kn = one (f m) (one (λ k. all_below (f k) 4) e m km) n kn

three : (f : ℕ → ℕ → ℕ → Bool) → all_below (λ l. all_below (λ m. all_below (f l m) 4) 4) 4 ≡ true →
    (l m n : ℕ) → known l ≡ true → known m ≡ true → known n ≡ true → f l m n ≡ true
three f e l m n kl km kn = two (f l) (one (λ k. all_below (λ m. all_below (f k m) 4) 4) e l kl) m n km kn

implies : (a b : Bool) → (not a || b) ≡ true → a ≡ true → b ≡ true
implies true b e h = e
implies false b e h = absurd (false≢true h)

two_semilattice : Semilattice known 2 0 3 join two_opens
two_semilattice = record {
  one_byte = λ m km. omega (arith, ltb-true m 4 km);
  public_known = refl;
  secret_known = refl;
  join_known = two (λ m n. known (join m n)) refl;
  idempotent = λ m km. eqb-true _ _ (one (λ k. nat_eq (join k k) k) refl m km);
  commutative = λ m n km kn. eqb-true _ _ (two (λ i j. nat_eq (join i j) (join j i)) refl m n km kn);
  associative = λ l m n kl km kn. eqb-true _ _ (three (λ h i j. nat_eq (join (join h i) j) (join h (join i j))) refl l m n kl km kn);
  public_neutral = λ m km. eqb-true _ _ (one (λ k. nat_eq (join 0 k) k) refl m km);
  secret_absorbing = λ m km. eqb-true _ _ (one (λ k. nat_eq (join k 3) 3) refl m km);
  public_open = λ p h. refl;
  secret_shut = λ p h. refl;
  open_join = λ m n p km kn h o.
      implies _ _ (below (λ q. not (two_opens (join m n) q) || two_opens m q) 2
      (two (λ i j. all_below (λ q. not (two_opens (join i j) q) || two_opens i q) 2) refl m n km kn) p h) o;
}

pub two_party_lawful : Lawful two_party
two_party_lawful = lawful two_semilattice
