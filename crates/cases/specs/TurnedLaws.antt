-- The order that can be turned is lawful both ways: each law is a test over its labels, which antt computes.
-- Assumes nothing.
use Rattle.std.specs.Prelude.{◌≡◌, ℕ, Bool, true, false, not, ◌&&◌, ◌||◌, nat_eq, nat_lt, refl}
use Rattle.std.proofs.Common.{arith}
use Rattle.std.proofs.lemmas.Bool.{ltb-true, eqb-true, false≢true, and_parts, not-true}
use Rattle.labels.specs.Labels.{Lawful}
use Rattle.labels.specs.Below.{all_below, below}
use Rattle.cases.specs.Turned.{turned_labels, public_of, secret_of}

abbrev known : ℕ → Bool
known l = nat_lt l 2

abbrev flows : Bool → ℕ → ℕ → Bool
flows t = (turned_labels t).flows

abbrev join : Bool → ℕ → ℕ → ℕ
join t = (turned_labels t).join

abbrev opens : Bool → ℕ → ℕ → Bool
opens t = (turned_labels t).opens

-- a test that both values pass
both : (f : Bool → Bool) → (f false && f true) ≡ true → (t : Bool) → f t ≡ true
both f e false = (and_parts (f false) (f true) e).0
both f e true = (and_parts (f false) (f true) e).1

abbrev all_one : (Bool → ℕ → Bool) → Bool → Bool
all_one f t = all_below (f t) 2

abbrev all_two : (Bool → ℕ → ℕ → Bool) → Bool → Bool
all_two f = all_one (λ t m. all_below (f t m) 2)

abbrev all_three : (Bool → ℕ → ℕ → ℕ → Bool) → Bool → Bool
all_three f = all_two (λ t l m. all_below (f t l m) 2)

-- a test that both values pass at every label, every two and every three
one : (f : Bool → ℕ → Bool) → (all_one f false && all_one f true) ≡ true → (t : Bool) (m : ℕ) → known m ≡ true → f t m ≡ true
one f e t m km = below (f t) 2 (both (all_one f) e t) m (ltb-true m 2 km)

two : (f : Bool → ℕ → ℕ → Bool) → (all_two f false && all_two f true) ≡ true →
    (t : Bool) (m n : ℕ) → known m ≡ true → known n ≡ true → f t m n ≡ true
two f e t m n km kn = below (f t m) 2 (one (λ s k. all_below (f s k) 2) e t m km) n (ltb-true n 2 kn)

three : (f : Bool → ℕ → ℕ → ℕ → Bool) → (all_three f false && all_three f true) ≡ true →
    (t : Bool) (l m n : ℕ) → known l ≡ true → known m ≡ true → known n ≡ true → f t l m n ≡ true
three f e t l m n kl km kn = below (f t l m) 2 (two (λ s i j. all_below (f s i j) 2) e t l m kl km) n (ltb-true n 2 kn)

implies : (a b : Bool) → (not a || b) ≡ true → a ≡ true → b ≡ true
implies true b e h = e
implies false b e h = absurd (false≢true h)

pub turned_lawful : (t : Bool) → Lawful (turned_labels t)
turned_lawful t = record {
  one_byte = λ m km. omega (arith, ltb-true m 2 km);
  public_known = both (λ s. known (public_of s)) refl t;
  secret_known = both (λ s. known (secret_of s)) refl t;
  join_known = two (λ s m n. known (join s m n)) refl t;
  reflexive = one (λ s m. flows s m m) refl t;
  transitive = λ l m n kl km kn f g.
      implies _ _ (implies _ _ (three (λ s h i j. not (flows s h i) || (not (flows s i j) || flows s h j)) refl t l m n kl km kn) f) g;
  antisymmetric = λ m n km kn f g.
      eqb-true _ _ (implies _ _ (implies _ _ (two (λ s i j. not (flows s i j) || (not (flows s j i) || nat_eq i j)) refl t m n km kn) f) g);
  public_least = one (λ s m. flows s (public_of s) m) refl t;
  secret_greatest = one (λ s m. flows s m (secret_of s)) refl t;
  join_left = two (λ s m n. flows s m (join s m n)) refl t;
  join_right = two (λ s m n. flows s n (join s m n)) refl t;
  join_least = λ m n u km kn ku f g.
      implies _ _ (implies _ _ (three (λ s h i j. not (flows s h j) || (not (flows s i j) || flows s (join s h i) j)) refl t m n u km kn ku) f) g;
  public_open = λ p h. below (opens t (public_of t)) 1 (both (λ s. all_below (opens s (public_of s)) 1) refl t) p h;
  secret_shut = λ p h.
      not-true _ (below (λ q. not (opens t (secret_of t) q)) 1 (both (λ s. all_below (λ q. not (opens s (secret_of s) q)) 1) refl t) p h);
  open_below = λ m n p km kn h f o.
      implies _ _ (implies _ _ (below (λ q. not (flows t m n) || (not (opens t n q) || opens t m q)) 1
      (two (λ s i j. all_below (λ q. not (flows s i j) || (not (opens s j q) || opens s i q)) 1) refl t m n km kn) p h) f) o;
}
