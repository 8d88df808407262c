-- The party-set order of two to eight parties is lawful. Assumes nothing.
use Rattle.std.specs.Prelude.{◌≡◌, ℕ, ◌-◌, ◌/◌, ◌%◌, ◌^◌, ◌<◌, ◌≤◌, Bool, true, false, not, nat_lt, refl}
use Rattle.std.proofs.Common.{sym, ap, ◌∙◌, arith, pow_pos, pow_mono}
use Rattle.std.proofs.Math.Nat.{zero-div}
use Rattle.std.specs.Int.Bits.{bit_or, or_self, or_zero_l}
use Rattle.std.proofs.lemmas.Nat.{or_shr, or_mod, or_lt, or_comm}
use Rattle.std.proofs.lemmas.Nat.Bits.{bit_at_or, bit_at-lt, bit_at_ones}
use Rattle.std.proofs.lemmas.Bool.{eq-eqb, ne_eqb, false≢true, ltb-true, lt-ltb, not-true, not_from_false, not_from_true}
use Rattle.labels.specs.Labels.{Lawful}
use Rattle.labels.specs.Orders.{party_set, shut_out}
use Rattle.labels.specs.ByJoin.{Semilattice, lawful}
use Rattle.labels.specs.Or.{or_assoc, or_ones}

-- a bit of the or is the or of the bits
pub or_bit : (m n p : ℕ) → bit_or m n / 2 ^ p % 2 ≡ bit_or (m / 2 ^ p % 2) (n / 2 ^ p % 2)
or_bit m n p = ap (λ (x : ℕ). x % 2) (or_shr m n p) ∙ or_mod (m / 2 ^ p) (n / 2 ^ p) 1

-- every party is shut out of the secret label
shut_secret : (n p : ℕ) → n ≤ 8 → p < n → shut_out (2 ^ n - 1) p ≡ true
shut_secret n p h q = eq-eqb _ _ (bit_at_ones n p q)

-- a party that is let in by the or is let in by both
shut_below : (m n p : ℕ) → shut_out (bit_or m n) p ≡ false → shut_out m p ≡ false
shut_below m n p e = ne_eqb _ _ (λ one. false≢true (sym e ∙ eq-eqb _ _ (bit_at_or m n p ∙ omega (arith, bit_at-lt m p, bit_at-lt n p))))

module _ (n : ℕ) (few : n ≤ 8) where
  abbrev known : ℕ → Bool
  known l = nat_lt l (2 ^ n)

  set_semilattice : Semilattice known n 0 (2 ^ n - 1) bit_or (λ l k. not (shut_out l k))
  set_semilattice = record {
    one_byte = λ m km. omega (arith, ltb-true m (2 ^ n) km, pow_mono {i = n} {j = 8} few);
    public_known = lt-ltb 0 (2 ^ n) (pow_pos n);
    secret_known = lt-ltb (2 ^ n - 1) (2 ^ n) (omega (arith, pow_pos n));
    join_known = λ l m kl km. lt-ltb (bit_or l m) (2 ^ n) (or_lt n l m (ltb-true l (2 ^ n) kl) (ltb-true m (2 ^ n) km));
    idempotent = λ m _. or_self m;
    commutative = λ l m _ _. or_comm l m;
    associative = λ k l m _ _ _. or_assoc k l m;
    public_neutral = λ m _. or_zero_l m;
    secret_absorbing = λ m km. or_ones m n (ltb-true m (2 ^ n) km);
    public_open = λ p _. rw (zero-div (2 ^ p)) refl;
    secret_shut = λ p h. not_from_true _ (shut_secret n p few h);
    open_join = λ l m p _ _ _ o. not_from_false _ (shut_below l m p (not-true _ o));
  }

  pub party_set_lawful : Lawful (party_set n)
  party_set_lawful = lawful set_semilattice
