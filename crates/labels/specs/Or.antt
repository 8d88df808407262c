-- Two laws of the bitwise or: it is associative, and it takes in what is below a row of ones. Assumes nothing.
use Rattle.std.specs.Prelude.{◌≡◌, ℕ, ◌-◌, ◌^◌, ◌<◌, bit_or}
use Rattle.std.proofs.Common.{arith, mod-eq_of_lt}
use Rattle.std.proofs.lemmas.Nat.{and_mask}
use Rattle.std.proofs.lemmas.Nat.Bits.{same_from_bits, bit_at_or}
use Rattle.std.specs.Int.Bits.{or_add_and}

pub or_assoc : (a b c : ℕ) → bit_or (bit_or a b) c ≡ bit_or a (bit_or b c)
or_assoc a b c = same_from_bits _ _ (λ i. simp bit_at_or (omega arith))

pub or_ones : (m k : ℕ) → m < 2 ^ k → bit_or m (2 ^ k - 1) ≡ 2 ^ k - 1
or_ones m k h = omega (arith, or_add_and m (2 ^ k - 1), and_mask m k, mod-eq_of_lt h)
