-- Laws of the row of a share bank.
use Rattle.std.proofs.Common.{◌≡◌, ℕ, zero, suc, ◌+◌, ◌*◌, ◌/◌, ◌%◌, ◌<◌, List, [], ◌∷◌, length, get_or, set, sym, refl, ap, ◌∙◌, arith}
use lib.Bits.{bit_xor, xor_comm, xor_assoc, xor_self}
use Rattle.banks.specs.Shares.{joined_cells, next_pad}

pub length_joined : (ws : List ℕ) → length (joined_cells ws) ≡ length ws / 2
length_joined [] = refl
length_joined (l ∷ []) = refl
length_joined (l ∷ (r ∷ ws)) = let e = length_joined ws in omega arith

twice_suc : (i : ℕ) → 2 * suc i ≡ suc (suc (2 * i))
twice_suc i = omega arith

twice_suc_one : (i : ℕ) → suc (suc (2 * i)) + 1 ≡ suc (suc (2 * i + 1))
twice_suc_one i = omega arith

pub cell_of_joined : (ws : List ℕ) (i : ℕ) → i < length ws / 2 → get_or (joined_cells ws) i 0 ≡ bit_xor (get_or ws (2 * i) 0) (get_or ws (2 * i + 1) 0)
cell_of_joined [] i h = absurd (omega arith)
cell_of_joined (l ∷ []) i h = absurd (omega arith)
cell_of_joined (l ∷ (r ∷ ws)) zero h = refl
cell_of_joined (l ∷ (r ∷ ws)) (suc i) h = rw (twice_suc i, twice_suc_one i) (cell_of_joined ws i (omega arith))

joined_set : (ws : List ℕ) (i a b : ℕ) → i < length ws / 2 → joined_cells (set (set ws (2 * i) a) (2 * i + 1) b) ≡ set (joined_cells ws) i (bit_xor a b)
joined_set [] i a b h = absurd (omega arith)
joined_set (l ∷ []) i a b h = absurd (omega arith)
joined_set (l ∷ (r ∷ ws)) zero a b h = refl
joined_set (l ∷ (r ∷ ws)) (suc i) a b h = rw (twice_suc i, twice_suc_one i) (ap (λ t. bit_xor l r ∷ t) (joined_set ws i a b (omega arith)))

-- a pad is taken off again
xor_pad : (p v : ℕ) → bit_xor p (bit_xor v p) ≡ v
xor_pad p v = ap (bit_xor p) (xor_comm v p) ∙ sym (xor_assoc p p v) ∙ ap (λ z. bit_xor z v) (xor_self p)

pub joined_put : (ws : List ℕ) (i p v : ℕ) → i < length ws / 2 → joined_cells (set (set ws (2 * i) p) (2 * i + 1) (bit_xor v p)) ≡ set (joined_cells ws) i v
joined_put ws i p v h = joined_set ws i p (bit_xor v p) h ∙ ap (set (joined_cells ws) i) (xor_pad p v)

-- the product may be reduced before the sum
pub pad_step : (p : ℕ) → ((p * 1664525) % 4294967296 + 1013904223) % 4294967296 ≡ next_pad p
pad_step p = omega arith
