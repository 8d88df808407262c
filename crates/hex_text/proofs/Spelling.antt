-- The text that spells some bytes is read as these bytes. Assumes nothing.
use Rattle.std.proofs.Common.{◌≡◌, ℕ, ◌/◌, ◌%◌, ◌<◌, List, [], ◌∷◌, Some, refl, ap, arith}
use Rattle.std.specs.List.{AllByRecursion}
use Rattle.std.proofs.lemmas.Bool.Decides.{nat_tests}
use Rattle.hex_text.specs.Digits.{digit, bytes_of, character, spelled}

digit_back : (d : ℕ) → d < 16 → digit (character d) ≡ Some d
digit_back d h = grind (arith, nat_tests)

pub read_back : (bs : List ℕ) → AllByRecursion (λ b. b < 256) bs → bytes_of (spelled bs) ≡ Some bs
read_back [] h = refl
read_back (b ∷ bs) h =
    rw (digit_back (b / 16) (omega (arith, h.0)), digit_back (b % 16) (omega arith), read_back bs h.1) (ap (λ n. Some (n ∷ bs)) (omega arith))
