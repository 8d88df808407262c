-- Digits two at a time. Assumes nothing.
use Rattle.std.proofs.Common.{◌≡◌, ℕ, ◌%◌, List, [], ◌∷◌, ◌++◌, length, get_or, Some, None, Option, sym, refl, ap, ◌∙◌, append_assoc, arith}
use Rattle.hex_text.specs.Digits.{digit, byte_of, before, bytes_of}

-- bytes in front of others, where those are there
abbrev pub front : List ℕ → Option (List ℕ) → Option (List ℕ)
front bs None = None
front bs (Some more) = Some (bs ++ more)

before_none : (o : Option ℕ) → before o None ≡ None
before_none None = refl
before_none (Some b) = refl

-- an odd number of digits spells nothing
pub odd : (text : List ℕ) → (length text % 2 ≡ 0 → ⊥) → bytes_of text ≡ None
odd [] h = absurd (h refl)
odd (a ∷ []) h = refl
odd (a ∷ (b ∷ text)) h = ap (before (byte_of (digit a) (digit b))) (odd text (λ e. h (omega arith))) ∙ before_none _

pub front_more : (bs : List ℕ) (b : ℕ) (o : Option (List ℕ)) → front bs (before (Some b) o) ≡ front (bs ++ (b ∷ [])) o
front_more bs b None = refl
front_more bs b (Some more) = ap Some (sym (append_assoc bs (b ∷ []) more))

two : (chunk : List ℕ) → length chunk ≡ 2 → chunk ≡ get_or chunk 0 0 ∷ get_or chunk 1 0 ∷ []
two [] h = absurd (omega arith)
two (a ∷ []) h = absurd (omega arith)
two (a ∷ b ∷ []) h = refl
two (a ∷ b ∷ c ∷ more) h = absurd (omega arith)

-- the byte of one more pair
pub pair_more : (all bs text chunk rest : List ℕ) (b : ℕ) → bytes_of all ≡ front bs (bytes_of text) → text ≡ chunk ++ rest → length chunk ≡ 2 → Some b ≡ byte_of (digit (get_or chunk 0 0)) (digit (get_or chunk 1 0)) → bytes_of all ≡ front (bs ++ (b ∷ [])) (bytes_of rest)
pair_more all bs text chunk rest b so_far cut pair is =
    so_far
    ∙ ap (λ l. front bs (bytes_of l)) (cut ∙ ap (λ l. l ++ rest) (two chunk pair))
    ∙ ap (λ o. front bs (before o (bytes_of rest))) (sym is)
    ∙ front_more bs b (bytes_of rest)
