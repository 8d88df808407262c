-- The words of a text, at its first space. Assumes nothing.
use Rattle.std.proofs.Common.{◌≡◌, ◌==◌, ℕ, false, ◌<◌, eqb, List, [], ◌∷◌, ◌++◌, length, get_or, refl, ◌∙◌, inl, inr}
use Rattle.std.specs.List.{All}
use Rattle.std.proofs.lemmas.List.{get_or_default}
use Rattle.std.proofs.lemmas.List.Splits.{slice_split_none, slice_split_at}
use Rattle.std.proofs.lemmas.Bool.{ne_eqb, cases_Bool}
use Rattle.script.specs.Fields.{words_of}

abbrev pub Unspaced : List ℕ → Type 0
Unspaced text = (i : ℕ) → i < length text → get_or text i 0 ≡ 32 → ⊥

unspaced : (text : List ℕ) → Unspaced text → All (λ c. (c == 32) ≡ false) text
unspaced text h k d l = ne_eqb (get_or text k d) 32 (λ e. h k l (get_or_default text k 0 d l ∙ e))

-- with no space a text is one word
pub whole : (text : List ℕ) → Unspaced text → words_of text ≡ text ∷ []
unfolding words_of
whole text h = slice_split_none (λ c. c == 32) text (unspaced text h)

-- the first space ends the first word
pub divided : (word rest : List ℕ) → Unspaced word → words_of (word ++ (32 ∷ rest)) ≡ word ∷ words_of rest
unfolding words_of
divided word rest h = slice_split_at (λ c. c == 32) word 32 rest (unspaced word h) refl

-- a text has a first word
pub first : (text : List ℕ) → (word : List ℕ) × (words : List (List ℕ)) × (words_of text ≡ word ∷ words)
unfolding words_of
first [] = ([], [], refl)
first (c ∷ text) =
    elim (cases_Bool (eqb c 32)) [
      | inl e ↦ ([], words_of text, rw e)
      | inr e ↦ (let t = first text in (c ∷ t.0, t.1, rw (e, t.2)))
    ]
