-- Lines by their names. Assumes nothing.
use Rattle.std.proofs.Common.{◌≡◌, ℕ, List, [], ◌∷◌, Some, None, sym, refl, ap, ◌∙◌}
use Rattle.std.specs.List.{join_with_byte}
use Rattle.std.specs.Option.{option_map}
use Rattle.std.proofs.lemmas.List.Splits.{join_with_byte-slice_split}
use Rattle.script.specs.Commands.{call, sheet, sheet_of}
use Rattle.script.specs.Fields.{words_of, numbers}
use Rattle.script.proofs.Spaces.{first}

-- with no numbers a call is its name
pub named : (name : List ℕ) (words : List (List ℕ)) → option_map (λ _. call name []) (numbers [] words) ≡ option_map (call name) (numbers [] words)
unfolding numbers
named name [] = refl
named name (word ∷ words) = refl

-- and a text behind its name is too much
pub left_over : (text : List ℕ) → numbers [] (words_of text) ≡ None
unfolding numbers
left_over text = ap (numbers []) (first text).2

-- the words of a text, joined again, are the text
pub sheet_text : (text : List ℕ) → sheet_of (words_of text) ≡ Some (sheet text)
unfolding words_of
sheet_text text =
    let t = first text in
    ap sheet_of t.2 ∙ ap (λ l. Some (sheet l)) (ap (join_with_byte 32) (sym t.2) ∙ join_with_byte-slice_split 32 text)
