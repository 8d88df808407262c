-- The row of the chosen bank, and what it keeps in its words. Assumes nothing.
use Rattle.std.specs.Prelude.{ℕ, List, Some, None, vec_items, Option, slice_set}
use Rattle.banks.specs.Shares.{joined_cells, split_put, pad_after_put}
use Rattle.choice.specs.declared.bank.AnyBank.{AnyBank}
use Rattle.choice.specs.declared.bank.AnyBank.TheVariants.{Flat, Share}

abbrev pub bank_cells : AnyBank → List ℕ
bank_cells (Flat bank) = vec_items bank.words
bank_cells (Share bank) = joined_cells (vec_items bank.words)

abbrev pub bank_words : AnyBank → List ℕ
bank_words (Flat bank) = vec_items bank.words
bank_words (Share bank) = vec_items bank.words

-- a flat bank has no pad
abbrev pub bank_pad : AnyBank → Option ℕ
bank_pad (Flat bank) = None
bank_pad (Share bank) = Some bank.pad

-- the words and the pad after a put
abbrev pub words_after_put : AnyBank → ℕ → ℕ → List ℕ
words_after_put (Flat bank) i value = slice_set (vec_items bank.words) i value
words_after_put (Share bank) i value = split_put (vec_items bank.words) bank.pad i value

abbrev pub next_pad : AnyBank → ℕ → Option ℕ
next_pad (Flat bank) i = None
next_pad (Share bank) i = Some (pad_after_put (vec_items bank.words) bank.pad i)
