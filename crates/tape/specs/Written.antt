-- An entry written out as a line. Assumes nothing.
use Rattle.std.specs.Prelude.{ℕ, List, [], ◌∷◌, ◌++◌, codes, decimal}
use Rattle.tape.specs.declared.entry.Entry.{Entry}

-- numbers in decimal digits, a space before each
abbrev pub spaced : List ℕ → List ℕ
spaced [] = []
spaced (n ∷ ns) = 32 ∷ (decimal n ++ spaced ns)

-- an entry as it is written
abbrev pub told : Entry → List ℕ
told e = e.kind ∷ e.label ∷ e.record ∷ e.variable ∷ e.index ∷ e.value ∷ e.mark ∷ []

-- an entry as a line
abbrev pub entry_line : Entry → List ℕ
entry_line e = codes "entry" ++ spaced (told e)
