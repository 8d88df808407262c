-- A line as words, and a word as a decimal number. Assumes nothing.
use Rattle.std.specs.Prelude.{ℕ, ◌+◌, ◌-◌, ◌*◌, cond, ◌&&◌, List, [], ◌∷◌, Some, None, Option, ◌==◌, nat_le}
use Rattle.std.specs.List.{slice_split}
use Rattle.std.specs.Borrow.{Bor}

-- the words of a text, which are divided by one space each
unfoldable pub words_of : List ℕ → List (List ℕ)
words_of text = slice_split (λ c. c == 32) text

-- the words of a text that may be missing
abbrev pub fields : Option (Bor (List ℕ)) → List (List ℕ)
fields None = []
fields (Some text) = words_of text.now

-- the value of a digit
abbrev pub digit : ℕ → Option ℕ
digit c = cond (nat_le 48 c && nat_le c 57) (Some (c - 48)) None

abbrev pub and_then : {X Y : Type 0} → Option X → (X → Option Y) → Option Y
and_then None f = None
and_then (Some x) f = f x

-- the number of more digits after n; none where a character is no digit
abbrev pub read_on : ℕ → List ℕ → Option ℕ
read_on n [] = Some n
read_on n (c ∷ word) = and_then (digit c) (λ d. read_on (10 * n + d) word)

-- a decimal number has one digit or more
abbrev pub decimal : List ℕ → Option ℕ
decimal [] = None
decimal (c ∷ word) = read_on 0 (c ∷ word)

abbrev pub up_to : ℕ → Option ℕ → Option ℕ
up_to most None = None
up_to most (Some n) = cond (nat_le n most) (Some n) None

-- a decimal number that fits its field
unfoldable pub field : ℕ → List ℕ → Option ℕ
field most word = up_to most (decimal word)

-- a number before others, where all are there
abbrev pub before : Option ℕ → Option (List ℕ) → Option (List ℕ)
before None ns = None
before (Some n) None = None
before (Some n) (Some ns) = Some (n ∷ ns)

-- just one word for each limit, a number up to that limit
unfoldable pub numbers : List ℕ → List (List ℕ) → Option (List ℕ)
numbers [] [] = Some []
numbers [] (word ∷ words) = None
numbers (most ∷ limits) [] = None
numbers (most ∷ limits) (word ∷ words) = before (field most word) (numbers limits words)
