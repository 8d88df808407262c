-- What the lines of a script say. Assumes nothing.
use Rattle.std.specs.Prelude.{ℕ, cond, List, [], ◌∷◌, replicate, Some, None, codes, Option, slice_index}
use Rattle.std.specs.Option.{option_map}
use Rattle.std.specs.Str.{bytes_eq}
use Rattle.std.specs.List.{join_with_byte}
use Rattle.script.specs.Fields.{fields, and_then, field, before, numbers}
use Rattle.script.specs.declared.command.Command.{Command}
use Rattle.script.specs.declared.command.Command.TheVariants as command

-- what a line asks for: a name and its numbers, or words that are read later
pub data Asked : Type 0 where
  call : List ℕ → List ℕ → Asked
  sheet : List ℕ → Asked
  flat : List (List ℕ) → Asked
  share : ℕ → List (List ℕ) → Asked

-- a command as it is written
abbrev pub asked : Command → Asked
asked command.OrderTwo = call (codes "order two") []
asked (command.OrderSet parties) = call (codes "order set") (parties ∷ [])
asked (command.Sheet digits) = sheet digits.now
asked (command.Flat words) = flat (fields words)
asked (command.Share pad words) = share pad (fields words)
asked command.Open = call (codes "open") []
asked (command.Enter party variable index value) = call (codes "enter") (party ∷ variable ∷ index ∷ value ∷ [])
asked command.Start = call (codes "start") []
asked (command.Run steps tape) = call (codes "run") (steps ∷ tape ∷ [])
asked (command.Look party variable index) = call (codes "look") (party ∷ variable ∷ index ∷ [])
asked (command.Log party) = call (codes "log") (party ∷ [])
asked (command.Pick party buffer count) = call (codes "pick") (party ∷ buffer ∷ count ∷ [])

-- the largest numbers of 8, 16, 32 and 64 bits
abbrev pub byte : ℕ
byte = 255

abbrev pub short : ℕ
short = 65535

abbrev pub word : ℕ
word = 4294967295

abbrev pub long : ℕ
long = 18446744073709551615

-- the calls, each with the limits of its fields
abbrev pub limits_of : List ℕ → Option (List ℕ)
limits_of name =
    cond (bytes_eq name (codes "open")) (Some [])
    (cond (bytes_eq name (codes "enter")) (Some (byte ∷ byte ∷ word ∷ word ∷ []))
    (cond (bytes_eq name (codes "start")) (Some [])
    (cond (bytes_eq name (codes "run")) (Some (long ∷ 100000 ∷ []))
    (cond (bytes_eq name (codes "look")) (Some (byte ∷ byte ∷ word ∷ []))
    (cond (bytes_eq name (codes "log")) (Some (byte ∷ []))
    (cond (bytes_eq name (codes "pick")) (Some (byte ∷ 100000 ∷ 10000 ∷ [])) None))))))

-- a name with numbers that fit its limits
abbrev pub called : List ℕ → List ℕ → List (List ℕ) → Option Asked
called name limits words = option_map (call name) (numbers limits words)

abbrev pub call_of : List ℕ → List (List ℕ) → Option Asked
call_of name words = and_then (limits_of name) (λ limits. called name limits words)

-- two, or set N
abbrev pub order_of : List (List ℕ) → Option Asked
order_of [] = None
order_of (kind ∷ words) =
    cond (bytes_eq kind (codes "two")) (called (codes "order two") [] words)
    (cond (bytes_eq kind (codes "set")) (called (codes "order set") (long ∷ []) words) None)

-- a pad and words
abbrev pub share_of : List (List ℕ) → Option Asked
share_of [] = None
share_of (pad ∷ words) = option_map (λ n. share n words) (field word pad)

-- flat and words, or share, a pad and words
abbrev pub bank_of : List (List ℕ) → Option Asked
bank_of [] = None
bank_of (kind ∷ words) =
    cond (bytes_eq kind (codes "flat")) (Some (flat words)) (cond (bytes_eq kind (codes "share")) (share_of words) None)

-- what stands behind the name, with its spaces
abbrev pub sheet_of : List (List ℕ) → Option Asked
sheet_of [] = None
sheet_of (first ∷ words) = Some (sheet (join_with_byte 32 (first ∷ words)))

-- what the words of a line ask for
abbrev pub asks : List (List ℕ) → Option Asked
asks [] = None
asks (name ∷ words) =
    cond (bytes_eq name (codes "order")) (order_of words)
    (cond (bytes_eq name (codes "sheet")) (sheet_of words)
    (cond (bytes_eq name (codes "bank")) (bank_of words) (call_of name words)))

-- the limits of an entry's numbers
abbrev pub entry_limits : List ℕ
entry_limits = byte ∷ byte ∷ short ∷ byte ∷ word ∷ word ∷ byte ∷ []

-- the numbers of an entry line
abbrev pub entry_of : List (List ℕ) → Option (List ℕ)
entry_of [] = None
entry_of (name ∷ words) =
    cond (bytes_eq name (codes "entry")) (numbers entry_limits words) None

-- each word a number
unfoldable pub each : List (List ℕ) → Option (List ℕ)
each [] = Some []
each (first ∷ words) = before (field word first) (each words)

-- N zeros
abbrev pub zeros_of : List (List ℕ) → Option (List ℕ)
zeros_of words = option_map (λ ns. replicate (slice_index ns 0) 0) (numbers (1000000 ∷ []) words)

-- the words of a bank: zeros N, or each by itself
abbrev pub bank_words : List (List ℕ) → Option (List ℕ)
bank_words [] = Some []
bank_words (first ∷ words) =
    cond (bytes_eq first (codes "zeros")) (zeros_of words) (each (first ∷ words))
