-- Commands and entries written out as lines, and that these lines are read as them. Assumes nothing.
use Rattle.std.specs.Prelude.{◌≡◌, ℕ, ◌^◌, ◌<◌, ◌≤◌, List, [], ◌∷◌, ◌++◌, Some, None, codes, decimal, Option}
use Rattle.tape.specs.declared.entry.Entry.{Entry}
use Rattle.tape.specs.Written.{spaced, told, entry_line}
use Rattle.script.specs.Commands.{Asked, asked, byte, word, long, entry_limits}
use Rattle.script.specs.declared.command.Command.{Command}
use Rattle.script.specs.declared.command.Command.TheVariants as command

-- numbers of 64 bits, one for each limit, that do not pass it
abbrev pub Fit : List ℕ → List ℕ → Type 0
Fit [] [] = Unit {0}
Fit [] (n ∷ ns) = ⊥
Fit (most ∷ limits) [] = ⊥
Fit (most ∷ limits) (n ∷ ns) = (n ≤ most) × (n < 2 ^ 64) × Fit limits ns

-- a command as a line
abbrev pub line_of : Command → List ℕ
line_of command.OrderTwo = codes "order two"
line_of (command.OrderSet parties) = codes "order set" ++ spaced (parties ∷ [])
line_of (command.Sheet digits) = codes "sheet " ++ digits.now
line_of (command.Flat None) = codes "bank flat"
line_of (command.Flat (Some words)) = codes "bank flat " ++ words.now
line_of (command.Share pad None) = codes "bank share " ++ decimal pad
line_of (command.Share pad (Some words)) = codes "bank share " ++ (decimal pad ++ (32 ∷ words.now))
line_of command.Open = codes "open"
line_of (command.Enter party variable index value) = codes "enter" ++ spaced (party ∷ variable ∷ index ∷ value ∷ [])
line_of command.Start = codes "start"
line_of (command.Run steps tape) = codes "run" ++ spaced (steps ∷ tape ∷ [])
line_of (command.Look party variable index) = codes "look" ++ spaced (party ∷ variable ∷ index ∷ [])
line_of (command.Log party) = codes "log" ++ spaced (party ∷ [])
line_of (command.Pick party buffer count) = codes "pick" ++ spaced (party ∷ buffer ∷ count ∷ [])

-- the fields of a command fit
abbrev pub Sized : Command → Type 0
Sized command.OrderTwo = Unit {0}
Sized (command.OrderSet parties) = Fit (long ∷ []) (parties ∷ [])
Sized (command.Sheet digits) = Unit {0}
Sized (command.Flat words) = Unit {0}
Sized (command.Share pad words) = Fit (word ∷ []) (pad ∷ [])
Sized command.Open = Unit {0}
Sized (command.Enter party variable index value) = Fit (byte ∷ byte ∷ word ∷ word ∷ []) (party ∷ variable ∷ index ∷ value ∷ [])
Sized command.Start = Unit {0}
Sized (command.Run steps tape) = Fit (long ∷ 100000 ∷ []) (steps ∷ tape ∷ [])
Sized (command.Look party variable index) = Fit (byte ∷ byte ∷ word ∷ []) (party ∷ variable ∷ index ∷ [])
Sized (command.Log party) = Fit (byte ∷ []) (party ∷ [])
Sized (command.Pick party buffer count) = Fit (byte ∷ 100000 ∷ 10000 ∷ []) (party ∷ buffer ∷ count ∷ [])

-- a command that is written out is read as itself
abbrev pub ReadBack : List ℕ → Option Asked → Type 0
ReadBack line r = (c : Command) → Sized c → line ≡ line_of c → r ≡ Some (asked c)

-- an entry that is printed is read as itself
abbrev pub EntryBack : List ℕ → Option Entry → Type 0
EntryBack line r = (e : Entry) → Fit entry_limits (told e) → line ≡ entry_line e → r ≡ Some e
