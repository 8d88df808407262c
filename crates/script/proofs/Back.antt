-- What is written out is read back. Assumes nothing.
use Rattle.std.proofs.Common.{◌≡◌, ℕ, ◌^◌, ◌<◌, ◌≤◌, List, [], ◌∷◌, ◌++◌, map, length, get_or, Some, None, codes, decimal, Option, refl, ap, ◌∙◌, append-nil, arith}
use Rattle.std.specs.Option.{option_map}
use Rattle.std.specs.Str.Parse.{digits_value}
use Rattle.std.proofs.lemmas.Fmt.{decimal_nonempty, digits_decimal, digits_value-decimal}
use Rattle.std.proofs.lemmas.Str.Parse.{digit_at}
use Rattle.std.proofs.lemmas.Bool.{le-leb}
use Rattle.tape.specs.declared.entry.Entry.{Entry}
use Rattle.script.specs.Commands.{Asked, asked, asks, byte, word, long, call, share, called, share_of, entry_of, entry_limits}
use Rattle.script.specs.Fields.{words_of, read_on, field, numbers}
use Rattle.script.specs.Fields as grammar
use Rattle.tape.specs.Written.{spaced, told, entry_line}
use Rattle.script.specs.Written.{Fit, Sized, line_of, ReadBack, EntryBack}
use Rattle.script.specs.declared.command.Command.{Command}
use Rattle.script.specs.declared.command.Command.TheVariants as command
use Rattle.script.proofs.Names.{sheet_text}
use Rattle.script.proofs.Numbers.{own, read_digits}
use Rattle.script.proofs.Spaces.{Unspaced, whole, divided}

-- a printed number is read
some_digits : (word : List ℕ) → 0 < length word → grammar.decimal word ≡ read_on 0 word
some_digits [] h = absurd (omega arith)
some_digits (c ∷ rest) h = refl

printed : (n : ℕ) → n < 2 ^ 64 → grammar.decimal (decimal n) ≡ Some n
printed n h =
    some_digits (decimal n) (decimal_nonempty n h)
    ∙ read_digits 0 (decimal n) (digits_decimal own n h)
    ∙ ap Some (digits_value-decimal own n h)

unspaced : (n : ℕ) → n < 2 ^ 64 → Unspaced (decimal n)
unspaced n h i l e = let d = digit_at (decimal n) i (digits_decimal own n h) l in omega arith

in_field : (most n : ℕ) → n ≤ most → n < 2 ^ 64 → field most (decimal n) ≡ Some n
unfolding field
in_field most n l h = rw (printed n h, le-leb n most l)

-- numbers that fit are read
in_fields : (limits ns : List ℕ) → Fit limits ns → numbers limits (map decimal ns) ≡ Some ns
unfolding numbers
in_fields [] [] h = refl
in_fields [] (n ∷ ns) h = absurd h
in_fields (most ∷ limits) [] h = absurd h
in_fields (most ∷ limits) (n ∷ ns) h = rw (in_field most n h.0 h.1, in_fields limits ns h.2)

-- the words of numbers
words_spaced : (limits : List ℕ) (n : ℕ) (ns : List ℕ) → Fit limits (n ∷ ns) → words_of (decimal n ++ spaced ns) ≡ decimal n ∷ map decimal ns
words_spaced [] n ns h = absurd h
words_spaced (most ∷ limits) n [] h = ap words_of (append-nil (decimal n)) ∙ whole (decimal n) (unspaced n h.1)
words_spaced (most ∷ limits) n (k ∷ ns) h =
    divided (decimal n) (decimal k ++ spaced ns) (unspaced n h.1) ∙ ap (λ ws. decimal n ∷ ws) (words_spaced limits k ns h.2)

numbers_back : (limits : List ℕ) (n : ℕ) (ns : List ℕ) → Fit limits (n ∷ ns) → numbers limits (words_of (decimal n ++ spaced ns)) ≡ Some (n ∷ ns)
numbers_back limits n ns h = ap (numbers limits) (words_spaced limits n ns h) ∙ in_fields limits (n ∷ ns) h

called_back : (name limits : List ℕ) (n : ℕ) (ns : List ℕ) → Fit limits (n ∷ ns) → called name limits (words_of (decimal n ++ spaced ns)) ≡ Some (call name (n ∷ ns))
called_back name limits n ns h = ap (option_map (call name)) (numbers_back limits n ns h)

share_back : (pad : ℕ) (words : List (List ℕ)) → Fit (word ∷ []) (pad ∷ []) → share_of (decimal pad ∷ words) ≡ Some (share pad words)
share_back pad words h = ap (option_map (λ n. share n words)) (in_field word pad h.0 h.1)

commanded : (c : Command) → Sized c → asks (words_of (line_of c)) ≡ Some (asked c)
unfolding words_of numbers
commanded command.OrderTwo h = refl
commanded (command.OrderSet parties) h = called_back (codes "order set") (long ∷ []) parties [] h
commanded (command.Sheet digits) h = sheet_text digits.now
commanded (command.Flat None) h = refl
commanded (command.Flat (Some words)) h = refl
commanded (command.Share pad None) h = ap share_of (whole (decimal pad) (unspaced pad h.1)) ∙ share_back pad [] h
commanded (command.Share pad (Some words)) h =
    ap share_of (divided (decimal pad) words.now (unspaced pad h.1)) ∙ share_back pad (words_of words.now) h
commanded command.Open h = refl
commanded (command.Enter party variable index digits_value) h =
    called_back (codes "enter") (byte ∷ byte ∷ word ∷ word ∷ []) party (variable ∷ index ∷ digits_value ∷ []) h
commanded command.Start h = refl
commanded (command.Run steps tape) h = called_back (codes "run") (long ∷ 100000 ∷ []) steps (tape ∷ []) h
commanded (command.Look party variable index) h = called_back (codes "look") (byte ∷ byte ∷ word ∷ []) party (variable ∷ index ∷ []) h
commanded (command.Log party) h = called_back (codes "log") (byte ∷ []) party [] h
commanded (command.Pick party buffer count) h = called_back (codes "pick") (byte ∷ 100000 ∷ 10000 ∷ []) party (buffer ∷ count ∷ []) h

pub read_back : (line : List ℕ) (r : Option Asked) → r ≡ asks (words_of line) → ReadBack line r
read_back line r e c h at = e ∙ ap (λ l. asks (words_of l)) at ∙ commanded c h

-- an entry is told by its numbers
entry_same : (d e : Entry) → told d ≡ told e → d ≡ e
entry_same d e p =
    λ j.
    record {
      kind = get_or (p j) 0 0;
      label = get_or (p j) 1 0;
      «record» = get_or (p j) 2 0;
      variable = get_or (p j) 3 0;
      index = get_or (p j) 4 0;
      value = get_or (p j) 5 0;
      mark = get_or (p j) 6 0;
    }

untold : (r : Option Entry) (e : Entry) → option_map told r ≡ Some (told e) → r ≡ Some e
untold None e p = absurd cc
untold (Some d) e p = ap Some (entry_same d e (let q : told d ≡ told e = cc in q))

entered : (e : Entry) → Fit entry_limits (told e) → entry_of (words_of (entry_line e)) ≡ Some (told e)
unfolding words_of
entered e h = numbers_back entry_limits e.kind (e.label ∷ e.record ∷ e.variable ∷ e.index ∷ e.value ∷ e.mark ∷ []) h

pub entry_back : (line : List ℕ) (r : Option Entry) → option_map told r ≡ entry_of (words_of line) → EntryBack line r
entry_back line r p e h at = untold r e (p ∙ ap (λ l. entry_of (words_of l)) at ∙ entered e h)
