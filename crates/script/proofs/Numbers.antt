-- Decimal numbers, as the library reads them. Assumes nothing.
use Rattle.std.proofs.Common.{◌≡◌, ℕ, ◌+◌, ◌-◌, ◌*◌, ◌^◌, ◌<◌, Bool, cond, leb, ◌&&◌, List, [], ◌∷◌, get_or, Some, None, Ok, Err, Result, refl, ap, ◌∙◌, sym, ◌⊎◌, inl, inr, arith, rules}
use Rattle.std.specs.Int.{IsInRange}
use Rattle.std.specs.Result.{result_ok}
use Rattle.std.specs.Str.Parse.{AllDigits, ParsesUnsigned}
use Rattle.std.proofs.lemmas.Str.Parse.{IsNumeralModel, numerals_by_fold, tells_digits, digit_from_value, parse_plain}
use Rattle.std.proofs.lemmas.Bool.{cases_Bool, cases_lt, and_parts, leb-true, le-leb, lt-leb, cond-false}
use Rattle.script.specs.Fields.{and_then, read_on, up_to, field}

-- digits, read on, give the number that they write
abbrev pub fold : ℕ → List ℕ → ℕ
fold n [] = n
fold n (c ∷ word) = fold (10 * n + (c - 48)) word

pub own : IsNumeralModel (AllDigits 10) (fold 0)
own = numerals_by_fold (AllDigits 10) tells_digits fold (search rules)

pub read_digits : (n : ℕ) (word : List ℕ) → AllDigits 10 word → read_on n word ≡ Some (fold n word)
read_digits n [] h = refl
read_digits n (c ∷ word) h =
    let d = digit_from_value c h.0 in
    rw (le-leb 48 c d.0, le-leb c 57 d.1) (read_digits (10 * n + (c - 48)) word h.1)

-- digits are read, and nothing else
reads : (n : ℕ) (word : List ℕ) → AllDigits 10 word ⊎ (read_on n word ≡ None)
reads n [] = inl tt
reads n (c ∷ word) =
    let step = λ (b : Bool). and_then (cond b (Some (c - 48)) None) (λ d. read_on (10 * n + d) word) in
    elim (cases_Bool (leb 48 c && leb c 57)) [
      | inl t ↦
          let p = and_parts (leb 48 c) (leb c 57) t in
          let range : IsInRange 48 57 c = (leb-true 48 c p.0, leb-true c 57 p.1) in
          elim (reads (10 * n + (c - 48)) word) [ inl d ↦ inl (tells_digits.more c word range d) | inr e ↦ inr (ap step t ∙ e) ]
      | inr f ↦ inr (ap step f)
    ]

-- a word with a sign in front is none
pub signed : (most : ℕ) (word : List ℕ) → get_or word 0 0 ≡ 43 → field most word ≡ None
unfolding field
signed most [] e = absurd (omega arith)
signed most (c ∷ word) e = ap (λ (d : ℕ). up_to most (read_on 0 (d ∷ word))) e

-- and one without is what the library reads
pub parsed : {E : Type 0} (most : ℕ) (word : List ℕ) (r : Result ℕ E) → (get_or word 0 0 ≡ 43 → ⊥) → most < 2 ^ 64 → ParsesUnsigned 64 10 word r → field most word ≡ up_to most (result_ok r)
unfolding field
parsed {E} most [] (Ok n) plain small h = let p = parse_plain own {E = E} 64 [] (Ok n) h plain in absurd (omega (arith, p.0.1))
parsed {E} most (c ∷ word) (Ok n) plain small h =
    let p = parse_plain own {E = E} 64 (c ∷ word) (Ok n) h plain in
    ap (up_to most) (read_digits 0 (c ∷ word) p.0.0 ∙ ap Some (sym p.1))
parsed {E} most [] (Err e) plain small h = refl
parsed {E} most (c ∷ word) (Err e) plain small h =
    let n = fold 0 (c ∷ word) in
    elim (reads 0 (c ∷ word)) [
      | inl d ↦
          elim (cases_lt n (2 ^ 64)) [
            | inl lt ↦ absurd (parse_plain own {E = E} 64 (c ∷ word) (Err e) h plain (d, omega arith, lt))
            | inr ge ↦ ap (up_to most) (read_digits 0 (c ∷ word) d) ∙ cond-false (leb n most) (Some n) None (lt-leb n most (omega arith))
          ]
      | inr none ↦ ap (up_to most) none
    ]
