-- Words against limits, one by one. Assumes nothing.
use Rattle.std.proofs.Common.{◌≡◌, ℕ, zero, suc, ◌+◌, ◌<◌, ◌≤◌, true, leb, List, [], ◌∷◌, ◌++◌, length, get_or, take, drop, set, Some, None, Option, sym, refl, ap, ap₂, ◌∙◌, inl, inr, append_assoc, append-nil, arith, lit<, drop-set-lt}
use Rattle.std.proofs.lemmas.List.{drop_more, drop_all, take_all, take_more_set}
use Rattle.std.proofs.lemmas.Bool.{cases_Bool, leb-true, cond-true, cond-false}
use Rattle.std.specs.Str.Iter.{split_steps, split_text, split_has_more, split_pattern}
use Rattle.std.specs.Str.Pattern.{FindsChar}
use Rattle.std.proofs.lemmas.Iterator.{YieldsList}
use Rattle.std.proofs.lemmas.Iterator.Consumers.{YieldsList-at}
use Rattle.std.proofs.lemmas.Iterator.Splits.{YieldsList-from_str_split}
use Rattle.script.specs.Commands.{each}
use Rattle.script.specs.Fields.{words_of, decimal, up_to, field, before, numbers}

-- numbers in front of others, where those are there
abbrev pub front : List ℕ → Option (List ℕ) → Option (List ℕ)
front ns None = None
front ns (Some more) = Some (ns ++ more)

pub front_none : (o : Option (List ℕ)) → o ≡ front [] o
front_none None = refl
front_none (Some more) = refl

pub front_more : (ns : List ℕ) (n : ℕ) (o : Option (List ℕ)) → front ns (before (Some n) o) ≡ front (ns ++ (n ∷ [])) o
front_more ns n None = refl
front_more ns n (Some more) = ap Some (sym (append_assoc ns (n ∷ []) more))

-- the numbers of words that were read over the limits, up to a place, give what the words that are left give
pub record Read (all : Option (List ℕ)) (read : List ℕ) (i : ℕ) (words : List (List ℕ)) : Type 0 where
  pub is : all ≡ front (take i read) (numbers (drop i read) words)

-- the words that are left, written in another way
pub known : {all : Option (List ℕ)} {read : List ℕ} {i : ℕ} {words : List (List ℕ)} (left : List (List ℕ)) → words ≡ left → Read all read i words → Read all read i left
known {read = read} {i = i} left e r = record { is = r.is ∙ ap (λ w. front (take i read) (numbers (drop i read) w)) e }

module _ {all : Option (List ℕ)} (read : List ℕ) (i : ℕ) where
  -- a word is missing
  pub short : i < length read → Read all read i [] → None ≡ all
  unfolding numbers
  short h r = sym (r.is ∙ ap (λ l. front (take i read) (numbers l [])) (drop_more read i 0 h))

  -- one more word
  here : (word : List ℕ) (rest : List (List ℕ)) (o : Option ℕ) → i < length read → o ≡ field (get_or read i 0) word → Read all read i (word ∷ rest) → all ≡ front (take i read) (before o (numbers (drop (i + 1) read) rest))
  unfolding numbers
  here word rest o h e r =
      r.is
      ∙ ap (λ l. front (take i read) (numbers l (word ∷ rest))) (drop_more read i 0 h)
      ∙ ap (λ p. front (take i read) (before p (numbers (drop (i + 1) read) rest))) (sym e)

  pub stuck : (word : List ℕ) (rest : List (List ℕ)) → i < length read → None ≡ field (get_or read i 0) word → Read all read i (word ∷ rest) → None ≡ all
  stuck word rest h e r = sym (here word rest None h e r)

  pub more : (word : List ℕ) (rest : List (List ℕ)) (n : ℕ) → i < length read → Some n ≡ field (get_or read i 0) word → Read all read i (word ∷ rest) → Read all (set read i n) (i + 1) rest
  more word rest n h e r = record {
    is =
        here word rest (Some n) h e r
        ∙ front_more (take i read) n (numbers (drop (i + 1) read) rest)
        ∙ ap₂ (λ ns l. front ns (numbers l rest)) (sym (take_more_set read i n h)) (sym (drop-set-lt (i + 1) read i n (omega arith)));
  }

  -- just as many words as limits
  pub ended : length read ≤ i → Read all read i [] → Some read ≡ all
  unfolding numbers
  ended h r = sym (r.is ∙ ap₂ (λ ns l. front ns (numbers l [])) (take_all i read h) (drop_all i read h) ∙ ap Some (append-nil read))

  -- a word is left over
  pub left_over : (word : List ℕ) (rest : List (List ℕ)) → length read ≤ i → Read all read i (word ∷ rest) → None ≡ all
  unfolding numbers
  left_over word rest h r = sym (r.is ∙ ap (λ l. front (take i read) (numbers l (word ∷ rest))) (drop_all i read h))

-- a number before others is there where all are
parts : (o : Option ℕ) (p : Option (List ℕ)) (ns : List ℕ) → Some ns ≡ before o p → (n : ℕ) × (more : List ℕ) × (o ≡ Some n) × (p ≡ Some more) × (ns ≡ n ∷ more)
parts None p ns e = absurd cc
parts (Some n) None ns e = absurd cc
parts (Some n) (Some more) ns e = (n, more, refl, refl, cc)

bounded : (most : ℕ) (o : Option ℕ) (n : ℕ) → up_to most o ≡ Some n → n ≤ most
bounded most None n e = absurd cc
bounded most (Some m) n e =
    elim (cases_Bool (leb m most)) [
      | inl t ↦ (let same : m ≡ n = cc (cond-true (leb m most) (Some m) None t) in omega (arith, leb-true m most t))
      | inr t ↦ absurd (cc (cond-false (leb m most) (Some m) None t))
    ]

-- a field fits its limit
pub fitting : (most : ℕ) (word : List ℕ) (n : ℕ) → field most word ≡ Some n → n ≤ most
unfolding field
fitting most word n e = bounded most (decimal word) n e

-- what is read fits its limit
pub fit : (limits : List ℕ) (words : List (List ℕ)) (ns : List ℕ) → Some ns ≡ numbers limits words → (k : ℕ) → k < length limits → get_or ns k 0 ≤ get_or limits k 0
unfolding numbers
fit [] words ns e k h = absurd (omega arith)
fit (most ∷ limits) [] ns e k h = absurd cc
fit (most ∷ limits) (word ∷ words) ns e zero h =
    let p = parts (field most word) (numbers limits words) ns e in
    let first : get_or ns 0 0 ≡ p.0 = ap (λ l. get_or l 0 0) p.4 in
    omega (arith, fitting most word p.0 p.2)
fit (most ∷ limits) (word ∷ words) ns e (suc k) h =
    let p = parts (field most word) (numbers limits words) ns e in
    let same : get_or ns (suc k) 0 ≡ get_or p.1 k 0 = ap (λ l. get_or l (suc k) 0) p.4 in
    omega (arith, fit limits words p.1 (sym p.3) k (omega arith))

-- a split at spaces yields the words
pub split_words : {s t : _} (text : List ℕ) → s ≡ t → split_text {P = ℕ} t ≡ text → split_has_more t ≡ true → split_pattern t ≡ 32 → YieldsList (split_steps FindsChar (λ a b. b ≡ a)) (λ x. x.now) s (words_of text)
unfolding words_of
split_words text same all unread space = YieldsList-at same (YieldsList-from_str_split 32 text (lit< tt) all unread space)

-- the words of a bank, up to a place
module _ {all : Option (List ℕ)} (done : List ℕ) (words : List (List ℕ)) (i : ℕ) (inv : all ≡ front done (each (drop i words))) where
  word_here : (word : List ℕ) (o : Option ℕ) → i < length words → word ≡ get_or words i word → o ≡ field 4294967295 word → all ≡ front done (before o (each (drop (i + 1) words)))
  unfolding each
  word_here word o h at e =
      inv
      ∙ ap (λ ws. front done (each ws)) (drop_more words i word h ∙ ap (λ w. w ∷ drop (i + 1) words) (sym at))
      ∙ ap (λ p. front done (before p (each (drop (i + 1) words)))) (sym e)

  pub each_more : (after : List ℕ) (n : ℕ) (word : List ℕ) → i < length words → word ≡ get_or words i word → Some n ≡ field 4294967295 word → after ≡ done ++ (n ∷ []) → all ≡ front after (each (drop (i + 1) words))
  each_more after n word h at e more =
      word_here word (Some n) h at e ∙ front_more done n (each (drop (i + 1) words)) ∙ ap (λ ns. front ns (each (drop (i + 1) words))) (sym more)

  pub each_stuck : (word : List ℕ) → i < length words → word ≡ get_or words i word → None ≡ field 4294967295 word → None ≡ all
  each_stuck word h at e = sym (word_here word None h at e)

  pub each_all : length words ≤ i → Some done ≡ all
  unfolding each
  each_all h = sym (inv ∙ ap (λ ws. front done (each ws)) (drop_all i words h) ∙ ap Some (append-nil done))
