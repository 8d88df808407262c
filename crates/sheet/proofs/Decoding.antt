-- Bytes that are not refused are those of one entry. Assumes nothing.
use Rattle.std.proofs.Common.{◌≡◌, ℕ, zero, suc, ◌+◌, ◌*◌, ◌/◌, ◌%◌, ◌^◌, ◌<◌, ◌≤◌, true, false, cond, not, ◌&&◌, ◌||◌, eqb, ltb, List, [], ◌∷◌, length, is_some, None, sym, refl, ap, ◌∙◌, arith}
use Rattle.std.proofs.lemmas.List.FromFn.{fill_by_all}
use Rattle.std.proofs.lemmas.Bool.{false≢true, and_parts, not-true, eqb-true, ltb-true, eq-eqb}
use Rattle.std.proofs.lemmas.Bool.Decides.{nat_tests}
use Rattle.sheet.specs.declared.faults.SheetFault.TheVariants.{Operator}
use Rattle.sheet.specs.declared.faults.SheetFault.TheVariants.{Form as Form-rule}
use Rattle.sheet.specs.declared.tables.Op.{Op}
use Rattle.sheet.specs.declared.tables.Op.TheVariants.{Sum, Difference, Product, Equal, Less, And, Or, Xor}
use Rattle.sheet.specs.declared.tables.Kind.TheVariants.{Number, Array}
use Rattle.sheet.specs.declared.tables.Form.{Form}
use Rattle.sheet.specs.declared.tables.Form.TheVariants.{Skip, Copy, Constant, Binary, Fetch, Mux, Store, If, While, Declass, Oram}
use Rattle.sheet.specs.declared.tables.Variable.{Variable}
use Rattle.sheet.specs.declared.tables.Record.{Record}
use Rattle.sheet.specs.Tables.{operator, operator_code}
use Rattle.sheet.specs.Format.{variable_bytes, record_bytes, byte, word16, word32, used}
use Rattle.refusal.specs.Answers.{expect, first_below}
use Rattle.sheet.specs.Reading.{byte_refusal, variable_refusal, record_refusal}
use Rattle.sheet.specs.Exact.{VariableFits, RecordFits}
use Rattle.refusal.proofs.First.{both_none, none_first, passed}

abbrev pub Bytes : List ℕ → Type 0
Bytes bs = (i : ℕ) → byte bs i < 256

pub word16_low : (a b : ℕ) → a < 256 → b < 256 → (a + b * 256) % 256 ≡ a
word16_low a b h k = omega arith

pub word16_high : (a b : ℕ) → a < 256 → b < 256 → (a + b * 256) / 256 % 256 ≡ b
word16_high a b h k = omega arith

operator_from : (n : ℕ) → is_some (operator n) ≡ true → (op : Op) × (operator_code op ≡ n)
operator_from zero e = absurd (false≢true e)
operator_from (suc zero) e = (Sum, refl)
operator_from (suc (suc zero)) e = (Difference, refl)
operator_from (suc (suc (suc zero))) e = (Product, refl)
operator_from (suc (suc (suc (suc zero)))) e = (Equal, refl)
operator_from (suc (suc (suc (suc (suc zero))))) e = (Less, refl)
operator_from (suc (suc (suc (suc (suc (suc zero)))))) e = (And, refl)
operator_from (suc (suc (suc (suc (suc (suc (suc zero))))))) e = (Or, refl)
operator_from (suc (suc (suc (suc (suc (suc (suc (suc zero)))))))) e = (Xor, refl)
operator_from (suc (suc (suc (suc (suc (suc (suc (suc (suc n))))))))) e = absurd (false≢true (grind (arith, nat_tests, e)))

pub variable_few : (p before : ℕ) (q : List ℕ) → variable_refusal p before q ≡ None → before + word16 q 2 ≤ 16384
unfolding variable_refusal
variable_few p before q ok = grind (arith, nat_tests)

module _ (p before : ℕ) (q : List ℕ) (long : length q ≡ 4) (fits : Bytes q) (ok : variable_refusal p before q ≡ None) where
  spelt4 : q ≡ byte q 0 ∷ byte q 1 ∷ byte q 2 ∷ byte q 3 ∷ []
  spelt4 = fill_by_all (byte q) q 4 0 long (λ k h. refl)

  variable_of_kind : (k : ℕ) → byte q 0 ≡ k → k < 2 → (v : Variable) × VariableFits v × (q ≡ variable_bytes v)
  unfolding variable_refusal
  variable_of_kind zero e h =
      let z : word16 q 2 ≡ 0 = grind (arith, nat_tests) in
      let z2 : byte q 2 ≡ 0 = omega arith in
      let z3 : byte q 3 ≡ 0 = omega arith in
      (record { label = byte q 1; kind = Number }, (fits 1, tt), cc spelt4)
  variable_of_kind (suc zero) e h =
      let low : 1 ≤ word16 q 2 = grind (arith, nat_tests) in
      let high : word16 q 2 ≤ 4096 = grind (arith, nat_tests) in
      (record { label = byte q 1; kind = Array (word16 q 2) }, (fits 1, (low, high)), cc (spelt4, word16_low (byte q 2) (byte q 3) (fits 2) (fits 3), word16_high (byte q 2) (byte q 3) (fits 2) (fits 3)))
  variable_of_kind (suc (suc k)) e h = absurd (omega arith)

  pub variable_from : (v : Variable) × VariableFits v × (q ≡ variable_bytes v)
  unfolding variable_refusal
  variable_from = variable_of_kind (byte q 0) refl (grind (arith, nat_tests))

module _ (p : ℕ) (q : List ℕ) (long : length q ≡ 12) (fits : Bytes q) (ok : record_refusal p q ≡ None) where
  spelt12 : q ≡ byte q 0 ∷ byte q 1 ∷ byte q 2 ∷ byte q 3 ∷ byte q 4 ∷ byte q 5 ∷ byte q 6 ∷ byte q 7 ∷ byte q 8 ∷ byte q 9 ∷ byte q 10 ∷ byte q 11 ∷ []
  spelt12 = fill_by_all (byte q) q 12 0 long (λ k h. refl)

  known : byte q 0 < 11
  unfolding record_refusal
  known = ltb-true _ _ (passed _ _ (both_none _ _ ok).0)

  -- a byte that the form leaves unused
  unused : {f : ℕ} → byte q 0 ≡ f → (i : ℕ) → ltb i 12 && not (used f i) ≡ true → byte q i ≡ 0
  unfolding record_refusal
  unused {f} e i u =
      let both = and_parts (ltb i 12) (not (used f i)) u in
      let t = passed _ _ (none_first (byte_refusal p q) 12 (both_none _ _ (both_none _ _ ok).1).0 i (ltb-true _ _ both.0)) in
      let s : used (byte q 0) i ≡ false = ap (λ b. used b i) e ∙ not-true _ both.1 in
      eqb-true _ _ (ap (λ b. b || eqb (byte q i) 0) (sym s) ∙ t)

  op_known : byte q 0 ≡ 3 → is_some (operator (byte q 5)) ≡ true
  unfolding record_refusal
  op_known e =
      let t = (both_none (first_below (byte_refusal p q) 12) _ (both_none (expect (ltb (byte q 0) 11) (Form-rule p)) _ ok).1).1 in
      passed _ (Operator (p + 5)) (ap (λ b. cond b (expect (is_some (operator (byte q 5))) (Operator (p + 5))) None) (sym (eq-eqb _ _ e)) ∙ t)

  low : (i j : ℕ) → (byte q i + byte q j * 256) % 256 ≡ byte q i
  low i j = word16_low (byte q i) (byte q j) (fits i) (fits j)

  high : (i j : ℕ) → (byte q i + byte q j * 256) / 256 % 256 ≡ byte q j
  high i j = word16_high (byte q i) (byte q j) (fits i) (fits j)

  word : (i j : ℕ) → byte q i + byte q j * 256 < 2 ^ 16
  word i j = omega (arith, fits i, fits j)

  made : Form → Record
  made f = record { label = byte q 1; next = word16 q 6; form = f }

  quad : word32 q 8 < 2 ^ 32
  quad = omega (arith, fits 8, fits 9, fits 10, fits 11)

  byte8 : word32 q 8 % 256 ≡ byte q 8
  byte8 = omega (arith, fits 8, fits 9, fits 10, fits 11)

  byte9 : word32 q 8 / 256 % 256 ≡ byte q 9
  byte9 = omega (arith, fits 8, fits 9, fits 10, fits 11)

  byte10 : word32 q 8 / 65536 % 256 ≡ byte q 10
  byte10 = omega (arith, fits 8, fits 9, fits 10, fits 11)

  byte11 : word32 q 8 / 16777216 % 256 ≡ byte q 11
  byte11 = omega (arith, fits 8, fits 9, fits 10, fits 11)

  record_of_form : (f : ℕ) → byte q 0 ≡ f → f < 11 → (r : Record) × RecordFits r × (q ≡ record_bytes r)
  unfolding made
  record_of_form zero e h =
      (made Skip, (fits 1, word 6 7, tt), cc (spelt12, e, low 6 7, high 6 7, unused e 2 refl, unused e 3 refl, unused e 4 refl, unused e 5 refl, unused e 8 refl, unused e 9 refl, unused e 10 refl, unused e 11 refl))
  record_of_form (suc zero) e h =
      (made (Copy (byte q 2) (byte q 3)), (fits 1, word 6 7, (fits 2, fits 3)), cc (spelt12, e, low 6 7, high 6 7, unused e 4 refl, unused e 5 refl, unused e 8 refl, unused e 9 refl, unused e 10 refl, unused e 11 refl))
  record_of_form (suc (suc zero)) e h =
      (made (Constant (byte q 2) (word32 q 8)), (fits 1, word 6 7, (fits 2, quad)), cc (spelt12, e, low 6 7, high 6 7, byte8, byte9, byte10, byte11, unused e 3 refl, unused e 4 refl, unused e 5 refl))
  record_of_form (suc (suc (suc zero))) e h =
      let o = operator_from (byte q 5) (op_known e) in
      (made (Binary (byte q 2) (byte q 3) (byte q 4) o.0), (fits 1, word 6 7, (fits 2, fits 3, fits 4)), cc (spelt12, e, low 6 7, high 6 7, o.1, unused e 8 refl, unused e 9 refl, unused e 10 refl, unused e 11 refl))
  record_of_form (suc (suc (suc (suc zero)))) e h =
      (made (Fetch (byte q 2) (byte q 3) (byte q 4)), (fits 1, word 6 7, (fits 2, fits 3, fits 4)), cc (spelt12, e, low 6 7, high 6 7, unused e 5 refl, unused e 8 refl, unused e 9 refl, unused e 10 refl, unused e 11 refl))
  record_of_form (suc (suc (suc (suc (suc zero))))) e h =
      (made (Mux (byte q 2) (byte q 3) (byte q 4) (byte q 5)), (fits 1, word 6 7, (fits 2, fits 3, fits 4, fits 5)), cc (spelt12, e, low 6 7, high 6 7, unused e 8 refl, unused e 9 refl, unused e 10 refl, unused e 11 refl))
  record_of_form (suc (suc (suc (suc (suc (suc zero)))))) e h =
      (made (Store (byte q 2) (byte q 3) (byte q 4)), (fits 1, word 6 7, (fits 2, fits 3, fits 4)), cc (spelt12, e, low 6 7, high 6 7, unused e 5 refl, unused e 8 refl, unused e 9 refl, unused e 10 refl, unused e 11 refl))
  record_of_form (suc (suc (suc (suc (suc (suc (suc zero))))))) e h =
      (made (If (byte q 3) (word16 q 8) (word16 q 10)), (fits 1, word 6 7, (fits 3, word 8 9, word 10 11)), cc (spelt12, e, low 6 7, high 6 7, low 8 9, high 8 9, low 10 11, high 10 11, unused e 2 refl, unused e 4 refl, unused e 5 refl))
  record_of_form (suc (suc (suc (suc (suc (suc (suc (suc zero)))))))) e h =
      (made (While (byte q 3) (word16 q 8)), (fits 1, word 6 7, (fits 3, word 8 9)), cc (spelt12, e, low 6 7, high 6 7, low 8 9, high 8 9, unused e 2 refl, unused e 4 refl, unused e 5 refl, unused e 10 refl, unused e 11 refl))
  record_of_form (suc (suc (suc (suc (suc (suc (suc (suc (suc zero))))))))) e h =
      (made (Declass (byte q 2) (byte q 3)), (fits 1, word 6 7, (fits 2, fits 3)), cc (spelt12, e, low 6 7, high 6 7, unused e 4 refl, unused e 5 refl, unused e 8 refl, unused e 9 refl, unused e 10 refl, unused e 11 refl))
  record_of_form (suc (suc (suc (suc (suc (suc (suc (suc (suc (suc zero)))))))))) e h =
      (made (Oram (byte q 2) (byte q 3)), (fits 1, word 6 7, (fits 2, fits 3)), cc (spelt12, e, low 6 7, high 6 7, unused e 4 refl, unused e 5 refl, unused e 8 refl, unused e 9 refl, unused e 10 refl, unused e 11 refl))
  record_of_form (suc (suc (suc (suc (suc (suc (suc (suc (suc (suc (suc f))))))))))) e h = absurd (omega arith)

  pub record_from : (r : Record) × RecordFits r × (q ≡ record_bytes r)
  record_from = record_of_form (byte q 0) refl known
