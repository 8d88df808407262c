-- A byte string that is not refused is the sheet of some tables. Assumes nothing.
use Rattle.std.proofs.Common.{◌≡◌, ℕ, zero, suc, ◌+◌, ◌*◌, ◌/◌, ◌%◌, ◌<◌, ◌≤◌, List, [], ◌∷◌, ◌++◌, length, take, drop, None, sym, ap, ◌∙◌, subst, ⊎_elim, arith}
use Rattle.std.specs.List.{flat_map, AllByRecursion}
use Rattle.std.proofs.lemmas.List.{drop-drop, take_all, get_or-take, get_or-drop, get_or_past, length-take-le, length-take, length-drop, take-append-drop}
use Rattle.std.proofs.lemmas.List.FromFn.{fill_by_all}
use Rattle.std.proofs.lemmas.Bool.{cases_lt}
use Rattle.sheet.specs.declared.tables.Variable.{Variable}
use Rattle.sheet.specs.declared.tables.Record.{Record}
use Rattle.sheet.specs.Format.{sheet_bytes, variable_bytes, record_bytes, byte}
use Rattle.sheet.specs.Reading.{header_refusal, variable_refusal, variables_refusal, record_refusal, records_refusal, sheet_refusal, variable_count_of, record_count_of, variable_part, record_part, variable_place, record_place, cells_below, part}
use Rattle.sheet.specs.Exact.{VariableFits, RecordFits, total_cells, WithinLimits}
use Rattle.sheet.proofs.Coding.{length_variable, length_record}
use Rattle.sheet.proofs.Chunks.{pieces, cut, inner}
use Rattle.sheet.proofs.Decoding.{Bytes, variable_from, record_from, word16_low, word16_high, variable_few}
use Rattle.refusal.proofs.First.{both_none, none_first}
use Rattle.sheet.proofs.Header.{Header, header}
use Rattle.sheet.proofs.ReadsBack.{cells_so_far}

-- a part of bytes is of bytes
part_fits : (bs : List ℕ) (p n : ℕ) → Bytes bs → Bytes (part bs p n)
part_fits bs p n fits i =
    subst (λ l. byte l i < 256) (sym (cut bs p n))
    (⊎_elim
    (λ h. omega (arith, get_or-take n (drop p bs) i 0 h, get_or-drop p bs i 0, fits (p + i)))
    (λ h. omega (arith, get_or_past (take n (drop p bs)) i 0 (simp length-take (omega arith))))
    (cases_lt i n))

part_long : (bs : List ℕ) (p n : ℕ) → p + n ≤ length bs → length (part bs p n) ≡ n
part_long bs p n h = ap length (cut bs p n) ∙ simp (length-take, length-drop) (omega arith)

module _ (bs : List ℕ) (fits : Bytes bs) (ok : sheet_refusal bs ≡ None) where
  known : Header bs
  unfolding sheet_refusal
  known = header bs (both_none (header_refusal bs) _ ok).0

  each_variable : (k : ℕ) → k < variable_count_of bs → variable_refusal (variable_place k) (cells_below bs k) (variable_part bs k) ≡ None
  unfolding sheet_refusal variables_refusal
  each_variable = none_first _ (variable_count_of bs) (both_none (variables_refusal bs (variable_count_of bs)) _ (both_none (header_refusal bs) _ ok).1).0

  each_record : (k : ℕ) → k < record_count_of bs → record_refusal (record_place (variable_count_of bs) k) (record_part bs (variable_count_of bs) k) ≡ None
  unfolding sheet_refusal records_refusal
  each_record = none_first _ (record_count_of bs) (both_none (variables_refusal bs (variable_count_of bs)) _ (both_none (header_refusal bs) _ ok).1).1

  variables : (vs : List Variable) × (length vs ≡ variable_count_of bs) × AllByRecursion VariableFits vs × (take (4 * variable_count_of bs) (drop 4 bs) ≡ flat_map variable_bytes vs)
  variables =
      let long = known.long in
      pieces variable_bytes 4 length_variable VariableFits (take (4 * variable_count_of bs) (drop 4 bs)) (variable_count_of bs)
      (simp (length-take, length-drop) (omega arith))
      (λ k h.
      let x = variable_from (variable_place k) (cells_below bs k) (variable_part bs k) (part_long bs (variable_place k) 4 (omega arith)) (part_fits bs (variable_place k) 4 fits) (each_variable k h) in
      (x.0, x.1, inner (drop 4 bs) 4 (4 * k) (4 * variable_count_of bs) (omega arith) ∙ ap (take 4) (drop-drop (4 * k) 4 bs) ∙ sym (cut bs (variable_place k) 4) ∙ x.2))

  records : (rs : List Record) × (length rs ≡ record_count_of bs) × AllByRecursion RecordFits rs × (drop (4 * variable_count_of bs) (drop 4 bs) ≡ flat_map record_bytes rs)
  records =
      let long = known.long in
      pieces record_bytes 12 length_record RecordFits (drop (4 * variable_count_of bs) (drop 4 bs)) (record_count_of bs)
      (simp length-drop (omega arith))
      (λ k h.
      let x = record_from (record_place (variable_count_of bs) k) (record_part bs (variable_count_of bs) k) (part_long bs (record_place (variable_count_of bs) k) 12 (omega arith)) (part_fits bs (record_place (variable_count_of bs) k) 12 fits) (each_record k h) in
      (x.0, x.1, ap (λ l. take 12 (drop (12 * k) l)) (drop-drop (4 * variable_count_of bs) 4 bs) ∙ ap (take 12) (drop-drop (12 * k) (4 + 4 * variable_count_of bs) bs) ∙ sym (cut bs (record_place (variable_count_of bs) k) 12) ∙ x.2))

  four : take 4 bs ≡ byte bs 0 ∷ byte bs 1 ∷ byte bs 2 ∷ byte bs 3 ∷ []
  four =
      let long = known.long in
      fill_by_all (byte bs) (take 4 bs) 4 0 (length-take-le 4 bs (omega arith)) (λ k h. get_or-take 4 bs k 0 h)

  same : bs ≡ sheet_bytes variables.0 records.0
  same =
      let low : length records.0 % 256 ≡ byte bs 2 = ap (λ n. n % 256) records.1 ∙ word16_low (byte bs 2) (byte bs 3) (fits 2) (fits 3) in
      let high : length records.0 / 256 % 256 ≡ byte bs 3 = ap (λ n. n / 256 % 256) records.1 ∙ word16_high (byte bs 2) (byte bs 3) (fits 2) (fits 3) in
      let whole : bs ≡ take 4 bs ++ drop 4 bs = sym (take-append-drop 4 bs) in
      let rest : drop 4 bs ≡ flat_map variable_bytes variables.0 ++ flat_map record_bytes records.0 = sym (take-append-drop (4 * variable_count_of bs) (drop 4 bs)) ∙ (λ i. variables.3 i ++ records.3 i) in
      whole ∙ (λ i. four i ++ rest i) ∙ cc (known.version, variables.1, low, high)

  few : (n : ℕ) → variable_count_of bs ≡ n → 1 ≤ n → cells_below bs n ≤ 16384
  few zero e h = absurd (omega arith)
  few (suc k) e h = variable_few (variable_place k) (cells_below bs k) (variable_part bs k) (each_variable k (omega arith))

  total : (vs : List Variable) (rs : List Record) → length vs ≡ variable_count_of bs → AllByRecursion VariableFits vs → bs ≡ sheet_bytes vs rs → total_cells vs ≤ 16384
  total [] rs e all is = omega arith
  total (x ∷ xs) rs e all is =
      let c : cells_below bs (length (x ∷ xs)) ≡ total_cells (x ∷ xs) =
      ap (λ l. cells_below l (length (x ∷ xs))) is ∙ cells_so_far (x ∷ xs) rs all x (length (x ∷ xs)) (omega arith)
      ∙ ap total_cells (take_all (length (x ∷ xs)) (x ∷ xs) (omega arith)) in
      omega (arith, few (length (x ∷ xs)) (sym e) (omega arith))

  -- so the bytes are the sheet of some tables within the limits
  pub laid_out : (vs : List Variable) × (rs : List Record) × WithinLimits vs rs × (bs ≡ sheet_bytes vs rs)
  laid_out =
      let h = known in
      let n = variables.1 in
      let m = records.1 in (
        variables.0,
        records.0,
        record {
          some_variable = omega arith;
          few_variables = omega arith;
          some_record = omega arith;
          few_records = omega arith;
          variables = variables.2;
          few_cells = total variables.0 records.0 variables.1 variables.2 same;
          records = records.2;
        },
        same,
      )
