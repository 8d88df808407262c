-- Tables within the limits are read back from their sheet. Assumes nothing.
use Rattle.std.proofs.Common.{◌≡◌, ℕ, zero, suc, ◌+◌, ◌-◌, ◌*◌, ◌<◌, ◌≤◌, List, [], ◌∷◌, length, get_or, take, drop, Some, None, Option, sym, refl, ap, ◌∙◌, ⊎_elim, append-nil, arith}
use Rattle.std.specs.List.{flat_map, AllByRecursion}
use Rattle.std.specs.Option.{option_or}
use Rattle.std.proofs.lemmas.List.{drop-drop, drop_at, length-append}
use Rattle.std.proofs.lemmas.Option.{slice_get-get_or, slice_get_past}
use Rattle.std.proofs.lemmas.Bool.{cases_lt}
use Rattle.std.proofs.lemmas.Bool.Decides.{nat_tests}
use Rattle.sheet.specs.declared.tables.Variable.{Variable}
use Rattle.sheet.specs.declared.tables.Record.{Record}
use Rattle.sheet.specs.Tables.{cells}
use Rattle.sheet.specs.Format.{sheet_bytes, variable_bytes, record_bytes, variable_of, record_of, word16}
use Rattle.sheet.specs.Reading.{header_refusal, variable_refusal, variables_refusal, record_refusal, records_refusal, sheet_refusal, record_count_of, variable_part, record_part, variable_place, record_place, cells_below}
use Rattle.sheet.specs.Exact.{VariableFits, RecordFits, total_cells, WithinLimits, Holds}
use Rattle.sheet.proofs.Coding.{le16_back, variable_back, record_back, variable_passes, record_passes, variable_cells, length_variable, length_record}
use Rattle.sheet.proofs.Chunks.{length_joined, piece, cut}
use Rattle.sheet.proofs.Entries.{variable_here, variable_past, record_here, record_past}
use Rattle.refusal.proofs.First.{first_none}

all_at : {X : Type 0} (P : X → Type 0) (xs : List X) → AllByRecursion P xs → (k : ℕ) (d : X) → k < length xs → P (get_or xs k d)
all_at P [] h k d l = absurd (omega arith)
all_at P (x ∷ xs) h zero d l = h.0
all_at P (x ∷ xs) h (suc k) d l = all_at P xs h.1 k d (omega arith)

total_more : (vs : List Variable) (k : ℕ) (d : Variable) → k < length vs → total_cells (take (suc k) vs) ≡ total_cells (take k vs) + cells (get_or vs k d).kind
total_more [] k d h = absurd (omega arith)
total_more (v ∷ vs) zero d h = omega arith
total_more (v ∷ vs) (suc k) d h = omega (arith, total_more vs k d (omega arith))

total_part : (vs : List Variable) (k : ℕ) → total_cells (take k vs) ≤ total_cells vs
total_part vs zero = omega arith
total_part [] (suc k) = omega arith
total_part (v ∷ vs) (suc k) = omega (arith, total_part vs k)

or_none : {X : Type 0} (o : Option X) → option_or o None ≡ o
or_none None = refl
or_none (Some x) = refl

module _ (vs : List Variable) (rs : List Record) where
  pub variable_part_is : (k : ℕ) (d : Variable) → k < length vs → variable_part (sheet_bytes vs rs) k ≡ variable_bytes (get_or vs k d)
  variable_part_is k d h =
      cut (sheet_bytes vs rs) (variable_place k) 4
      ∙ ap (take 4) (sym (drop-drop (4 * k) 4 (sheet_bytes vs rs)))
      ∙ piece variable_bytes 4 length_variable vs (flat_map record_bytes rs) k d h

  pub record_part_is : (k : ℕ) (d : Record) → k < length rs → record_part (sheet_bytes vs rs) (length vs) k ≡ record_bytes (get_or rs k d)
  record_part_is k d h =
      cut (sheet_bytes vs rs) (record_place (length vs) k) 12
      ∙ ap (take 12) (
      sym (drop-drop (12 * k) (4 + 4 * length vs) (sheet_bytes vs rs))
      ∙ ap (drop (12 * k)) (
      sym (drop-drop (4 * length vs) 4 (sheet_bytes vs rs))
      ∙ drop_at (flat_map variable_bytes vs) (flat_map record_bytes rs) (4 * length vs) (length_joined variable_bytes 4 length_variable vs)
      ∙ sym (append-nil (flat_map record_bytes rs))))
      ∙ piece record_bytes 12 length_record rs [] k d h

  record_count_is : length rs ≤ 512 → record_count_of (sheet_bytes vs rs) ≡ length rs
  record_count_is few = le16_back (length rs) (omega arith)

  pub cells_so_far : AllByRecursion VariableFits vs → (d : Variable) (k : ℕ) → k ≤ length vs → cells_below (sheet_bytes vs rs) k ≡ total_cells (take k vs)
  cells_so_far all d zero h = refl
  cells_so_far all d (suc k) h =
      let v = get_or vs k d in
      let part = ap (λ q. word16 q 2) (variable_part_is k d h) ∙ variable_cells v (all_at VariableFits vs all k d h) in
      let before = cells_so_far all d k (omega arith) in
      omega (arith, part, before, total_more vs k d h)

  pub records_pass : (e : Record) → records_refusal (sheet_bytes vs rs) (length vs) (length rs) ≡ None
  unfolding records_refusal
  records_pass e = first_none _ (length rs) (λ k h.
      ap (record_refusal (record_place (length vs) k)) (record_part_is k e h) ∙ record_passes (record_place (length vs) k) (get_or rs k e))

  pub sheet_long : length (sheet_bytes vs rs) ≡ 4 + 4 * length vs + 12 * length rs
  sheet_long = omega (arith, length-append (flat_map variable_bytes vs) (flat_map record_bytes rs), length_joined variable_bytes 4 length_variable vs, length_joined record_bytes 12 length_record rs)

  pub header_passes : 1 ≤ length vs → length vs ≤ 64 → 1 ≤ length rs → length rs ≤ 512 → header_refusal (sheet_bytes vs rs) ≡ None
  unfolding header_refusal
  header_passes v w r t =
      let l = sheet_long in
      let c = record_count_is t in
      grind (arith, nat_tests)

  -- only a variable can be refused
  pub refused_by_variables : (e : Record) → 1 ≤ length vs → length vs ≤ 64 → 1 ≤ length rs → length rs ≤ 512 → sheet_refusal (sheet_bytes vs rs) ≡ variables_refusal (sheet_bytes vs rs) (length vs)
  unfolding sheet_refusal
  refused_by_variables e v w r t =
      ap (λ o. option_or o (option_or (variables_refusal (sheet_bytes vs rs) (length vs)) (records_refusal (sheet_bytes vs rs) (length vs) (record_count_of (sheet_bytes vs rs))))) (header_passes v w r t)
      ∙ ap (option_or (variables_refusal (sheet_bytes vs rs) (length vs))) (ap (records_refusal (sheet_bytes vs rs) (length vs)) (record_count_is t) ∙ records_pass e)
      ∙ or_none (variables_refusal (sheet_bytes vs rs) (length vs))

  module _ (fit : WithinLimits vs rs) (d : Variable) (e : Record) where
    variables_pass : variables_refusal (sheet_bytes vs rs) (length vs) ≡ None
    unfolding variables_refusal
    variables_pass = first_none _ (length vs) (λ k h.
        let v = get_or vs k d in
        let few : total_cells (take k vs) + cells v.kind ≤ 16384 = omega (arith, total_more vs k d h, total_part vs (suc k), fit.few_cells) in
        ap (λ q. variable_refusal (variable_place k) (cells_below (sheet_bytes vs rs) k) q) (variable_part_is k d h)
        ∙ ap (λ n. variable_refusal (variable_place k) n (variable_bytes v)) (cells_so_far fit.variables d k (omega arith))
        ∙ variable_passes (variable_place k) (total_cells (take k vs)) v (all_at VariableFits vs fit.variables k d h) few)

    not_refused : sheet_refusal (sheet_bytes vs rs) ≡ None
    not_refused = refused_by_variables e fit.some_variable fit.few_variables fit.some_record fit.few_records ∙ variables_pass

    holds : Holds (sheet_bytes vs rs) vs rs
    holds =
        let count = record_count_is fit.few_records in
        record {
          variables = λ k. ⊎_elim
              (λ h. variable_here (sheet_bytes vs rs) k h ∙ ap variable_of (variable_part_is k d h) ∙ variable_back (get_or vs k d) (all_at VariableFits vs fit.variables k d h) ∙ sym (slice_get-get_or vs k d h))
              (λ h. variable_past (sheet_bytes vs rs) k h ∙ sym (slice_get_past vs k h))
              (cases_lt k (length vs));
          records = λ k. ⊎_elim
              (λ h.
              let at : k + 1 - 1 ≡ k = omega arith in
              record_here (sheet_bytes vs rs) (length vs) (k + 1) refl (omega arith) (omega arith)
              ∙ ap (λ i. record_of (record_part (sheet_bytes vs rs) (length vs) i)) at
              ∙ ap record_of (record_part_is k e h) ∙ record_back (get_or rs k e) (all_at RecordFits rs fit.records k e h) ∙ sym (slice_get-get_or rs k e h))
              (λ h. record_past (sheet_bytes vs rs) (k + 1) (omega arith) ∙ sym (slice_get_past rs k h))
              (cases_lt k (length rs));
        }

-- tables within the limits are read back from their sheet
pub reads_back : (vs : List Variable) (rs : List Record) → WithinLimits vs rs → (sheet_refusal (sheet_bytes vs rs) ≡ None) × Holds (sheet_bytes vs rs) vs rs
reads_back [] rs fit = let h = fit.some_variable in absurd (omega arith)
reads_back (v ∷ vs) [] fit = let h = fit.some_record in absurd (omega arith)
reads_back (v ∷ vs) (r ∷ rs) fit = (not_refused (v ∷ vs) (r ∷ rs) fit v r, holds (v ∷ vs) (r ∷ rs) fit v r)
