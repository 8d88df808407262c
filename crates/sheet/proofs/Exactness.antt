-- Reading and laying out are exact. Assumes nothing.
use Rattle.std.proofs.Common.{◌≡◌, ℕ, suc, ◌≤◌, cond, List, [], ◌∷◌, length, take, drop, is_some, None, Ok, Result, sym, refl, ap, ◌∙◌, subst}
use Rattle.std.specs.List.{slice_get}
use Rattle.std.proofs.lemmas.List.{take_at}
use Rattle.refusal.specs.Answers.{answer}
use Rattle.refusal.proofs.Answering.{accepted}
use Rattle.sheet.specs.declared.faults.SheetFault.{SheetFault}
use Rattle.sheet.specs.declared.tables.Variable.{Variable}
use Rattle.sheet.specs.declared.tables.Record.{Record}
use Rattle.sheet.specs.Format.{sheet_bytes}
use Rattle.sheet.specs.Reading.{sheet_refusal}
use Rattle.sheet.specs.Layout.{layout_refusal, laid_over, over}
use Rattle.sheet.specs.Exact.{WithinLimits, Holds, ReadsExactly, LaysExactly}
use Rattle.sheet.proofs.Decoding.{Bytes}
use Rattle.sheet.proofs.ReadsBack.{reads_back}
use Rattle.sheet.proofs.LaidOut.{laid_out}
use Rattle.sheet.proofs.TableChecks.{from_limits, counted, layout_fits}

-- lists that agree at each place are equal
same_list : {X : Type 0} (xs ys : List X) → ((k : ℕ) → slice_get xs k ≡ slice_get ys k) → xs ≡ ys
same_list [] [] h = refl
same_list [] (y ∷ ys) h = let e = h 0 in cc
same_list (x ∷ xs) [] h = let e = h 0 in cc
same_list (x ∷ xs) (y ∷ ys) h =
    let e = h 0 in
    let t = same_list xs ys (λ k. h (suc k)) in
    let d : x ≡ y = cc in
    cc

module _ (bs : List ℕ) (fits : Bytes bs) (r : Result (Unit {0}) SheetFault) (is : r ≡ answer (sheet_refusal bs) tt) where
  clear : r ≡ Ok tt → sheet_refusal bs ≡ None
  clear e = (accepted _ _ _ (sym e ∙ is)).0

  encoded : (vs : List Variable) (rs : List Record) → (r ≡ Ok tt) × Holds bs vs rs → WithinLimits vs rs × (bs ≡ sheet_bytes vs rs)
  encoded vs rs h =
      let t = laid_out bs fits (clear h.0) in
      let back = subst (λ l. Holds l t.0 t.1) (sym t.3) (reads_back t.0 t.1 t.2).1 in
      let v = same_list t.0 vs (λ k. sym (back.variables k) ∙ h.1.variables k) in
      let w = same_list t.1 rs (λ k. sym (back.records k) ∙ h.1.records k) in
      let P : List Variable → List Record → Type 0 = λ vs rs. WithinLimits vs rs × (bs ≡ sheet_bytes vs rs) in
      subst (λ vs. P vs rs) v (subst (P t.0) w (t.2, t.3))

  decoded : (vs : List Variable) (rs : List Record) → WithinLimits vs rs × (bs ≡ sheet_bytes vs rs) → (r ≡ Ok tt) × Holds bs vs rs
  decoded vs rs h =
      let b = reads_back vs rs h.0 in
      (is ∙ ap (λ o. answer o tt) (ap sheet_refusal h.1 ∙ b.0), subst (λ l. Holds l vs rs) (sym h.1) b.1)

  pub reads_exactly : ReadsExactly bs r
  reads_exactly = record {
    exact = λ vs rs. (encoded vs rs, decoded vs rs);
    some = λ e. laid_out bs fits (clear e);
  }

module _ (vs : List Variable) (rs : List Record) (before : List ℕ) (r : Result ℕ SheetFault) (after : List ℕ)
    (is : r ≡ answer (layout_refusal vs rs (length before)) (length (sheet_bytes vs rs))) (left : after ≡ laid_over vs rs before) where
  goes : WithinLimits vs rs → length (sheet_bytes vs rs) ≤ length before → layout_refusal vs rs (length before) ≡ None
  goes fit room =
      layout_fits vs rs (length before) (counted vs rs None (from_limits _ _ fit.some_variable fit.few_variables fit.some_record fit.few_records) ∙ (reads_back vs rs fit).0) room

  pub lays_exactly : LaysExactly vs rs before r after
  lays_exactly = record {
    succeeds = λ fit room. is ∙ ap (λ o. answer o (length (sheet_bytes vs rs))) (goes fit room);
    reads_back = λ fit n e.
        let a = accepted _ _ _ (sym e ∙ is) in
        let w : after ≡ over (sheet_bytes vs rs) before = left ∙ ap (λ o. cond (is_some o) before (over (sheet_bytes vs rs) before)) a.0 in
        let front : take n after ≡ sheet_bytes vs rs = (λ i. take (a.1 i) (w i)) ∙ take_at (sheet_bytes vs rs) (drop (length (sheet_bytes vs rs)) before) (length (sheet_bytes vs rs)) refl in
        let b = reads_back vs rs fit in
        (ap sheet_refusal front ∙ b.0, subst (λ l. Holds l vs rs) (sym front) b.1);
  }
