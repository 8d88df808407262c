-- A fault of the shape names a defect that the program has. Assumes nothing.
use Rattle.std.proofs.Common.{◌≡◌, ℕ, ◌+◌, ◌-◌, ◌<◌, Bool, true, false, eqb, leb, length, Some, None, Option, Decides, subst, arith}
use Rattle.std.specs.Option.{option_or}
use Rattle.std.proofs.lemmas.Bool.{leb-true, le-leb}
use Rattle.std.proofs.lemmas.Bool.Decides.{Decides-eqb}
use Rattle.refusal.specs.Answers.{expect, first_below}
use Rattle.labels.specs.Labels.{Labels}
use Rattle.model.specs.Nesting.{record_at, times_linked, place}
use Rattle.model.specs.Program.{Program, IsRecord, label_of}
use Rattle.model.proofs.Linkers.{found_first}
use Rattle.rules.specs.declared.faults.ShapeFault.{ShapeFault}
use Rattle.rules.specs.declared.faults.ShapeFault.TheVariants.{VariableLabel, LinkedOnce, Depth}
use Rattle.rules.specs.Shape.{record_refusal}
use Rattle.checker.specs.Accepting.{Defect}
use Rattle.checker.specs.Checks.{variables_refusal, records_refusal, once_refusal, depth_refusal, entries_refusal, shape_refusal}
use Rattle.checker.proofs.Exact.{a_present, a_kinds, a_lengths, a_links}

module _ (L : Labels) (p : Program) where
  abbrev Blames : Option ShapeFault → Type 0
  Blames o = (f : ShapeFault) → o ≡ Some f → Defect L p f

  b_test : {P : Type 0} (b : Bool) (fault : ShapeFault) → Decides b P → ((P → ⊥) → Defect L p fault) → Blames (expect b fault)
  b_test true fault d h f e = absurd cc
  b_test false fault d h f e =
      let same : fault ≡ f = cc in
      subst (Defect L p) same (h (λ x. let t = d.1 x in absurd cc))

  b_both : (o q : Option ShapeFault) → Blames o → Blames q → Blames (option_or o q)
  b_both None q h k f e = k f e
  b_both (Some g) q h k f e = h f e

  b_below : (t : ℕ → Option ShapeFault) (n : ℕ) → ((j : ℕ) → j < n → Blames (t j)) → Blames (first_below t n)
  b_below t n h f e = let w = found_first t n f e in h w.0 w.1 f w.2

  b_variable : (v : ℕ) → v < length p.variables → Blames (expect (L.known (label_of p.variables v)) (VariableLabel v))
  b_variable v h = b_test (L.known (label_of p.variables v)) _ (λ e. e, λ e. e) (λ n. (h, n))

  b_record : (j : ℕ) → j < length p.records → Blames (record_refusal L p.variables (length p.records) (j + 1) (record_at p.records (j + 1)))
  unfolding record_refusal
  b_record j h =
      let k = j + 1 in
      let at : IsRecord p k = (omega arith, omega arith) in
      let r = record_at p.records k in
      b_both _ _ (b_test (L.known r.label) _ (λ e. e, λ e. e) (λ n. (at, n)))
      (b_both _ _ (b_test _ _ (a_present p r.form) (λ n. (at, n)))
      (b_both _ _ (b_test _ _ (a_kinds p r.form) (λ n. (at, n)))
      (b_both _ _ (b_test _ _ (a_links (length p.records) k r) (λ n. (at, n)))
      (b_test _ _ (a_lengths p r.form) (λ n. (at, n))))))

  b_once : (j : ℕ) → j < length p.records - 1 → Blames (expect (eqb (times_linked p.records (j + 2)) 1) (LinkedOnce (j + 2)))
  b_once j h = b_test _ _ (Decides-eqb (times_linked p.records (j + 2)) 1) (λ n. (omega arith, omega arith, n))

  b_depth : (j : ℕ) → j < length p.records → Blames (expect (leb (place p.records (j + 1)).depth 16) (Depth (j + 1)))
  b_depth j h = b_test _ _ (leb-true _ _, le-leb _ _) (λ n. ((omega arith, omega arith), n))

  pub blames : Blames (shape_refusal L p)
  unfolding shape_refusal entries_refusal variables_refusal records_refusal once_refusal depth_refusal
  blames =
      b_both _ _
      (b_both _ _ (b_below _ _ b_variable)
      (b_both _ _ (b_below _ _ b_record)
      (b_below _ _ b_once)))
      (b_below _ _ b_depth)
