-- The computed checks agree with the shape and the rules. Assumes nothing.
use Rattle.std.proofs.Common.{◌≡◌, ℕ, ◌+◌, ◌-◌, ◌≤◌, ltb, ◌<◌, length, Some, None, Option, Decides, refl, subst, arith}
use Rattle.std.specs.List.{AllByRecursion}
use Rattle.std.proofs.lemmas.Bool.{leb-true, le-leb}
use Rattle.std.proofs.lemmas.Bool.Decides.{Decides-and, Decides-eqb, Decides-ltb}
use Rattle.sheet.specs.declared.tables.Form.{Form}
use Rattle.sheet.specs.declared.tables.Form.TheVariants.{Oram}
use Rattle.sheet.specs.declared.tables.Record.{Record}
use Rattle.refusal.proofs.First.{both_none, none_first}
use Rattle.labels.specs.Labels.{Labels, Known}
use Rattle.model.specs.declared.rule.Rule.{Rule}
use Rattle.model.specs.Nesting.{Rises, links, branches, record_at, times_linked, place, Linked}
use Rattle.model.specs.Program.{Program, IsVariable, IsRecord, kind_of, label_of, length_of, numbers, arrays}
use Rattle.model.specs.Rules.{IsNumber, IsArray, Present, RightKinds, SameLength, WellShaped, WellTyped, Keeps}
use Rattle.model.proofs.Linkers.{found_first}
use Rattle.rules.specs.declared.faults.RuleFault.{RuleFault}
use Rattle.rules.specs.Shape.{is_number, is_array, present, right_kinds, same_length, links_fit, record_refusal}
use Rattle.checker.specs.Checks.{variables_refusal, records_refusal, once_refusal, depth_refusal, entries_refusal, shape_refusal}
use Rattle.rules.specs.Breaches.{breaks, rules}
use Rattle.checker.specs.Breaches.{labelled_at, rule_refusal, rules_refusal}
use Rattle.checker.proofs.Decided.{a_always, a_one, a_all, a_number, a_array, a_rises}
use Rattle.checker.proofs.Joint.{both, map_none, map_some}
use Rattle.checker.proofs.Clear.{Clears, c_test, c_both, c_below, shifted}
use Rattle.checker.proofs.Deciding.{decided, none_broken, some_broken}

module _ (p : Program) where
  pub a_present : (f : Form) → Decides (present p.variables f) (Present p f)
  a_present f =
      Decides-and _ _ (a_all (λ v. ltb v (length p.variables)) (IsVariable p) (λ v. Decides-ltb v (length p.variables)) (numbers f))
      (a_all (λ v. ltb v (length p.variables)) (IsVariable p) (λ v. Decides-ltb v (length p.variables)) (arrays f))

  pub a_kinds : (f : Form) → Decides (right_kinds p.variables f) (RightKinds p f)
  a_kinds f =
      Decides-and _ _ (a_all (λ v. is_number (kind_of p.variables v)) (IsNumber p) (λ v. a_number (kind_of p.variables v)) (numbers f))
      (a_all (λ v. is_array (kind_of p.variables v)) (IsArray p) (λ v. a_array (kind_of p.variables v)) (arrays f))

  pub a_lengths : (f : Form) → Decides (same_length p.variables f) (SameLength p f)
  a_lengths (Oram x a) = Decides-eqb (length_of p.variables x) (length_of p.variables a)
  a_lengths f = a_always

pub a_links : (n k : ℕ) (r : Record) → Decides (links_fit n k r) (AllByRecursion (Rises n k) (links r))
a_links n k r = Decides-and _ _ (a_rises n k r.next) (Decides-and _ _ (a_rises n k (branches r.form).0) (a_one (a_rises n k (branches r.form).1)))

module _ (L : Labels) (p : Program) where
  -- what record k must keep by itself
  abbrev Whole : ℕ → Type 0
  Whole k =
      let r = record_at p.records k in
      Known L r.label × (Present p r.form × (RightKinds p r.form × (AllByRecursion (Rises (length p.records) k) (links r) × SameLength p r.form)))

  c_record : (k : ℕ) → Clears (record_refusal L p.variables (length p.records) k (record_at p.records k)) (Whole k)
  unfolding record_refusal
  c_record k =
      let r = record_at p.records k in
      c_both _ _ (c_test (L.known r.label) _ (λ e. e, λ e. e)) (c_both _ _ (c_test _ _ (a_present p r.form)) (c_both _ _ (c_test _ _ (a_kinds p r.form))
      (c_both _ _ (c_test _ _ (a_links (length p.records) k r)) (c_test _ _ (a_lengths p r.form)))))

  c_entries : Clears (entries_refusal L p)
      (((v : ℕ) → v < length p.variables → Known L (label_of p.variables v))
      × (((j : ℕ) → j < length p.records → Whole (j + 1))
      × ((j : ℕ) → j < length p.records - 1 → times_linked p.records (j + 2) ≡ 1)))
  unfolding entries_refusal variables_refusal records_refusal once_refusal
  c_entries =
      c_both _ _ (c_below _ _ _ (λ v. c_test (L.known (label_of p.variables v)) _ (λ e. e, λ e. e)))
      (c_both _ _ (c_below _ _ _ (λ j. c_record (j + 1)))
      (c_below _ _ _ (λ j. c_test _ _ (Decides-eqb (times_linked p.records (j + 2)) 1))))

  c_depth : Clears (depth_refusal p.records (length p.records)) ((j : ℕ) → j < length p.records → (place p.records (j + 1)).depth ≤ 16)
  unfolding depth_refusal
  c_depth = c_below _ _ _ (λ j. c_test _ _ (leb-true _ _, le-leb _ _))

  -- before the walk: links are as they should be
  pub entries_linked : entries_refusal L p ≡ None → Linked p.records
  entries_linked e =
      let a = c_entries.0 e in
      record {
        rises = λ k low high. (shifted Whole 1 (length p.records) a.1.0 k low (omega arith)).1.1.1.0;
        once = λ k low high. shifted (λ k. times_linked p.records k ≡ 1) 2 (length p.records - 1) a.1.1 k low (omega arith);
      }

  pub shape_sound : shape_refusal L p ≡ None → WellShaped L p
  unfolding shape_refusal
  shape_sound e =
      let b = both_none _ _ e in
      let a = c_entries.0 b.0 in
      let whole : (r : ℕ) → IsRecord p r → Whole r = λ r h. shifted Whole 1 (length p.records) a.1.0 r h.0 (omega arith) in
      record {
        variable_labels = a.0;
        record_labels = λ r h. (whole r h).0;
        sound = record {
          present = λ r h. (whole r h).1.0;
          kinds = λ r h. (whole r h).1.1.0;
          linked = entries_linked b.0;
          shallow = λ r h. shifted (λ r. (place p.records r).depth ≤ 16) 1 (length p.records) (c_depth.0 b.1) r h.0 (omega arith);
          lengths = λ r h. (whole r h).1.1.1.1;
        };
      }

  pub shape_complete : WellShaped L p → shape_refusal L p ≡ None
  unfolding shape_refusal
  shape_complete W =
      let at : (j : ℕ) → j < length p.records → IsRecord p (j + 1) = λ j h. (omega arith, omega arith) in
      let s = W.sound in
      both _ _
      (c_entries.1 (
        W.variable_labels,
        (
          λ j h. (W.record_labels _ (at j h), (s.present _ (at j h), (s.kinds _ (at j h), (s.linked.rises (j + 1) (omega arith) (omega arith), s.lengths _ (at j h))))),
          λ j h. s.linked.once (j + 2) (omega arith) (omega arith),
        ),
      ))
      (c_depth.1 (λ j h. s.shallow _ (at j h)))

  pub rules_sound : rules_refusal L p (length p.records) ≡ None → WellTyped L p
  unfolding rules_refusal rule_refusal
  rules_sound e r h =
      shifted (λ r. (k : Rule) → Keeps L p r k) 1 (length p.records)
      (λ j l k. (decided L p (j + 1) k).0 (none_broken (breaks L (labelled_at L p (j + 1))) (map_none _ _ (none_first (λ j. rule_refusal L p (j + 1)) (length p.records) e j l)) k)) r h.0 (omega arith)

  -- the record named breaks the rule named
  pub rules_breach : (f : RuleFault) → rules_refusal L p (length p.records) ≡ Some f → IsRecord p f.place × (Keeps L p f.place f.rule → ⊥)
  unfolding rules_refusal rule_refusal
  rules_breach f e =
      let t = found_first (λ j. rule_refusal L p (j + 1)) (length p.records) f e in
      let s = map_some _ _ f t.2 in
      let b = some_broken (breaks L (labelled_at L p (t.0 + 1))) rules s.0 s.1 in
      subst (λ (f : RuleFault). IsRecord p f.place × (Keeps L p f.place f.rule → ⊥)) s.2 ((omega arith, omega (arith, t.1)), (decided L p (t.0 + 1) s.0).1 b)

  pub rules_complete : WellTyped L p → rules_refusal L p (length p.records) ≡ None
  rules_complete W = go (rules_refusal L p (length p.records)) refl
    where
      go : (o : Option RuleFault) → rules_refusal L p (length p.records) ≡ o → o ≡ None
      go None e = refl
      go (Some f) e = let b = rules_breach f e in absurd (b.1 (W f.place b.0 f.rule))
