-- What accept's answer tells. Assumes nothing.
use Rattle.std.proofs.Common.{◌≡◌, ℕ, Some, None, Result, sym, ap, ◌∙◌, subst, ⊎_elim}
use Rattle.std.specs.Option.{option_map}
use Rattle.refusal.specs.declared.Layer.TheVariants as Layer
use Rattle.refusal.specs.declared.Refusal.{Refusal}
use Rattle.refusal.specs.Refusals.{refused_at}
use Rattle.refusal.specs.Answers.{answer}
use Rattle.refusal.proofs.First.{both_none}
use Rattle.refusal.proofs.Answering.{accepted, refused}
use Rattle.labels.specs.Labels.{Labels, Lawful}
use Rattle.model.specs.declared.rule.Rule.{Rule}
use Rattle.model.specs.Program.{Program, IsRecord}
use Rattle.model.specs.Rules.{WellShaped, Keeps, Accepted}
use Rattle.model.proofs.Theorem.{secrecy}
use Rattle.rules.specs.Faults.{shape_number, shape_place, shape_refusal_of, rule_refusal_of, rule_number}
use Rattle.rules.specs.declared.faults.ShapeFault.{ShapeFault}
use Rattle.checker.specs.Accepting.{accept_refusal, Defect, Verdict, IsMisshapen}
use Rattle.checker.proofs.Blames.{blames}
use Rattle.checker.proofs.OnePlace.{one_place}
use Rattle.checker.proofs.Joint.{both, map_none, either}
use Rattle.checker.proofs.Exact.{shape_sound, shape_complete, rules_sound, rules_breach, rules_complete}

-- without a refusal, shape and rules are kept
pub accepts : (L : Labels) (p : Program) → accept_refusal L p ≡ None → Accepted L p
unfolding accept_refusal
accepts L p e =
    let b = both_none _ _ e in
    record { shape = shape_sound L p (map_none shape_refusal_of _ b.0); rules = rules_sound L p (map_none rule_refusal_of _ b.1) }

module _ (L : Labels) (W : Lawful L) (p : Program) (r : Result (Unit {0}) Refusal) (is : r ≡ answer (accept_refusal L p) tt) where
  clear : Accepted L p → accept_refusal L p ≡ None
  unfolding accept_refusal
  clear A = both _ _ (ap (option_map shape_refusal_of) (shape_complete L p A.shape)) (ap (option_map rule_refusal_of) (rules_complete L p A.rules))

  names : (number place : ℕ) → accept_refusal L p ≡ Some (refused_at Layer.Rule number place) →
      (k : Rule) × (rule_number k ≡ number) × WellShaped L p × IsRecord p place × (Keeps L p place k → ⊥)
  unfolding accept_refusal
  names number place e =
      ⊎_elim
      (λ s. let v : Layer.Shape ≡ Layer.Rule = ap (λ (t : Refusal). t.layer) s.2 in absurd cc)
      (λ t.
      let f = t.1.0 in
      let at : f.place ≡ place = ap (λ (t : Refusal). t.place) t.1.2 in
      let n = rules_breach L p f t.1.1 in
      (f.rule, ap (λ (t : Refusal). t.number) t.1.2, shape_sound L p t.0, subst (IsRecord p) at n.0, λ h. n.1 (subst (λ i. Keeps L p i f.rule) (sym at) h)))
      (either shape_refusal_of rule_refusal_of _ _ _ e)

  defect : (number place : ℕ) → accept_refusal L p ≡ Some (refused_at Layer.Shape number place) →
      (WellShaped L p → ⊥) × ((f : ShapeFault) × (shape_number f ≡ number) × (shape_place f ≡ place) × Defect L p f)
  unfolding accept_refusal
  defect number place e =
      ⊎_elim
      (λ s. (
        λ fits. let n = shape_complete L p fits in let o = s.1 in absurd cc,
        (s.0, ap (λ (t : Refusal). t.number) s.2, ap (λ (t : Refusal). t.place) s.2, blames L p s.0 s.1),
      ))
      (λ t. let v : Layer.Rule ≡ Layer.Shape = ap (λ (t : Refusal). t.layer) t.1.2 in absurd cc)
      (either shape_refusal_of rule_refusal_of _ _ _ e)

  pub verdict : Verdict L p r
  verdict =
      record {
        sound = λ e. let a = accepts L p (accepted _ _ _ (sym e ∙ is)).0 in (a, secrecy L W p a);
        complete = λ A. is ∙ ap (λ o. answer o tt) (clear A);
        places = λ l k h. one_place p.records l k h.0 h.1;
        breach = λ number place e. names number place (refused _ _ _ (sym e ∙ is));
      }

  pub misshapen : IsMisshapen L p r
  misshapen number place e = defect number place (refused _ _ _ (sym e ∙ is))
