-- The worked cases hold: all but a few are computed.
use Rattle.std.proofs.Common.{◌≡◌, ℕ, zero, suc, ◌<◌, true, false, List, ◌∷◌, refl, inl, arith}
use Rattle.std.proofs.lemmas.Bool.{both_ways}
use Rattle.std.specs.List.{AllByRecursion}
use Rattle.model.specs.Nesting.{record_at, links, Rises, linker, place, times_linked}
use Rattle.model.specs.Program.{IsRecord, variable_at, base, cells_needed}
use Rattle.model.specs.Rules.{WellShaped, WellTyped, Keeps}
use Rattle.sheet.specs.declared.tables.Form.TheVariants.{If}
use Rattle.model.specs.Machine.{Memory, onward, mux, holds, apply, fetched, inside, held, put, carried, ended, step, written, stripped}
use Rattle.model.specs.Log.{pick}
use Rattle.model.proofs.Picked.{picked, covered}
use Rattle.model.specs.Session as session
use Rattle.labels.specs.Orders.{two_party}
use Rattle.labels.specs.TwoLaws.{two_party_lawful}
use Rattle.labels.proofs.CaseProofs.{three_parties}
use Rattle.model.specs.declared.rule.Rule.TheVariants as rule
use Rattle.model.specs.declared.rule.Rule.{Rule}
use Rattle.model.proofs.Theorem.{secrecy}
use Rattle.model.specs.Cases.{Cases, addition}

only : (P : ℕ → Type 0) → P 1 → (r : ℕ) → IsRecord addition r → P r
only P h zero k = absurd (omega arith)
only P h (suc zero) k = h
only P h (suc (suc r)) k = absurd (omega arith)

addition_shape : WellShaped two_party addition
unfolding variable_at record_at linker place times_linked
addition_shape =
    record {
      variable_labels = labels;
      record_labels = only _ refl;
      sound = record {
        present = only _ ((omega arith, (omega arith, (omega arith, tt))), tt);
        kinds = only _ ((refl, (refl, (refl, tt))), tt);
        lengths = only _ tt;
        linked = record {
          rises = λ r l h. only (λ r. AllByRecursion (Rises 1 r) (links (record_at addition.records r))) (inl refl, (inl refl, (inl refl, tt))) r (l, h);
          once = λ r l h. absurd (omega arith);
        };
        shallow = only _ (omega arith);
      };
    }
  where
    labels : (v : ℕ) → v < 5 → two_party.known (variable_at addition.variables v).label ≡ true
    labels zero h = refl
    labels (suc zero) h = refl
    labels (suc (suc zero)) h = refl
    labels (suc (suc (suc zero))) h = refl
    labels (suc (suc (suc (suc zero)))) h = refl
    labels (suc (suc (suc (suc (suc v))))) h = absurd (omega arith)

addition_rules : WellTyped two_party addition
unfolding variable_at record_at linker place
addition_rules =
    only _ go
  where
    go : (k : Rule) → Keeps two_party addition 1 k
    go rule.Around = λ ne. absurd (ne refl)
    go rule.Target = (refl, tt)
    go rule.Source = (refl, tt)
    go rule.Index = tt
    go rule.Guard = tt
    go rule.OpenGuard = tt
    go rule.Special = tt
    go rule.Declass = tt
    go rule.Oram = tt

guard : (m : Memory) (rest : List ℕ) → held addition m 0 0 ≡ 2 → onward addition 1 9 (If 0 7 8) m rest ≡ 8 ∷ (9 ∷ rest)
unfolding holds
guard m rest e = rw e

pub cases : Cases
unfolding linker place session.after session.perform session.fault session.opened session.too_small session.has_place session.steps variable_at record_at base cells_needed inside held put fetched carried ended step written stripped apply mux holds pick picked covered
cases =
    record {
      order_lawful = two_party_lawful;
      addition_accepted = record { shape = addition_shape; rules = addition_rules };
      addition_secret = secrecy two_party two_party_lawful addition (record { shape = addition_shape; rules = addition_rules });
      addition_tape = refl;
      addition_log = refl;
      secret_to_public = λ r. both_ways false refl r.0;
      secret_guard = λ r. r.0 refl;
      secret_in_branch = λ t. let e : ◌≡◌ {A = ℕ} 1 3 = t (λ e. omega arith) in omega arith;
      foreign_index = λ r. both_ways false refl r;
      mux_zero = refl;
      mux_other = refl;
      guard_two = λ m rest e. guard m rest e;
      sum_wraps = refl;
      past_end = λ m. refl;
      last_cell = λ m. refl;
      three_parties = three_parties;
    }
