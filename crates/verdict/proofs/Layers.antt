-- The layers of a verdict, one after the other. Assumes nothing.
use Rattle.std.proofs.Common.{◌≡◌, ℕ, true, List, is_ok, Some, None, Option, refl, ap}
use Rattle.std.specs.Option.{option_map, option_or}
use Rattle.refusal.specs.declared.Refusal.{Refusal}
use Rattle.refusal.specs.Answers.{answer}
use Rattle.sheet.specs.declared.faults.SheetFault.{SheetFault}
use Rattle.sheet.specs.Faults.{sheet_refusal_of}
use Rattle.labels.specs.Labels.{Labels, Lawful}
use Rattle.model.specs.Rules.{Accepted}
use Rattle.model.specs.Secrecy.{Secrecy}
use Rattle.checker.specs.Accepting.{sheet_program, accept_refusal}
use Rattle.checker.proofs.Verdicts.{verdict}
use Rattle.verdict.specs.declared.sizes.Sizes.{Sizes}
use Rattle.verdict.specs.Verdicts.{checked}

clear : (o : Option SheetFault) (q : Option Refusal) (x : Sizes) → is_ok (answer (option_or (option_map sheet_refusal_of o) q) x) ≡ true → q ≡ None
clear (Some f) q x e = absurd cc
clear None (Some f) x e = absurd cc
clear None None x e = refl

-- a yes carries secrecy
pub checked_secret : (L : Labels) → Lawful L → (bs : List ℕ) → is_ok (checked L bs) ≡ true → Accepted L (sheet_program bs) × Secrecy L (sheet_program bs)
checked_secret L W bs e = (verdict L W (sheet_program bs) (answer (accept_refusal L (sheet_program bs)) tt) refl).sound (ap (λ o. answer o tt) (clear _ _ _ e))
