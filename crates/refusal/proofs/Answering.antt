-- What an answer that may be a refusal tells. Assumes nothing.
use Rattle.std.proofs.Common.{◌≡◌, IsErrAnd, Some, None, Ok, Err, Option, Result, sym, refl, ap, ◌∙◌}
use Rattle.std.proofs.lemmas.Result.{err_from_is_err_and}
use Rattle.refusal.specs.Answers.{answer}

pub accepted : {F X : Type 0} (o : Option F) (x y : X) → Ok x ≡ answer o y → (o ≡ None) × (x ≡ y)
accepted None x y e = (refl, cc)
accepted (Some f) x y e = absurd cc

pub refused : {F X : Type 0} (o : Option F) (f : F) (y : X) → Err f ≡ answer o y → o ≡ Some f
refused None f y e = absurd cc
refused (Some g) f y e = cc

-- the exit of a `?` on the fault f
pub leaves : {F X : Type 0} (r : Result X F) (f : F) (o : Option F) (x : X) → IsErrAnd r (λ y. y ≡ f) → o ≡ Some f → r ≡ answer o x
leaves r f o x h e =
    let p = err_from_is_err_and r h in
    p.1 ∙ ap Err p.2 ∙ sym (ap (λ q. answer q x) e)
