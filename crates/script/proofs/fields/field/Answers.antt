use Rattle.std.proofs.Common.{◌≡◌, ℕ, Bool, true, false, cond, Some, None, refl, sym, ap, ◌∙◌, arith, lit<}
use Rattle.std.specs.Bool.{Decides, then_some}
use Rattle.std.proofs.lemmas.Str.Pattern.{starts_char}
use Rattle.std.proofs.lemmas.Bool.{false≢true}
use Rattle.script.specs.Fields.{up_to}
use Rattle.script.proofs.Numbers.{signed, parsed}
use Rattle.script.proofs.fields.field.Goals as goal

pub returns-then-starts_with-clause-value : goal.returns-then-starts_with-clause-value
returns-then-starts_with-clause-value c =
    sym (signed c.args.most c.args.word.now ((starts_char 43 c.args.word.now c.starts_with.result c.starts_with.ensures.cases (lit< tt) (lit< tt)).0 c.if-starts_with.true))

unsigned : (first : ℕ) (starts : Bool) → Decides starts (first ≡ 43) → starts ≡ false → first ≡ 43 → ⊥
unsigned first starts d other plus = false≢true (sym other ∙ d.1 plus)

pub returns-in_err-n-clause-value : goal.returns-in_err-n-clause-value
returns-in_err-n-clause-value c =
    let word = c.args.word.now in
    let plain = unsigned _ c.starts_with.result (starts_char 43 word c.starts_with.result c.starts_with.ensures.cases (lit< tt) (lit< tt)) c.if-starts_with.false in
    c.from_residual.ensures
    ∙ ap (up_to c.args.most) c.in_err-n.ensures.value
    ∙ sym (parsed c.args.most word c.parse.result plain (omega arith) c.parse.ensures.value.0)

then_cond : (b : Bool) (n : ℕ) → then_some b n ≡ cond b (Some n) None
then_cond true n = refl
then_cond false n = refl

pub returns-clause-value : goal.returns-clause-value
returns-clause-value c =
    let word = c.args.word.now in
    let plain = unsigned _ c.starts_with.result (starts_char 43 word c.starts_with.result c.starts_with.ensures.cases (lit< tt) (lit< tt)) c.if-starts_with.false in
    c.then_some.ensures
    ∙ then_cond _ c.in_ok-n.n
    ∙ ap (up_to c.args.most) c.in_ok-n.ensures.value
    ∙ sym (parsed c.args.most word c.parse.result plain (omega arith) c.parse.ensures.value.0)
