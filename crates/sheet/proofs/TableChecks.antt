-- When tables are refused. Assumes nothing.
use Rattle.std.proofs.Common.{◌≡◌, ℕ, ◌+◌, ◌<◌, ◌≤◌, List, length, Some, None, Option, sym, refl, ap, ◌∙◌, add-one, arith}
use Rattle.std.specs.Option.{option_or}
use Rattle.std.proofs.lemmas.Bool.Decides.{nat_tests}
use Rattle.sheet.specs.declared.faults.SheetFault.{SheetFault}
use Rattle.sheet.specs.declared.tables.Form.TheVariants.{Skip}
use Rattle.sheet.specs.declared.tables.Variable.{Variable}
use Rattle.sheet.specs.declared.tables.Record.{Record}
use Rattle.sheet.specs.Format.{sheet_bytes, word16}
use Rattle.sheet.specs.Reading.{counts_refusal, sheet_refusal, variables_refusal, variable_refusal, variable_place, variable_part, cells_below}
use Rattle.refusal.proofs.First.{both_none, first_clear, first_stop}
use Rattle.sheet.proofs.Decoding.{variable_few}
use Rattle.sheet.proofs.ReadsBack.{refused_by_variables}
use Rattle.sheet.specs.Layout.{tables_refusal, layout_refusal}

pub none_yet : (bs : List ℕ) → variables_refusal bs 0 ≡ None
unfolding variables_refusal
none_yet bs = refl

-- the check of variable k, whose bytes are row
module _ (bs : List ℕ) (k place total : ℕ) (row : List ℕ) (here : place ≡ variable_place k) (is : row ≡ variable_part bs k) (sum : total ≡ cells_below bs k)
    (clear : variables_refusal bs k ≡ None) where
  same : variable_refusal place total row ≡ variable_refusal (variable_place k) (cells_below bs k) (variable_part bs k)
  same = λ i. variable_refusal (here i) (sum i) (is i)

  pub stops : (n : ℕ) (f : SheetFault) → k < n → variable_refusal place total row ≡ Some f → variables_refusal bs n ≡ Some f
  unfolding variables_refusal
  stops n f h e = first_stop _ f k n h clear (sym same ∙ e)

  pub goes_on : (next : ℕ) → variable_refusal place total row ≡ None → next ≡ total + word16 row 2
      → (next ≡ cells_below bs (k + 1)) × (next ≤ 16384) × (variables_refusal bs (k + 1) ≡ None)
  unfolding variables_refusal
  goes_on next e add = (
    add ∙ (λ i. sum i + word16 (is i) 2) ∙ sym (ap (cells_below bs) (add-one k)),
    omega (arith, variable_few place total row e),
    first_clear _ k clear (sym same ∙ e),
  )

pub in_limits : (n m : ℕ) → counts_refusal n m ≡ None → (1 ≤ n) × (n ≤ 64) × (1 ≤ m) × (m ≤ 512)
in_limits n m e = (grind (arith, nat_tests), grind (arith, nat_tests), grind (arith, nat_tests), grind (arith, nat_tests))

pub from_limits : (n m : ℕ) → 1 ≤ n → n ≤ 64 → 1 ≤ m → m ≤ 512 → counts_refusal n m ≡ None
from_limits n m a b c d = grind (arith, nat_tests)

module _ (vs : List Variable) (rs : List Record) where
  -- the counts are checked first
  pub counted : (o : Option SheetFault) → counts_refusal (length vs) (length rs) ≡ o → tables_refusal vs rs ≡ option_or o (sheet_refusal (sheet_bytes vs rs))
  unfolding tables_refusal
  counted o e = ap (λ p. option_or p (sheet_refusal (sheet_bytes vs rs))) e

  -- where they are as they should be, only a variable can be refused
  pub only_variables : counts_refusal (length vs) (length rs) ≡ None → tables_refusal vs rs ≡ variables_refusal (sheet_bytes vs rs) (length vs)
  only_variables e =
      let n = in_limits (length vs) (length rs) e in
      counted None e ∙ refused_by_variables vs rs (record { label = 0; next = 0; form = Skip }) n.0 n.1 n.2 n.3

  pub counts : tables_refusal vs rs ≡ None → (1 ≤ length vs) × (length vs ≤ 64) × (1 ≤ length rs) × (length rs ≤ 512)
  unfolding tables_refusal
  counts e = in_limits (length vs) (length rs) (both_none _ _ e).0

  pub layout_fits : (room : ℕ) → tables_refusal vs rs ≡ None → length (sheet_bytes vs rs) ≤ room → layout_refusal vs rs room ≡ None
  unfolding layout_refusal
  layout_fits room e h = grind (arith, nat_tests)
