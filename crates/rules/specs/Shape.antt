-- What the shape of one record must keep, as tests: 21, 22, 23, 24 and 27 in their order. Assumes nothing.
use Rattle.std.specs.Prelude.{ℕ, Bool, true, false, ◌&&◌, ◌||◌, List, length, Option, ◌==◌, nat_le, nat_lt}
use Rattle.std.specs.List.{list_all}
use Rattle.std.specs.Option.{option_or}
use Rattle.refusal.specs.Answers.{expect}
use Rattle.sheet.specs.declared.tables.Kind.{Kind}
use Rattle.sheet.specs.declared.tables.Kind.TheVariants.{Number, Array}
use Rattle.sheet.specs.declared.tables.Form.{Form}
use Rattle.sheet.specs.declared.tables.Form.TheVariants.{Oram}
use Rattle.sheet.specs.declared.tables.Variable.{Variable}
use Rattle.sheet.specs.declared.tables.Record.{Record}
use Rattle.labels.specs.Labels.{Labels}
use Rattle.model.specs.Nesting.{branches}
use Rattle.model.specs.Program.{kind_of, length_of, numbers, arrays}
use Rattle.rules.specs.declared.faults.ShapeFault.{ShapeFault}
use Rattle.rules.specs.declared.faults.ShapeFault.TheVariants.{RecordLabel, NoVariable, WrongKind, Link, OramLength}

abbrev pub is_number : Kind → Bool
is_number Number = true
is_number (Array n) = false

abbrev pub is_array : Kind → Bool
is_array Number = false
is_array (Array n) = true

abbrev pub present : List Variable → Form → Bool
present vs f = list_all (λ v. nat_lt v (length vs)) (numbers f) && list_all (λ v. nat_lt v (length vs)) (arrays f)

abbrev pub right_kinds : List Variable → Form → Bool
right_kinds vs f = list_all (λ v. is_number (kind_of vs v)) (numbers f) && list_all (λ v. is_array (kind_of vs v)) (arrays f)

abbrev pub same_length : List Variable → Form → Bool
same_length vs (Oram x a) = length_of vs x == length_of vs a
same_length vs f = true

-- a link of record k, of n records
abbrev pub link_fits : ℕ → ℕ → ℕ → Bool
link_fits n k l = l == 0 || (nat_lt k l && nat_le l n)

abbrev pub links_fit : ℕ → ℕ → Record → Bool
links_fit n k r = link_fits n k r.next && (link_fits n k (branches r.form).0 && link_fits n k (branches r.form).1)

-- of record k, of n records
unfoldable pub record_refusal : Labels → List Variable → ℕ → ℕ → Record → Option ShapeFault
record_refusal L vs n k r =
    option_or (expect (L.known r.label) (RecordLabel k))
    (option_or (expect (present vs r.form) (NoVariable k))
    (option_or (expect (right_kinds vs r.form) (WrongKind k))
    (option_or (expect (links_fit n k r) (Link k))
    (expect (same_length vs r.form) (OramLength k)))))
