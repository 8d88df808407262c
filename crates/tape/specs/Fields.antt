-- The fields that an entry uses besides its label, by its kind; the others are 0. Assumes nothing.
use Rattle.std.specs.Prelude.{◌≡◌, ℕ, ◌≤◌, Bool, true, false, Some}
use Rattle.labels.specs.Labels.{Labels, Known}
use Rattle.tape.specs.declared.entry.Entry.{Entry}
use Rattle.tape.specs.declared.entry.Kind.{Kind}
use Rattle.tape.specs.declared.entry.Kind.TheVariants.{Instruction, Read, Fetch, Write, Store, Name, Release, End}
use Rattle.tape.specs.Log.{kind_of}

pub record Fields : Type 0 where
  pub number : Bool
  pub variable : Bool
  pub index : Bool
  pub value : Bool
  pub mark : Bool

abbrev fields : Bool → Bool → Bool → Bool → Bool → Fields
fields n v i k o = record { number = n; variable = v; index = i; value = k; mark = o }

abbrev pub uses : Kind → Fields
uses Instruction = fields true false false false false
uses Read = fields false true false true false
uses Fetch = fields false true true true true
uses Write = fields false true false true false
uses Store = fields false true true true true
uses Name = fields false true false false false
uses Release = fields false true false true false
uses End = fields false false false false false

abbrev pub ZeroUnless : Bool → ℕ → Type 0
ZeroUnless true n = Unit {0}
ZeroUnless false n = n ≡ 0

-- of a known kind, with a known label, 0 in the fields that the kind does not use, and a mark of 0 or 1
pub record WellFormed (L : Labels) (e : Entry) : Type 0 where
  pub kind : Kind
  pub numbered : kind_of e.kind ≡ Some kind
  pub label : Known L e.label
  pub number : ZeroUnless (uses kind).number e.record
  pub variable : ZeroUnless (uses kind).variable e.variable
  pub index : ZeroUnless (uses kind).index e.index
  pub value : ZeroUnless (uses kind).value e.value
  pub mark : ZeroUnless (uses kind).mark e.mark
  pub bit : e.mark ≤ 1
