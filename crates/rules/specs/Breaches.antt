-- The type rules as tests on labels that are looked up, and the first rule that a program breaks. Assumes nothing.
use Rattle.std.specs.Prelude.{ℕ, Bool, cond, not, ◌&&◌, List, [], ◌∷◌, Option, ◌==◌, nat_le}
use Rattle.std.specs.List.{find}
use Rattle.sheet.specs.declared.tables.Form.{Form}
use Rattle.sheet.specs.declared.tables.Form.TheVariants as form
use Rattle.sheet.specs.declared.tables.Variable.{Variable}
use Rattle.labels.specs.Labels.{Labels}
use Rattle.model.specs.declared.rule.Rule.{Rule}
use Rattle.model.specs.declared.rule.Rule.TheVariants.{Around, Target, Source, Index, Guard, OpenGuard, Special, Declass, Oram}
use Rattle.model.specs.Program.{label_of}
use Rattle.model.specs.Rules.{join_all}
use Rattle.rules.specs.declared.operands.Labelled.{Labelled}

abbrev labels : ℕ → ℕ → ℕ → ℕ → ℕ → ℕ → ℕ → Labelled
labels s f l x a b c = record { around = s; form = f; label = l; x = x; a = a; b = b; c = c }

-- the labels of a form's variables, in surroundings s, under the record's label l
abbrev pub labelled : List Variable → ℕ → ℕ → Form → Labelled
labelled vs s l form.Skip = labels s 0 l 0 0 0 0
labelled vs s l (form.Copy x a) = labels s 1 l (label_of vs x) (label_of vs a) 0 0
labelled vs s l (form.Constant x k) = labels s 2 l (label_of vs x) 0 0 0
labelled vs s l (form.Binary x a b op) = labels s 3 l (label_of vs x) (label_of vs a) (label_of vs b) 0
labelled vs s l (form.Fetch x a b) = labels s 4 l (label_of vs x) (label_of vs a) (label_of vs b) 0
labelled vs s l (form.Mux x a b c) = labels s 5 l (label_of vs x) (label_of vs a) (label_of vs b) (label_of vs c)
labelled vs s l (form.Store x a b) = labels s 6 l (label_of vs x) (label_of vs a) (label_of vs b) 0
labelled vs s l (form.If a first second) = labels s 7 l 0 (label_of vs a) 0 0
labelled vs s l (form.While a body) = labels s 8 l 0 (label_of vs a) 0 0
labelled vs s l (form.Declass x a) = labels s 9 l (label_of vs x) (label_of vs a) 0 0
labelled vs s l (form.Oram x a) = labels s 10 l (label_of vs x) (label_of vs a) 0 0

-- the labels that a record of forms 1 to 6 reads
abbrev pub labels_read : Labelled → List ℕ
labels_read r =
    cond (r.form == 1) (r.a ∷ [])
    (cond (r.form == 2) []
    (cond (r.form == 5) (r.a ∷ r.b ∷ r.c ∷ [])
    (r.a ∷ r.b ∷ [])))

abbrev pub assigns : Labelled → Bool
assigns r = nat_le 1 r.form && nat_le r.form 6

abbrev pub guarded : Labelled → Bool
guarded r = nat_le 7 r.form && nat_le r.form 8

abbrev pub special : Labelled → Bool
special r = nat_le 9 r.form && nat_le r.form 10

-- does the record break the rule?
abbrev pub breaks : Labels → Labelled → Rule → Bool
breaks L r Around = not (r.around == L.public) && not (r.around == r.label)
breaks L r Target = assigns r && not (r.x == r.label)
breaks L r Source = assigns r && not (L.flows (join_all L (labels_read r)) r.label)
breaks L r Index = r.form == 4 && not (L.flows r.b r.a)
breaks L r Guard = guarded r && not (r.a == r.label)
breaks L r OpenGuard = guarded r && r.a == L.secret
breaks L r Special = special r && not (r.label == L.secret)
breaks L r Declass = r.form == 9 && not (r.a == L.secret && not (r.x == L.secret))
breaks L r Oram = r.form == 10 && not (r.x == L.secret && not (r.a == L.secret))

abbrev pub rules : List Rule
rules = Around ∷ Target ∷ Source ∷ Index ∷ Guard ∷ OpenGuard ∷ Special ∷ Declass ∷ Oram ∷ []

-- the lowest rule that is broken
abbrev pub first_broken : Labels → Labelled → Option Rule
first_broken L r = find (breaks L r) rules
