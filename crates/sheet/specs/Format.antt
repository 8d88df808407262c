-- The byte format of a program sheet. Numbers of several bytes are little-endian. Assumes nothing.
use Rattle.std.specs.Prelude.{ℕ, ◌+◌, ◌*◌, ◌/◌, ◌%◌, Bool, false, cond, ◌||◌, List, [], ◌∷◌, ◌++◌, length, Some, None, Option, ◌==◌, slice_index, slice_index_or}
use Rattle.std.specs.List.{flat_map}
use Rattle.std.specs.Option.{option_map}
use Rattle.sheet.specs.declared.tables.Kind.{Kind}
use Rattle.sheet.specs.declared.tables.Kind.TheVariants.{Number, Array}
use Rattle.sheet.specs.declared.tables.Form.{Form}
use Rattle.sheet.specs.declared.tables.Form.TheVariants.{Skip, Copy, Constant, Binary, Fetch, Mux, Store, If, While, Declass, Oram}
use Rattle.sheet.specs.declared.tables.Variable.{Variable}
use Rattle.sheet.specs.declared.tables.Record.{Record}
use Rattle.sheet.specs.Tables.{cells, form_code, operator, operator_code}

-- Laying out

abbrev pub le16 : ℕ → List ℕ
le16 n = n % 256 ∷ n / 256 % 256 ∷ []

abbrev pub le32 : ℕ → List ℕ
le32 n = n % 256 ∷ n / 256 % 256 ∷ n / 65536 % 256 ∷ n / 16777216 % 256 ∷ []

abbrev pub kind_code : Kind → ℕ
kind_code Number = 0
kind_code (Array n) = 1

abbrev pub variable_bytes : Variable → List ℕ
variable_bytes v = kind_code v.kind ∷ v.label ∷ le16 (cells v.kind)

-- bytes 2 to 5
abbrev pub operands : Form → List ℕ
operands Skip = 0 ∷ 0 ∷ 0 ∷ 0 ∷ []
operands (Copy x a) = x ∷ a ∷ 0 ∷ 0 ∷ []
operands (Constant x value) = x ∷ 0 ∷ 0 ∷ 0 ∷ []
operands (Binary x a b op) = x ∷ a ∷ b ∷ operator_code op ∷ []
operands (Fetch x a b) = x ∷ a ∷ b ∷ 0 ∷ []
operands (Mux x a b c) = x ∷ a ∷ b ∷ c ∷ []
operands (Store x a b) = x ∷ a ∷ b ∷ 0 ∷ []
operands (If a then other) = 0 ∷ a ∷ 0 ∷ 0 ∷ []
operands (While a body) = 0 ∷ a ∷ 0 ∷ 0 ∷ []
operands (Declass x a) = x ∷ a ∷ 0 ∷ 0 ∷ []
operands (Oram x a) = x ∷ a ∷ 0 ∷ 0 ∷ []

-- bytes 8 to 11
abbrev pub rest : Form → List ℕ
rest (Constant x value) = le32 value
rest (If a then other) = le16 then ++ le16 other
rest (While a body) = le16 body ++ (0 ∷ 0 ∷ [])
rest f = 0 ∷ 0 ∷ 0 ∷ 0 ∷ []

abbrev pub record_bytes : Record → List ℕ
record_bytes r = form_code r.form ∷ r.label ∷ (operands r.form ++ (le16 r.next ++ rest r.form))

-- version 1, the two counts, the variables, the records
abbrev pub sheet_bytes : List Variable → List Record → List ℕ
sheet_bytes vs rs = 1 ∷ length vs ∷ (le16 (length rs) ++ (flat_map variable_bytes vs ++ flat_map record_bytes rs))

-- Reading

abbrev pub byte : List ℕ → ℕ → ℕ
byte bs i = slice_index bs i

abbrev pub word16 : List ℕ → ℕ → ℕ
word16 bs i = byte bs i + byte bs (i + 1) * 256

abbrev pub word32 : List ℕ → ℕ → ℕ
word32 bs i = byte bs i + byte bs (i + 1) * 256 + byte bs (i + 2) * 65536 + byte bs (i + 3) * 16777216

-- what four bytes say of a variable, if their kind is known
abbrev pub variable_of : List ℕ → Option Variable
variable_of p =
    cond (byte p 0 == 0) (Some (record { label = byte p 1; kind = Number }))
    (cond (byte p 0 == 1) (Some (record { label = byte p 1; kind = Array (word16 p 2) })) None)

-- what twelve bytes say of a record, if their form and operator are known
abbrev pub form_of : List ℕ → Option Form
form_of p =
    cond (byte p 0 == 0) (Some Skip)
    (cond (byte p 0 == 1) (Some (Copy (byte p 2) (byte p 3)))
    (cond (byte p 0 == 2) (Some (Constant (byte p 2) (word32 p 8)))
    (cond (byte p 0 == 3) (option_map (λ op. Binary (byte p 2) (byte p 3) (byte p 4) op) (operator (byte p 5)))
    (cond (byte p 0 == 4) (Some (Fetch (byte p 2) (byte p 3) (byte p 4)))
    (cond (byte p 0 == 5) (Some (Mux (byte p 2) (byte p 3) (byte p 4) (byte p 5)))
    (cond (byte p 0 == 6) (Some (Store (byte p 2) (byte p 3) (byte p 4)))
    (cond (byte p 0 == 7) (Some (If (byte p 3) (word16 p 8) (word16 p 10)))
    (cond (byte p 0 == 8) (Some (While (byte p 3) (word16 p 8)))
    (cond (byte p 0 == 9) (Some (Declass (byte p 2) (byte p 3)))
    (cond (byte p 0 == 10) (Some (Oram (byte p 2) (byte p 3))) None))))))))))

abbrev pub record_of : List ℕ → Option Record
record_of p = option_map (λ f. record { label = byte p 1; next = word16 p 6; form = f }) (form_of p)

-- the bytes, besides 0, 1, 6 and 7, that a form uses
abbrev pub uses : ℕ → List ℕ
uses form =
    slice_index_or
    ([]  -- skip
    ∷ (2 ∷ 3 ∷ [])  -- x := a
    ∷ (2 ∷ 8 ∷ 9 ∷ 10 ∷ 11 ∷ [])  -- x := constant
    ∷ (2 ∷ 3 ∷ 4 ∷ 5 ∷ [])  -- x := a op b
    ∷ (2 ∷ 3 ∷ 4 ∷ [])  -- x := a[b]
    ∷ (2 ∷ 3 ∷ 4 ∷ 5 ∷ [])  -- x := mux(a, b, c)
    ∷ (2 ∷ 3 ∷ 4 ∷ [])  -- x[a] := b
    ∷ (3 ∷ 8 ∷ 9 ∷ 10 ∷ 11 ∷ [])  -- if a
    ∷ (3 ∷ 8 ∷ 9 ∷ [])  -- while a
    ∷ (2 ∷ 3 ∷ [])  -- x := declass(a)
    ∷ (2 ∷ 3 ∷ [])  -- x := oram(a)
    ∷ []) form []

abbrev pub member : ℕ → List ℕ → Bool
member i [] = false
member i (j ∷ js) = i == j || member i js

abbrev pub used : ℕ → ℕ → Bool
used form i = member i (0 ∷ 1 ∷ 6 ∷ 7 ∷ uses form)
