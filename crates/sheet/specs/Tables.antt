-- What the entries of the two tables stand for. Assumes nothing.
use Rattle.std.specs.Prelude.{ℕ, cond, Some, None, Option, Result, ◌==◌}
use Rattle.std.specs.Option.{ok_or}
use Rattle.sheet.specs.declared.tables.Kind.{Kind}
use Rattle.sheet.specs.declared.tables.Kind.TheVariants.{Number, Array}
use Rattle.sheet.specs.declared.tables.Form.{Form}
use Rattle.sheet.specs.declared.tables.Form.TheVariants.{Skip, Copy, Constant, Binary, Fetch, Mux, Store, If, While, Declass, Oram}
use Rattle.sheet.specs.declared.tables.Op.{Op}
use Rattle.sheet.specs.declared.tables.Op.TheVariants.{Sum, Difference, Product, Equal, Less, And, Or, Xor}
use Rattle.sheet.specs.declared.tables.UnknownOp.{UnknownOp}

-- the cells that a variable takes in the bank
abbrev pub cells : Kind → ℕ
cells Number = 0
cells (Array n) = n

-- the number of a form
abbrev pub form_code : Form → ℕ
form_code Skip = 0
form_code (Copy x a) = 1
form_code (Constant x value) = 2
form_code (Binary x a b op) = 3
form_code (Fetch x a b) = 4
form_code (Mux x a b c) = 5
form_code (Store x a b) = 6
form_code (If a then other) = 7
form_code (While a body) = 8
form_code (Declass x a) = 9
form_code (Oram x a) = 10

-- the byte that stands for an operator
abbrev pub operator_code : Op → ℕ
operator_code Sum = 1
operator_code Difference = 2
operator_code Product = 3
operator_code Equal = 4
operator_code Less = 5
operator_code And = 6
operator_code Or = 7
operator_code Xor = 8

-- the operator that a byte stands for
abbrev pub operator : ℕ → Option Op
operator n =
    cond (n == 1) (Some Sum) (cond (n == 2) (Some Difference) (cond (n == 3) (Some Product) (cond (n == 4) (Some Equal)
    (cond (n == 5) (Some Less) (cond (n == 6) (Some And) (cond (n == 7) (Some Or) (cond (n == 8) (Some Xor) None)))))))

-- the same, or the byte that stands for none
abbrev pub operator_of : ℕ → Result Op UnknownOp
operator_of n = ok_or (operator n) (record { 0 = n })
