-- How a call that may be refused answers: tests in their order, the first that fails names the fault. Assumes nothing.
use Rattle.std.specs.Prelude.{ℕ, zero, suc, Bool, true, false, Some, None, Ok, Err, Option, Result}
use Rattle.std.specs.Option.{option_or}

-- no fault where the test passes; several in a row are joined by option_or
abbrev pub expect : {F : Type 0} → Bool → F → Option F
expect true fault = None
expect false fault = Some fault

-- the fault at the lowest index below n that has one
abbrev pub first_below : {F : Type 0} → (ℕ → Option F) → ℕ → Option F
first_below f zero = None
first_below f (suc n) = option_or (first_below f n) (f n)

-- the fault, or else the value
abbrev pub answer : {F X : Type 0} → Option F → X → Result X F
answer None x = Ok x
answer (Some fault) x = Err fault

-- what stands after the call: a refusal leaves what was there before
abbrev pub unless : {F S : Type 0} → Option F → S → S → S
unless None before after = after
unless (Some fault) before after = before

-- the value seen through a view
abbrev pub map_ok : {A B E : Type 0} → (A → B) → Result A E → Result B E
map_ok f (Ok x) = Ok (f x)
map_ok f (Err fault) = Err fault
