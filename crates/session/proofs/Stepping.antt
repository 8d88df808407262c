-- What a step leaves, from what its act leaves and from how the stack is moved. Assumes nothing.
use Rattle.std.proofs.Common.{◌≡◌, ℕ, suc, ◌+◌, List, [], ◌∷◌, ◌++◌, length, set, sym, ap, ◌∙◌, arith}
use Rattle.tape.specs.declared.entry.Entry.{Entry}
use Rattle.session.specs.Acting.{write_at}
use Rattle.sheet.specs.declared.tables.Record.{Record}
use Rattle.labels.specs.Labels.{Labels}
use Rattle.model.specs.Nesting.{record_at}
use Rattle.model.specs.Program.{Program}
use Rattle.model.specs.Machine.{Memory, Config, act, onward, stripped, entries, end_if, is_empty, step, step_at, written, written_at}
use Rattle.session.specs.Piles.{moved}
use Rattle.session.proofs.Moving.{onward_moved}

pub write_at_append : (t : List Entry) (at : ℕ) (es fs : List Entry) → write_at (write_at t at es) (at + length es) fs ≡ write_at t at (es ++ fs)
write_at_append t at [] fs = let e : at + 0 ≡ at = omega arith in ap (λ k. write_at t k fs) e
write_at_append t at (e ∷ es) fs =
    let f : at + suc (length es) ≡ at + 1 + length es = omega arith in
    ap (λ k. write_at (write_at (set t at e) (at + 1) es) k fs) f ∙ write_at_append (set t at e) (at + 1) es fs

module _ (L : Labels) (p : Program) (m : Memory) (st : List ℕ) (n : ℕ) (rest : List ℕ) (r : Record) (on : st ≡ n ∷ rest) (is : r ≡ record_at p.records n)
    (place above : ℕ) (moves : (place, above) ≡ moved p n r.next r.form m) (after : List ℕ) (go : after ≡ stripped (above ∷ (place ∷ rest))) where
  abbrev here : Config
  here = record { memory = m; stack = st }

  went : after ≡ stripped (onward p n r.next r.form m rest)
  went = go ∙ ap (λ (t : ℕ × ℕ). stripped (t.1 ∷ (t.0 ∷ rest))) moves ∙ onward_moved p n r.next r.form m rest

  step_is : step p here ≡ record { memory = act p r.form m; stack = stripped (onward p n r.next r.form m rest) }
  unfolding step
  step_is = ap (step_at p m) on ∙ ap (λ (q : Record). record { memory = act p q.form m; stack = stripped (onward p n q.next q.form m rest) }) (sym is)

  pub written_is : written L p here ≡ entries L p n r.label r.form m ++ end_if L (is_empty after)
  unfolding written
  written_is =
      ap (written_at L p m) on
      ∙ ap (λ (q : Record). entries L p n q.label q.form m ++ end_if L (is_empty (stripped (onward p n q.next q.form m rest)))) (sym is)
      ∙ ap (λ (s : List ℕ). entries L p n r.label r.form m ++ end_if L (is_empty s)) (sym went)

  pub step_after : (m' : Memory) → m' ≡ act p r.form m → ◌≡◌ {A = Config} (record { memory = m'; stack = after }) (step p here)
  step_after m' e = (λ i. record { memory = e i; stack = went i }) ∙ sym step_is
