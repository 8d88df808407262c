-- The mark of an entry tells whether its index fell outside, on the tape and in each log. Assumes nothing.
use Rattle.std.proofs.Common.{◌≡◌, ℕ, ◌<◌, ◌≤◌, Bool, true, false, List, [], ◌∷◌, Some, refl, inl, inr, ⊎_elim, arith}
use Rattle.std.specs.List.{AllByRecursion}
use Rattle.std.proofs.lemmas.Bool.{cases_lt, lt-ltb, le-ltb, cond-true, cond-false}
use Rattle.sheet.specs.declared.tables.Form.{Form}
use Rattle.sheet.specs.declared.tables.Form.TheVariants.{Skip, Copy, Constant, Binary, Fetch, Mux, Store, If, While, Declass, Oram}
use Rattle.tape.specs.declared.entry.Entry.{Entry}
use Rattle.tape.specs.declared.entry.Kind.TheVariants as kind
use Rattle.tape.specs.Log.{kind_of, name_of}
use Rattle.tape.proofs.LogLaws.{log_all}
use Rattle.labels.specs.Labels.{Labels}
use Rattle.model.specs.Nesting.{record_at}
use Rattle.model.specs.Program.{Program, length_of}
use Rattle.model.specs.Rules.{IsArray, Accepted}
use Rattle.model.specs.Machine.{Memory, Config, inside, fetched, stored, mark, act, entry, entries, end_if, is_empty, step, step_at, written, written_at}
use Rattle.model.specs.Log.{pick}
use Rattle.model.specs.Session.{Call, opened, after}
use Rattle.model.specs.Secrecy.{log}
use Rattle.model.specs.Tapes.{MarkTells, MarkedStoreIdle, MarksTell}
use Rattle.model.proofs.Typing.{Operands, operands}
use Rattle.model.proofs.Settle.{no_record, is_record}
use Rattle.model.proofs.Tapes.{mark_bit, all_append, all_entries}

module _ (p : Program) where
  pub mark_inside : (v i : ℕ) → i < length_of p.variables v → mark p v i ≡ 0
  unfolding mark
  mark_inside v i h = cond-true _ 0 1 (lt-ltb i (length_of p.variables v) h)

  pub mark_outside : (v i : ℕ) → length_of p.variables v ≤ i → mark p v i ≡ 1
  unfolding mark
  mark_outside v i h = cond-false _ 0 1 (le-ltb i (length_of p.variables v) h)

  fell_outside : (v i : ℕ) → mark p v i ≡ 1 → length_of p.variables v ≤ i
  fell_outside v i one =
      ⊎_elim (λ less. absurd (omega (arith, one, mark_inside v i less))) (λ more. more) (cases_lt i (length_of p.variables v))

  pub array_outside : (v i : ℕ) → IsArray p v → length_of p.variables v ≤ i → inside p v i ≡ false
  unfolding inside
  array_outside v i array h = let n = array.0 in let e = array.1 in rw e (le-ltb i n (rw e at h))

  fetched_outside : (m : Memory) (v i : ℕ) → IsArray p v → length_of p.variables v ≤ i → fetched p m v i ≡ 0
  unfolding fetched
  fetched_outside m v i array h = cond-false _ _ 0 (array_outside v i array h)

  -- an entry that is not marked, and is of neither kind
  plain : (k l r v i x : ℕ) → (kind_of k ≡ Some kind.Fetch → ⊥) → (kind_of k ≡ Some kind.Store → ⊥) → MarkTells p (entry k l r v i x 0)
  plain k l r v i x f s =
      record {
        bit = omega arith;
        outside = (λ h. absurd (omega (arith, h)), λ t. absurd (⊎_elim f s t.0));
        found = λ h. absurd (f h);
      }

  fetch_tells : (l v i : ℕ) (m : Memory) → IsArray p v → MarkTells p (entry 3 l 0 v i (fetched p m v i) (mark p v i))
  fetch_tells l v i m array =
      record {
        bit = mark_bit p v i;
        outside = (λ one. (inl refl, fell_outside v i one), λ t. mark_outside v i t.1);
        found = λ _ one. fetched_outside m v i array (fell_outside v i one);
      }

  store_tells : (l v i x : ℕ) → MarkTells p (entry 5 l 0 v i x (mark p v i))
  store_tells l v i x =
      record {
        bit = mark_bit p v i;
        outside = (λ one. (inr refl, fell_outside v i one), λ t. mark_outside v i t.1);
        found = λ h. absurd cc;
      }

  an_instruction : (l r : ℕ) → MarkTells p (entry 1 l r 0 0 0 0)
  an_instruction l r = plain 1 l r 0 0 0 (λ h. absurd cc) (λ h. absurd cc)

  a_read : (l v x : ℕ) → MarkTells p (entry 2 l 0 v 0 x 0)
  a_read l v x = plain 2 l 0 v 0 x (λ h. absurd cc) (λ h. absurd cc)

  a_write : (l v x : ℕ) → MarkTells p (entry 4 l 0 v 0 x 0)
  a_write l v x = plain 4 l 0 v 0 x (λ h. absurd cc) (λ h. absurd cc)

  a_name : (l v : ℕ) → MarkTells p (entry 6 l 0 v 0 0 0)
  a_name l v = plain 6 l 0 v 0 0 (λ h. absurd cc) (λ h. absurd cc)

  a_release : (l v x : ℕ) → MarkTells p (entry 7 l 0 v 0 x 0)
  a_release l v x = plain 7 l 0 v 0 x (λ h. absurd cc) (λ h. absurd cc)

  an_end : (l : ℕ) → MarkTells p (entry 8 l 0 0 0 0 0)
  an_end l = plain 8 l 0 0 0 0 (λ h. absurd cc) (λ h. absurd cc)

  entries_tell : (L : Labels) (f : Form) (r l : ℕ) (m : Memory) → Operands p f → AllByRecursion (MarkTells p) (entries L p r l f m)
  entries_tell L Skip r l m o = tt
  entries_tell L (Copy x a) r l m o = (an_instruction l r, (a_read _ a _, (a_write l x _, tt)))
  entries_tell L (Constant x c) r l m o = (an_instruction l r, (a_write l x _, tt))
  entries_tell L (Binary x a b op) r l m o = (an_instruction l r, (a_read _ a _, (a_read _ b _, (a_write l x _, tt))))
  entries_tell L (Fetch x a b) r l m o = (an_instruction l r, (a_read _ b _, (fetch_tells _ a _ m o.1.1, (a_write l x _, tt))))
  entries_tell L (Mux x a b c) r l m o = (an_instruction l r, (a_read _ a _, (a_read _ b _, (a_read _ c _, (a_write l x _, tt)))))
  entries_tell L (Store x a b) r l m o = (an_instruction l r, (a_read _ a _, (a_read _ b _, (store_tells l x _ _, tt))))
  entries_tell L (If a first second) r l m o = (an_instruction l r, (a_read _ a _, tt))
  entries_tell L (While a body) r l m o = (an_instruction l r, (a_read _ a _, tt))
  entries_tell L (Declass x a) r l m o = (an_instruction l r, (a_read _ a _, (a_release _ x _, tt)))
  entries_tell L (Oram x a) r l m o = (an_instruction l r, (a_name _ a, (a_name L.secret x, tt)))

  end_tells : (L : Labels) (b : Bool) → AllByRecursion (MarkTells p) (end_if L b)
  end_tells L true = (an_end L.public, tt)
  end_tells L false = tt

  name_tells : (e : Entry) → MarkTells p e → MarkTells p (name_of e)
  name_tells e h = a_name e.label e.variable

-- what a record that leaves memory n writes over memory m: if it is a marked store, m stays
abbrev Idle : Memory → Memory → Entry → Type 0
Idle m n e = kind_of e.kind ≡ Some kind.Store → e.mark ≡ 1 → n ≡ m

end_idle : (L : Labels) (m n : Memory) (b : Bool) → AllByRecursion (Idle m n) (end_if L b)
end_idle L m n true = (λ h. absurd cc, tt)
end_idle L m n false = tt

module _ (L : Labels) (p : Program) (m : Memory) where
  stored_outside : (x i k : ℕ) → IsArray p x → mark p x i ≡ 1 → stored p m x i k ≡ m
  unfolding stored
  stored_outside x i k array one = cond-false _ _ m (array_outside p x i array (fell_outside p x i one))

  entries_idle : (f : Form) (r l : ℕ) → Operands p f → AllByRecursion (Idle m (act p f m)) (entries L p r l f m)
  entries_idle Skip r l o = tt
  entries_idle (Copy x a) r l o = (λ h. absurd cc, (λ h. absurd cc, (λ h. absurd cc, tt)))
  entries_idle (Constant x c) r l o = (λ h. absurd cc, (λ h. absurd cc, tt))
  entries_idle (Binary x a b op) r l o = (λ h. absurd cc, (λ h. absurd cc, (λ h. absurd cc, (λ h. absurd cc, tt))))
  entries_idle (Fetch x a b) r l o = (λ h. absurd cc, (λ h. absurd cc, (λ h. absurd cc, (λ h. absurd cc, tt))))
  entries_idle (Mux x a b c) r l o = (λ h. absurd cc, (λ h. absurd cc, (λ h. absurd cc, (λ h. absurd cc, (λ h. absurd cc, tt)))))
  entries_idle (Store x a b) r l o = (λ h. absurd cc, (λ h. absurd cc, (λ h. absurd cc, (λ _. stored_outside x _ _ o.0.1, tt))))
  entries_idle (If a first second) r l o = (λ h. absurd cc, (λ h. absurd cc, tt))
  entries_idle (While a body) r l o = (λ h. absurd cc, (λ h. absurd cc, tt))
  entries_idle (Declass x a) r l o = (λ h. absurd cc, (λ h. absurd cc, (λ h. absurd cc, tt)))
  entries_idle (Oram x a) r l o = (λ h. absurd cc, (λ h. absurd cc, (λ h. absurd cc, tt)))

module _ (L : Labels) (p : Program) (A : Accepted L p) where
  record_tells : (r : ℕ) (m : Memory) → AllByRecursion (MarkTells p) (entries L p r (record_at p.records r).label (record_at p.records r).form m)
  record_tells r m =
      elim (is_record p r) [
        | inl h ↦ entries_tell p L (record_at p.records r).form r (record_at p.records r).label m (operands p A.shape.sound r h)
        | inr h ↦ rw (no_record p r h) tt
      ]

  on_tape : (cells : List ℕ) (cs : List Call) → AllByRecursion (MarkTells p) (after L p cs (opened p cells)).tape
  on_tape = all_entries L p (MarkTells p) record_tells (end_tells p L)

  in_logs : (q : ℕ) (cells : List ℕ) (cs : List Call) → AllByRecursion (MarkTells p) (log L p q cs (opened p cells))
  unfolding pick
  in_logs q cells cs = log_all (MarkTells p) (name_tells p) L q (after L p cs (opened p cells)).tape (on_tape cells cs)

  record_idle : (r : ℕ) (m : Memory) →
      AllByRecursion (Idle m (act p (record_at p.records r).form m)) (entries L p r (record_at p.records r).label (record_at p.records r).form m)
  record_idle r m =
      elim (is_record p r) [
        | inl h ↦ entries_idle L p m (record_at p.records r).form r (record_at p.records r).label (operands p A.shape.sound r h)
        | inr h ↦ rw (no_record p r h) tt
      ]

  in_steps : (c : Config) → AllByRecursion (MarkedStoreIdle p c) (written L p c)
  unfolding written step
  in_steps c = go c.memory c.stack
    where
      go : (m : Memory) (st : List ℕ) → AllByRecursion (Idle m (step_at p m st).memory) (written_at L p m st)
      go m [] = tt
      go m (r ∷ rest) =
          all_append (Idle m (step_at p m (r ∷ rest)).memory) (entries L p r (record_at p.records r).label (record_at p.records r).form m)
          (end_if L (is_empty (step_at p m (r ∷ rest)).stack))
          (record_idle r m) (end_idle L m _ (is_empty (step_at p m (r ∷ rest)).stack))

  pub marks_tell : MarksTell L p
  marks_tell = record { on_tape = on_tape; in_logs = in_logs; in_steps = in_steps }
