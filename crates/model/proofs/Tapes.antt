-- What the runs of a session write is a tape that pick takes. Assumes nothing.
use Rattle.std.proofs.Common.{ℕ, zero, suc, ◌≤◌, Bool, true, false, eqb, ltb, List, [], ◌∷◌, ◌++◌, refl, inl, inr, arith}
use Rattle.std.specs.List.{AllByRecursion}
use Rattle.std.proofs.lemmas.Bool.{cases_Bool, cond_both}
use Rattle.sheet.specs.declared.tables.Form.{Form}
use Rattle.sheet.specs.declared.tables.Form.TheVariants.{Skip, Copy, Constant, Binary, Fetch, Mux, Store, If, While, Declass, Oram}
use Rattle.tape.specs.declared.entry.Entry.{Entry}
use Rattle.tape.specs.declared.entry.Kind.TheVariants as kind
use Rattle.tape.specs.Fields.{WellFormed}
use Rattle.labels.specs.Labels.{Labels, Lawful, Known}
use Rattle.model.specs.Nesting.{record_at}
use Rattle.model.specs.Program.{Program, IsVariable, length_of}
use Rattle.model.specs.Rules.{Accepted}
use Rattle.model.specs.Machine.{Memory, Config, is_empty, step, step_at, mark, carried, entries, written, written_at, end_if, instruction, read, fetch, write, store, name, release, end}
use Rattle.model.specs.Runs.{trail}
use Rattle.model.specs.Session.{Call, opened, after}
use Rattle.model.specs.Tapes.{WellFormedTapes}
use Rattle.model.proofs.Typing.{Operands, operands}
use Rattle.model.proofs.Settle.{no_record, is_record}
use Rattle.model.proofs.Calls.{runs_are_one}

pub all_append : {X : Type 0} (P : X → Type 0) (xs ys : List X) → AllByRecursion P xs → AllByRecursion P ys → AllByRecursion P (xs ++ ys)
all_append P [] ys h k = k
all_append P (x ∷ xs) ys h k = (h.0, all_append P xs ys h.1 k)

pub mark_bit : (p : Program) (v i : ℕ) → mark p v i ≤ 1
unfolding mark
mark_bit p v i = cond_both (ltb i (length_of p.variables v)) 0 1 (λ o. o ≤ 1) (λ _. omega arith) (λ _. omega arith)

-- what holds of all that a record writes, and of end, holds of all that the runs of a session write
module _ (L : Labels) (p : Program) (P : Entry → Type 0)
    (records : (r : ℕ) (m : Memory) → AllByRecursion P (entries L p r (record_at p.records r).label (record_at p.records r).form m))
    (ends : (b : Bool) → AllByRecursion P (end_if L b)) where
  all_written : (c : Config) → AllByRecursion P (written L p c)
  unfolding written
  all_written c = go c.memory c.stack
    where
      go : (m : Memory) (st : List ℕ) → AllByRecursion P (written_at L p m st)
      go m [] = tt
      go m (r ∷ rest) =
          all_append P (entries L p r (record_at p.records r).label (record_at p.records r).form m) (end_if L (is_empty (step_at p m (r ∷ rest)).stack))
          (records r m) (ends (is_empty (step_at p m (r ∷ rest)).stack))

  all_trail : (k : ℕ) (c : Config) → AllByRecursion P (trail L p k c)
  unfolding trail
  all_trail zero c = tt
  all_trail (suc k) c = all_append P (written L p c) (trail L p k (step p c)) (all_written c) (all_trail k (step p c))

  pub all_entries : (cells : List ℕ) (cs : List Call) → AllByRecursion P (after L p cs (opened p cells)).tape
  all_entries cells cs =
      elim (runs_are_one L p cells cs) [
        | inl n ↦ rw n.1 tt
        | inr b ↦ rw b.3.tape (all_trail b.2 b.0.config)
      ]

module _ (L : Labels) (W : Lawful L) (p : Program) (A : Accepted L p) where
  an_instruction : (l r : ℕ) → Known L l → WellFormed L (instruction l r)
  an_instruction l r k = record { kind = kind.Instruction; numbered = refl; label = k; number = tt; variable = refl; index = refl; value = refl; mark = refl; bit = omega arith }

  a_read : (l v x : ℕ) → Known L l → WellFormed L (read l v x)
  a_read l v x k = record { kind = kind.Read; numbered = refl; label = k; number = refl; variable = tt; index = refl; value = tt; mark = refl; bit = omega arith }

  a_fetch : (l v i x : ℕ) → Known L l → WellFormed L (fetch l v i x (mark p v i))
  a_fetch l v i x k = record { kind = kind.Fetch; numbered = refl; label = k; number = refl; variable = tt; index = tt; value = tt; mark = tt; bit = mark_bit p v i }

  a_write : (l v x : ℕ) → Known L l → WellFormed L (write l v x)
  a_write l v x k = record { kind = kind.Write; numbered = refl; label = k; number = refl; variable = tt; index = refl; value = tt; mark = refl; bit = omega arith }

  a_store : (l v i x : ℕ) → Known L l → WellFormed L (store l v i x (mark p v i))
  a_store l v i x k = record { kind = kind.Store; numbered = refl; label = k; number = refl; variable = tt; index = tt; value = tt; mark = tt; bit = mark_bit p v i }

  a_name : (l v : ℕ) → Known L l → WellFormed L (name l v)
  a_name l v k = record { kind = kind.Name; numbered = refl; label = k; number = refl; variable = tt; index = refl; value = refl; mark = refl; bit = omega arith }

  a_release : (l v x : ℕ) → Known L l → WellFormed L (release l v x)
  a_release l v x k = record { kind = kind.Release; numbered = refl; label = k; number = refl; variable = tt; index = refl; value = tt; mark = refl; bit = omega arith }

  an_end : (l : ℕ) → Known L l → WellFormed L (end l)
  an_end l k = record { kind = kind.End; numbered = refl; label = k; number = refl; variable = refl; index = refl; value = refl; mark = refl; bit = omega arith }

  -- the label that a read or a fetch of v carries
  known : (l v : ℕ) → Known L l → IsVariable p v → Known L (carried L p l v)
  unfolding carried
  known l v k h =
      elim (cases_Bool (eqb l L.secret)) [
        | inl e ↦ rw e (A.shape.variable_labels v h)
        | inr e ↦ rw e k
      ]

  entries_formed : (f : Form) (r l : ℕ) (m : Memory) → Known L l → Operands p f → AllByRecursion (WellFormed L) (entries L p r l f m)
  entries_formed Skip r l m k o = tt
  entries_formed (Copy x a) r l m k o = (an_instruction l r k, (a_read _ a _ (known l a k o.1.0), (a_write l x _ k, tt)))
  entries_formed (Constant x c) r l m k o = (an_instruction l r k, (a_write l x _ k, tt))
  entries_formed (Binary x a b op) r l m k o =
      (an_instruction l r k, (a_read _ a _ (known l a k o.1.0), (a_read _ b _ (known l b k o.2.0), (a_write l x _ k, tt))))
  entries_formed (Fetch x a b) r l m k o =
      (an_instruction l r k, (a_read _ b _ (known l b k o.2.0), (a_fetch _ a _ _ (known l a k o.1.0), (a_write l x _ k, tt))))
  entries_formed (Mux x a b c) r l m k o =
      (an_instruction l r k, (a_read _ a _ (known l a k o.1.0), (a_read _ b _ (known l b k o.2.0), (a_read _ c _ (known l c k o.3.0), (a_write l x _ k, tt)))))
  entries_formed (Store x a b) r l m k o =
      (an_instruction l r k, (a_read _ a _ (known l a k o.1.0), (a_read _ b _ (known l b k o.2.0), (a_store l x _ _ k, tt))))
  entries_formed (If a first second) r l m k o = (an_instruction l r k, (a_read _ a _ (known l a k o.0), tt))
  entries_formed (While a body) r l m k o = (an_instruction l r k, (a_read _ a _ (known l a k o.0), tt))
  entries_formed (Declass x a) r l m k o =
      (an_instruction l r k, (a_read _ a _ (known l a k o.1.0), (a_release _ x _ (A.shape.variable_labels x o.0.0), tt)))
  entries_formed (Oram x a) r l m k o =
      (an_instruction l r k, (a_name _ a (A.shape.variable_labels a o.1.0), (a_name L.secret x W.secret_known, tt)))

  end_formed : (b : Bool) → AllByRecursion (WellFormed L) (end_if L b)
  end_formed true = (an_end L.public W.public_known, tt)
  end_formed false = tt

  record_formed : (r : ℕ) (m : Memory) → AllByRecursion (WellFormed L) (entries L p r (record_at p.records r).label (record_at p.records r).form m)
  record_formed r m =
      elim (is_record p r) [
        | inl h ↦ entries_formed (record_at p.records r).form r (record_at p.records r).label m (A.shape.record_labels r h) (operands p A.shape.sound r h)
        | inr h ↦ rw (no_record p r h) tt
      ]

  pub well_formed : WellFormedTapes L p
  well_formed = all_entries L p (WellFormed L) record_formed end_formed
