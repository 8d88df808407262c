-- What an accepted program keeps of each of its records. Assumes nothing.
use Rattle.std.proofs.Common.{◌≡◌, ℕ, ◌≤◌, true}
use Rattle.labels.specs.declared.order.LabelOrder as LabelOrder
use Rattle.model.specs.Nesting.{record_at, branches}
use Rattle.rules.specs.Shape.{link_fits}
use Rattle.checker.specs.declared.program.Program as checked
use Rattle.checker.specs.Contents.{contents}
use Rattle.checker.proofs.Decided.{a_rises}
use Rattle.checker.proofs.Held.{held_accepted}
use Rattle.session.specs.Memories.{records_in}
use Rattle.session.specs.Acting.{Runs}

module _ {A : Type 0} {g : LabelOrder.Ghosts A} (q : checked.Program A g) where
  pub few_records : records_in q ≤ 512
  few_records = q.tables.fits.1

  pub some_record : 1 ≤ records_in q
  some_record = q.begins

  module _ (k : ℕ) (low : 1 ≤ k) (high : k ≤ records_in q) where
    pub record_runs : Runs (contents q).tables (record_at (contents q).tables.records k).form
    record_runs =
        let s = (held_accepted q).shape.sound in
        record { present = s.present k (low, high); kinds = s.kinds k (low, high); lengths = s.lengths k (low, high) }

    pub record_links : (link_fits (records_in q) k (record_at (contents q).tables.records k).next ≡ true)
        × (link_fits (records_in q) k (branches (record_at (contents q).tables.records k).form).0 ≡ true)
        × (link_fits (records_in q) k (branches (record_at (contents q).tables.records k).form).1 ≡ true)
    record_links =
        let l = (held_accepted q).shape.sound.linked.rises k low high in
        ((a_rises _ _ _).1 l.0, (a_rises _ _ _).1 l.1.0, (a_rises _ _ _).1 l.1.1.0)
