-- What a run leaves on its tape. Assumes nothing.
use Rattle.std.proofs.Common.{◌≡◌, ℕ, List, [], length, take, drop, Some, None, Option, Result, refl, ap, ◌∙◌}
use Rattle.std.proofs.lemmas.List.{take_at}
use Rattle.refusal.specs.Answers.{answer, unless}
use Rattle.tape.specs.declared.entry.Entry.{Entry}
use Rattle.tape.specs.Log.{overwritten}
use Rattle.labels.specs.Labels.{Labels}
use Rattle.model.specs.declared.fault.SessionFault.{SessionFault}
use Rattle.model.specs.Program.{Program}
use Rattle.model.specs.Session.{State, run, fault, perform, granted, steps}
use Rattle.session.specs.declared.report.RunReport.{RunReport}
use Rattle.session.specs.Reports.{reported}
use Rattle.compare.specs.Calls.{kept}

pub run_kept : (L : Labels) (p : Program) (n room : ℕ) (s : State) (t t0 : List Entry) (r : Result RunReport SessionFault) →
    r ≡ answer (fault L p (run n room) s) (reported (steps L p n room s.config)) → t ≡ overwritten (perform L p (run n room) s).tape t0 →
    kept r t ≡ (perform L p (run n room) s).tape
unfolding perform
run_kept L p n room s t t0 r e w = ap (λ (x : Result RunReport SessionFault). kept x t) e ∙ go (fault L p (run n room) s) w
  where
    go : (o : Option SessionFault) → t ≡ overwritten (unless o (record { state = s; tape = [] }) (granted L p (run n room) s)).tape t0 →
        kept (answer o (reported (steps L p n room s.config))) t ≡ (unless o (record { state = s; tape = [] }) (granted L p (run n room) s)).tape
    go (Some f) h = refl
    go None h =
        let front = (steps L p n room s.config).tape in
        ap (take (length front)) h ∙ take_at front (drop (length front) t0) (length front) refl
