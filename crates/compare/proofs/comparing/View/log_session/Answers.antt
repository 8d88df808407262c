use Rattle.std.proofs.Common.{refl, sym, ap, ◌∙◌}
use Rattle.refusal.proofs.Answering.{accepted}
use Rattle.checker.specs.Accepting.{sheet_program}
use Rattle.checker.specs.Contents.{contents}
use Rattle.model.specs.Session.{opened}
use Rattle.model.specs.Secrecy.{log}
use Rattle.compare.specs.Calls.{calls_of}
use Rattle.compare.specs.Comparing.{by_accept, for_party, picked_log}
use Rattle.compare.proofs.Logging.{logged_by, session_tape, or_memory}
use Rattle.compare.proofs.comparing.View.log_session.Goals as goal

pub returns-clause-log : goal.returns-clause-log
returns-clause-log g c =
    let order = c.args.self.now.order.now in
    let L = g.O.LabelOrder.meaning order in
    let p = sheet_program c.args.self.now.sheet.now.bytes.now in
    let q = c.args.self.now.party in
    let cs = calls_of c.args.calls.now in
    let cells = g.B.Bank.cells c.args.bank in
    let yes = c.in_ok-accept.ensures in
    let made = c.open-session.ensures in
    let taped = session_tape g.O.LabelOrder.meaning order p cs cells (contents c.open-session.result.memory.program) (contents c.accept.new.program) _ _
    (c.deref.ensures.value ∙ c.in_ok-tape.ensures) made.state (ap contents made.program) yes.filled in
    or_memory c.make_log.result _ _
    (λ picked. picked ∙ ap (picked_log L q) taped ∙ logged_by L p q (g.met.O.LabelOrder.lawful order) (yes.verdict.sound refl).0 cs cells
    ∙ sym (ap (λ o. by_accept o (for_party L q (log L p q cs (opened p cells)))) (accepted _ _ _ yes.answers).0))
    c.make_log.ensures
