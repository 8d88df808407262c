-- What a run answers. Assumes nothing.
use Rattle.std.specs.Prelude.{length}
use Rattle.model.specs.Session.{Ran}
use Rattle.session.specs.declared.report.RunReport.{RunReport}

abbrev pub reported : Ran → RunReport
reported r = record { steps = r.count; entries = length r.tape; stop = r.stop }
