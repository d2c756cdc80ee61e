use Rattle.net_model.specs.NetworkParts.{sender_value}
use Rattle.net_report.proofs.Traced.{serve_due}
use Rattle.net_report.proofs.sources.trace_frame.Goals as goal

pub returns-then-is_some-clause-left : goal.returns-then-is_some-clause-left
returns-then-is_some-clause-left c = serve_due (sender_value c.args.sender) c.args.sent.now c.resume_due_departures-due.result.now c.args.origin.now.at c.resume_due_departures-due.ensures

pub returns-clause-left : goal.returns-clause-left
returns-clause-left c = serve_due (sender_value c.args.sender) c.args.sent.now c.resume_due_departures-due.result.now c.args.origin.now.at c.resume_due_departures-due.ensures
