use Rattle.std.proofs.Common.{◌∙◌, sym}
use Rattle.bridge_filter.proofs.Numbered.{place_within}
use Rattle.bridge_filter.proofs.Judging.{refusal_is_verdict, admitted_verdict, refused_shares, meter_within}
use Rattle.bridge_filter.proofs.frame_verdict.frame_verdict.Goals as goal

pub police_frame-requires-clause-gate : goal.police_frame-requires-clause-gate
police_frame-requires-clause-gate g c = place_within c.args.gates.now.entries c.args.route.gate c.args.filter.now.plan.gate c.requires.served.gate

pub police_frame-requires-clause-meter : goal.police_frame-requires-clause-meter
police_frame-requires-clause-meter g c = meter_within c.args.meters.now.entries c.args.filter.now.plan.meter c.args.route.meter c.requires.served.meter

pub returns-in-Some-clause-verdict : goal.returns-in-Some-clause-verdict
returns-in-Some-clause-verdict g c = λ p ss n are kept.
    refusal_is_verdict p ss c.args.call n c.args.filter.now c.in-Some.refusal kept (sym c.refusal.ensures ∙ c.in-Some.is)

pub returns-in-Some-clause-policed : goal.returns-in-Some-clause-policed
returns-in-Some-clause-policed g c = λ p ss n are.
    refused_shares p c.args.gates.now.entries c.args.meters.now.entries ss c.args.call n c.args.filter.now c.in-Some.refusal (sym c.refusal.ensures ∙ c.in-Some.is) are

pub returns-in-None-clause-verdict : goal.returns-in-None-clause-verdict
returns-in-None-clause-verdict g c = λ p ss n are kept.
    c.police_frame.ensures.verdict p ss c.args.filter.now.plan c.requires.served are ∙ admitted_verdict p ss c.args.call n c.args.filter.now kept (sym c.refusal.ensures ∙ c.in-None.is)

pub returns-in-None-clause-policed : goal.returns-in-None-clause-policed
returns-in-None-clause-policed g c = λ p ss n are. c.police_frame.ensures.gates p ss n c.args.filter.now.plan c.requires.served are
