use Rattle.std.proofs.Common.{◌∙◌, ap, nat_eq, ◌∷◌}
use Rattle.std.specs.Prelude.{if◌then◌else◌}
use Rattle.bridge_gate.specs.declared.stream_gate.GateAnswer.{GateAnswer}
use Rattle.bridge_gate.specs.Gates.{Asked}
use Rattle.bridge_filter.specs.Verdicts.{Judged, gate_share, answer_verdict}
use Rattle.bridge_filter.proofs.Shares.{gate_share-reached, gates_stand_same}
use Rattle.bridge_filter.proofs.gates_and_meters.police_frame.Goals as goal

pub returns-clause-verdict : goal.returns-clause-verdict
returns-clause-verdict g c = λ p ss f served are.
    let call = c.args.call in
    let answer = c.ask_gate-answer.ensures.answer f.gate p.gates (λ n. gate_share n ss) served.gate are.gates_stand in
    c.answer_verdict.ensures.verdict p ss f served.meter are.meters_stand ∙ ap (λ (a : GateAnswer). answer_verdict p ss call f a) answer

pub returns-clause-gates : goal.returns-clause-gates
returns-clause-gates g c = λ p ss n f served are.
    let call = c.args.call in
    record {
      gates_stand = gates_stand_same p.gates c.ask_gate-answer.new.gates.entries (λ k. if nat_eq f.gate k then Asked call.at call.sdu ∷ gate_share k ss else gate_share k ss) (λ k. gate_share k (Judged call n f c.answer_verdict.result ∷ ss))
          (λ k. gate_share-reached k n call f c.answer_verdict.result ss c.answer_verdict.ensures.reached)
          (c.ask_gate-answer.ensures.stand f.gate p.gates (λ k. gate_share k ss) served.gate are.gates_stand);
      meters_stand = c.answer_verdict.ensures.stand p.meters ss n f served.meter are.meters_stand;
    }
