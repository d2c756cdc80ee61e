use Rattle.std.proofs.Common.{◌∙◌, ℕ, ap, refl, sym, subst, nat_eq, ◌∷◌, Option, false}
use Rattle.std.specs.Prelude.{if◌then◌else◌}
use Rattle.std.specs.Map.{keys_of}
use Rattle.bridge_meter.specs.Colours.{Arrived}
use Rattle.bridge_filter.specs.declared.Verdict.TheVariants as verdict
use Rattle.bridge_filter.specs.declared.Verdict.TheVariants.{Pass}
use Rattle.bridge_filter.specs.Routes.{IsOptionalIndex}
use Rattle.bridge_gate.specs.declared.stream_gate.GateAnswer.{GateAnswer}
use Rattle.bridge_filter.specs.Verdicts.{Judged, meter_share, answer_verdict}
use Rattle.bridge_filter.proofs.Judging.{meter_placed, no_meter_placed}
use Rattle.bridge_filter.proofs.Shares.{by_answer-metered, by_answer-unmetered, meter_share-passed, meter_share-without, meter_share-refused, meters_stand_same}
use Rattle.bridge_filter.proofs.gates_and_meters.answer_verdict.Goals as goal

pub returns-in-Some-clause-verdict : goal.returns-in-Some-clause-verdict
returns-in-Some-clause-verdict g c = λ p ss f placed stand.
    let keys = keys_of c.args.meters.now.entries in
    let m = meter_placed keys f.meter c.in-Some.place (subst (λ (o : Option ℕ). IsOptionalIndex keys f.meter o) c.in-Some.is placed) in
    c.meter_verdict.ensures.verdict m.0 p.meters (λ n. meter_share n ss) m.2 stand ∙ sym (by_answer-metered p ss c.args.call f c.args.answer c.in-Through.ipv m.0 c.in-Through.is m.1)

pub returns-in-Some-clause-stand : goal.returns-in-Some-clause-stand
returns-in-Some-clause-stand g c = λ plans ss k f placed stand.
    let call = c.args.call in
    let keys = keys_of c.args.meters.now.entries in
    let m = meter_placed keys f.meter c.in-Some.place (subst (λ (o : Option ℕ). IsOptionalIndex keys f.meter o) c.in-Some.is placed) in
    meters_stand_same plans c.meter_verdict.new.meters.entries (λ n. if nat_eq m.0 n then Arrived call.at call.octets call.dei ∷ meter_share n ss else meter_share n ss) (λ n. meter_share n (Judged call k f c.meter_verdict.result ∷ ss))
    (λ n. meter_share-passed n m.0 k call f c.meter_verdict.result ss m.1 c.meter_verdict.ensures.passed)
    (c.meter_verdict.ensures.stand m.0 plans (λ n. meter_share n ss) m.2 stand)

pub returns-in-None-clause-verdict : goal.returns-in-None-clause-verdict
returns-in-None-clause-verdict g c = λ p ss f placed stand.
    let keys = keys_of c.args.meters.now.entries in
    let none = no_meter_placed keys f.meter (subst (λ (o : Option ℕ). IsOptionalIndex keys f.meter o) c.in-None.is placed) in
    sym (by_answer-unmetered p ss c.args.call f c.args.answer c.in-Through.ipv c.in-Through.is none)

pub returns-in-None-clause-stand : goal.returns-in-None-clause-stand
returns-in-None-clause-stand g c = λ plans ss k f placed stand.
    let call = c.args.call in
    let keys = keys_of c.args.meters.now.entries in
    let none = no_meter_placed keys f.meter (subst (λ (o : Option ℕ). IsOptionalIndex keys f.meter o) c.in-None.is placed) in
    let verdict = Pass c.in-Through.ipv false in
    meters_stand_same plans c.args.meters.now.entries (λ n. meter_share n ss) (λ n. meter_share n (Judged call k f verdict ∷ ss)) (λ n. meter_share-without n k call f verdict ss none) stand

pub returns-in-Closed-clause-verdict : goal.returns-in-Closed-clause-verdict
returns-in-Closed-clause-verdict g c = λ p ss f placed stand. sym (ap (λ (a : GateAnswer). answer_verdict p ss c.args.call f a) c.in-Closed.is)

pub returns-in-Closed-clause-stand : goal.returns-in-Closed-clause-stand
returns-in-Closed-clause-stand g c = λ plans ss k f placed stand.
    meters_stand_same plans c.args.meters.now.entries (λ n. meter_share n ss) (λ n. meter_share n (Judged c.args.call k f verdict.GateClosed ∷ ss)) (λ n. meter_share-refused n k c.args.call f verdict.GateClosed ss refl) stand

pub returns-in-ShutByRx-clause-verdict : goal.returns-in-ShutByRx-clause-verdict
returns-in-ShutByRx-clause-verdict g c = λ p ss f placed stand. sym (ap (λ (a : GateAnswer). answer_verdict p ss c.args.call f a) c.in-ShutByRx.is)

pub returns-in-ShutByRx-clause-stand : goal.returns-in-ShutByRx-clause-stand
returns-in-ShutByRx-clause-stand g c = λ plans ss k f placed stand.
    meters_stand_same plans c.args.meters.now.entries (λ n. meter_share n ss) (λ n. meter_share n (Judged c.args.call k f verdict.ShutByRx ∷ ss)) (λ n. meter_share-refused n k c.args.call f verdict.ShutByRx ss refl) stand

pub returns-in-ShutByOctets-clause-verdict : goal.returns-in-ShutByOctets-clause-verdict
returns-in-ShutByOctets-clause-verdict g c = λ p ss f placed stand. sym (ap (λ (a : GateAnswer). answer_verdict p ss c.args.call f a) c.in-ShutByOctets.is)

pub returns-in-ShutByOctets-clause-stand : goal.returns-in-ShutByOctets-clause-stand
returns-in-ShutByOctets-clause-stand g c = λ plans ss k f placed stand.
    meters_stand_same plans c.args.meters.now.entries (λ n. meter_share n ss) (λ n. meter_share n (Judged c.args.call k f verdict.ShutByOctets ∷ ss)) (λ n. meter_share-refused n k c.args.call f verdict.ShutByOctets ss refl) stand

pub returns-in-OctetsExceeded-clause-verdict : goal.returns-in-OctetsExceeded-clause-verdict
returns-in-OctetsExceeded-clause-verdict g c = λ p ss f placed stand. sym (ap (λ (a : GateAnswer). answer_verdict p ss c.args.call f a) c.in-OctetsExceeded.is)

pub returns-in-OctetsExceeded-clause-stand : goal.returns-in-OctetsExceeded-clause-stand
returns-in-OctetsExceeded-clause-stand g c = λ plans ss k f placed stand.
    meters_stand_same plans c.args.meters.now.entries (λ n. meter_share n ss) (λ n. meter_share n (Judged c.args.call k f verdict.OctetsExceeded ∷ ss)) (λ n. meter_share-refused n k c.args.call f verdict.OctetsExceeded ss refl) stand
