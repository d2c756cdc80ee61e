use Rattle.std.proofs.Common.{◌≡◌, List, Some, ap, sym, ◌∙◌, ℕ}
use Rattle.std.specs.Prelude.{nat_eq}
use Rattle.std.specs.Map.{lookup}
use Rattle.bridge_gate.specs.declared.schedule.GatePlan.{GatePlan}
use Rattle.bridge_bounds.proofs.Reached.{found_in, longest_fits, sdu_few}
use Rattle.bridge_groups.proofs.GateRuns.{gate_bound_is}
use Rattle.bridge_groups.proofs.gate_bounds.reached_gate_bound.Goals as goal

pub schedule_bound-requires-clause-sdu : goal.schedule_bound-requires-clause-sdu
schedule_bound-requires-clause-sdu g c = sdu_few c.args.plan.now c.args.number c.args.filter.now c.requires.rules (found_in c.args.plan.now.filters c.args.number c.args.filter.now c.requires.found) c.in_ok-sdu.sdu c.in_ok-sdu.was

pub schedule_bound-requires-clause-ever : goal.schedule_bound-requires-clause-ever
schedule_bound-requires-clause-ever g c = longest_fits c.args.plan.now c.args.number c.args.port c.args.class c.in_ok-sdu.sdu c.args.filter.now c.in_ok-out.out.now c.requires.rules c.requires.passes (sym c.in_ok-out.ensures.port) c.requires.reach c.in_ok-sdu.was

pub returns : goal.returns
returns g c =
    let listed : c.gates.result.now ≡ c.args.plan.now.gates = c.gates.ensures.gates in
    let found : Some c.in_ok-gate.gate.now ≡ lookup (nat_eq c.args.filter.now.gate) c.gates.result.now = c.in_ok-gate.ensures in
    gate_bound_is c.args.plan.now c.args.number c.args.port c.args.class c.in_ok-sdu.sdu c.args.fewest c.args.filter.now c.in_ok-out.out.now c.in_ok-gate.gate.now c.schedule_bound.result c.requires.fewest.0 c.requires.fewest.1 c.requires.found c.requires.protected c.in_ok-sdu.was (sym c.in_ok-out.ensures.port) c.requires.reach (sym (found ∙ ap (λ (xs : List (ℕ × GatePlan _)). lookup (nat_eq c.args.filter.now.gate) xs) listed)) c.schedule_bound.ensures
