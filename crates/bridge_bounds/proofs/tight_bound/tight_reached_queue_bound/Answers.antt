use Rattle.std.proofs.Common.{◌≡◌, ℕ, List, None, Some, ap, refl, sym, ◌∙◌}
use Rattle.std.specs.Prelude.{nat_eq}
use Rattle.std.specs.Map.{lookup}
use Rattle.std.proofs.lemmas.Option.{none-some}
use Rattle.bridge_gate.specs.declared.schedule.GatePlan.{GatePlan}
use Rattle.bridge_bounds.proofs.Reached.{found_in, gate_there, longest_fits, sdu_few}
use Rattle.bridge_bounds.proofs.tight_bound.tight_reached_queue_bound.Goals as goal

pub gate_bound-bound-requires-clause-sdu : goal.gate_bound-bound-requires-clause-sdu
gate_bound-bound-requires-clause-sdu g c = sdu_few c.args.plan.now c.args.number c.args.filter.now c.requires.rules (found_in c.args.plan.now.filters c.args.number c.args.filter.now c.requires.found) c.in_ok-sdu.sdu c.in_ok-sdu.was

pub gate_bound-bound-requires-clause-ever : goal.gate_bound-bound-requires-clause-ever
gate_bound-bound-requires-clause-ever g c = longest_fits c.args.plan.now c.args.number c.args.port c.args.class c.in_ok-sdu.sdu c.args.filter.now c.in_ok-out.out.now c.requires.rules c.requires.passes (sym c.in_ok-out.ensures.port) c.requires.reach c.in_ok-sdu.was

pub tighten_bound-requires-clause-sdu : goal.tighten_bound-requires-clause-sdu
tighten_bound-requires-clause-sdu g c = sdu_few c.args.plan.now c.args.number c.args.filter.now c.requires.rules (found_in c.args.plan.now.filters c.args.number c.args.filter.now c.requires.found) c.in_ok-sdu.sdu c.in_ok-sdu.was

pub tighten_bound-requires-clause-ever : goal.tighten_bound-requires-clause-ever
tighten_bound-requires-clause-ever g c = longest_fits c.args.plan.now c.args.number c.args.port c.args.class c.in_ok-sdu.sdu c.args.filter.now c.in_ok-out.out.now c.requires.rules c.requires.passes (sym c.in_ok-out.ensures.port) c.requires.reach c.in_ok-sdu.was

pub returns-in_err-gate : goal.returns-in_err-gate
returns-in_err-gate g c =
    let (gate, found) = gate_there c.args.plan.now c.args.number c.args.filter.now c.requires.rules (found_in c.args.plan.now.filters c.args.number c.args.filter.now c.requires.found) in
    let none : None ≡ lookup (nat_eq c.args.filter.now.gate) c.gates.result.now = c.in_err-gate.ensures in
    absurd (none-some gate (none ∙ (ap (λ (xs : List (ℕ × GatePlan _)). lookup (nat_eq c.args.filter.now.gate) xs) c.gates.ensures.gates ∙ found)))

pub returns : goal.returns
returns g c =
    let listed : c.gates.result.now ≡ c.args.plan.now.gates = c.gates.ensures.gates in
    let found : Some c.in_ok-gate.gate.now ≡ lookup (nat_eq c.args.filter.now.gate) c.gates.result.now = c.in_ok-gate.ensures in (
      c.tighten_bound.result,
      refl,
      record {
        by_room = c.gate_bound-bound.result;
        is_bound = record {
          filter = c.args.filter.now;
          max_sdu = c.in_ok-sdu.sdu;
          out = c.in_ok-out.out.now;
          found = c.requires.found;
          protected = c.requires.protected;
          size = c.in_ok-sdu.was;
          at = sym c.in_ok-out.ensures.port;
          reach = c.requires.reach;
          gate = c.in_ok-gate.gate.now;
          gated = sym (found ∙ ap (λ (xs : List (ℕ × GatePlan _)). lookup (nat_eq c.args.filter.now.gate) xs) listed);
          is = c.gate_bound-bound.ensures;
        };
        gate = c.in_ok-gate.gate.now;
        gated = sym (found ∙ ap (λ (xs : List (ℕ × GatePlan _)). lookup (nat_eq c.args.filter.now.gate) xs) listed);
        tightened = c.tighten_bound.ensures;
      },
    )
