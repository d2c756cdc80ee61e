use Rattle.std.proofs.Common.{◌≡◌, ◌≤◌, ℕ, Some, List, true, arith, refl, sym, subst, ◌∙◌}
use Rattle.std.specs.Prelude.{nat_eq}
use Rattle.std.specs.Map.{lookup}
use Rattle.std.proofs.lemmas.Option.{same_Some}
use Rattle.bridge_filter.specs.declared.FilterPlan.{FilterPlan}
use Rattle.bridge_config.specs.Rules.{find_port}
use Rattle.bridge_config.specs.declared.ports.PortPlan.{PortPlan}
use Rattle.bridge_config.proofs.PlanPorts.{port_is, room_within}
use Rattle.bridge_check.specs.Reach.{reaches_queue}
use Rattle.bridge_check.proofs.Isolated.{made}
use Rattle.bridge_frame.specs.Link.{transmission_time}
use Rattle.bridge_check.specs.Windows.{longest_frame}
use Rattle.bridge_bounds.proofs.Gated.{gate_bound_least}
use Rattle.bridge_bounds.proofs.Reached.{found_in, longest_fits, sdu_few}
use Rattle.bridge_bounds.specs.Timings.{IsPortTiming}
use Rattle.bridge_bounds.proofs.timing.filter_timing.Goals as goal

pub port_timing-requires-clause-sdu : goal.port_timing-requires-clause-sdu
port_timing-requires-clause-sdu g c =
    let f : FilterPlan = c.in_ok-find_filter.field-0 in
    let found : lookup (nat_eq c.args.number) c.args.plan.now.filters ≡ Some f = subst (λ (xs : List (ℕ × FilterPlan)). lookup (nat_eq c.args.number) xs ≡ Some f) c.filters.ensures.filters (sym c.in_ok-find_filter.ensures) in
    sdu_few c.args.plan.now c.args.number f c.requires.rules (found_in c.args.plan.now.filters c.args.number f found) c.in_ok-sdu.sdu c.in_ok-sdu.was

pub port_timing-requires-clause-bound : goal.port_timing-requires-clause-bound
port_timing-requires-clause-bound g c =
    let f : FilterPlan = c.in_ok-find_filter.field-0 in
    let found : lookup (nat_eq c.args.number) c.args.plan.now.filters ≡ Some f = subst (λ (xs : List (ℕ × FilterPlan)). lookup (nat_eq c.args.number) xs ≡ Some f) c.filters.ensures.filters (sym c.in_ok-find_filter.ensures) in
    let same : c.requires.bound.filter ≡ f = same_Some c.requires.bound.filter f (sym c.requires.bound.found ∙ found) in
    let at : find_port c.args.plan.now.ports c.args.port ≡ Some c.in_ok-out.out.now = sym c.in_ok-out.ensures.port in
    let size : c.requires.bound.max_sdu ≡ c.in_ok-sdu.sdu = same_Some c.requires.bound.max_sdu c.in_ok-sdu.sdu (sym (subst (λ (h : FilterPlan). h.max_sdu ≡ Some c.requires.bound.max_sdu) same c.requires.bound.size) ∙ c.in_ok-sdu.was) in
    let port : c.requires.bound.out ≡ c.in_ok-out.out.now = same_Some c.requires.bound.out c.in_ok-out.out.now (sym c.requires.bound.at ∙ at) in
    let class = c.requires.class in
    let room = (room_within c.requires.bound.out c.args.class (port_is c.args.plan.now.ports c.args.port c.requires.bound.out c.requires.rules.ports c.requires.bound.at).0 (omega (arith, class))).0 in
    let least = gate_bound_least c.requires.bound.gate.schedule c.requires.bound.filter.priority c.requires.bound.out c.args.class c.requires.bound.max_sdu c.args.bound c.requires.bound.is room in
    let here = subst (λ (m : ℕ). transmission_time (longest_frame m) c.requires.bound.out.speed ≤ c.args.bound) size least in
    subst (λ (o : PortPlan _). transmission_time (longest_frame c.in_ok-sdu.sdu) o.speed ≤ c.args.bound) port here

pub port_timing-requires-clause-made : goal.port_timing-requires-clause-made
port_timing-requires-clause-made g c =
    let at : find_port c.args.plan.now.ports c.args.port ≡ Some c.in_ok-out.out.now = sym c.in_ok-out.ensures.port in
    made c.in_ok-out.out.now.list (port_is c.args.plan.now.ports c.args.port c.in_ok-out.out.now c.requires.rules.ports at).0.list

pub port_timing-requires-clause-ever : goal.port_timing-requires-clause-ever
port_timing-requires-clause-ever g c =
    let f : FilterPlan = c.in_ok-find_filter.field-0 in
    let found : lookup (nat_eq c.args.number) c.args.plan.now.filters ≡ Some f = subst (λ (xs : List (ℕ × FilterPlan)). lookup (nat_eq c.args.number) xs ≡ Some f) c.filters.ensures.filters (sym c.in_ok-find_filter.ensures) in
    let same : c.requires.bound.filter ≡ f = same_Some c.requires.bound.filter f (sym c.requires.bound.found ∙ found) in
    let at : find_port c.args.plan.now.ports c.args.port ≡ Some c.in_ok-out.out.now = sym c.in_ok-out.ensures.port in
    let reach : reaches_queue c.args.plan.now f c.args.port c.args.class ≡ true = subst (λ (h : FilterPlan). reaches_queue c.args.plan.now h c.args.port c.args.class ≡ true) same c.requires.bound.reach in
    let protected : f.protected ≡ true = subst (λ (h : FilterPlan). h.protected ≡ true) same c.requires.bound.protected in
    longest_fits c.args.plan.now c.args.number c.args.port c.args.class c.in_ok-sdu.sdu f c.in_ok-out.out.now c.requires.rules (c.requires.acceptable c.args.number f (found_in c.args.plan.now.filters c.args.number f found) protected) at reach c.in_ok-sdu.was

pub returns : goal.returns
returns g c =
    let f : FilterPlan = c.in_ok-find_filter.field-0 in
    let found : lookup (nat_eq c.args.number) c.args.plan.now.filters ≡ Some f = subst (λ (xs : List (ℕ × FilterPlan)). lookup (nat_eq c.args.number) xs ≡ Some f) c.filters.ensures.filters (sym c.in_ok-find_filter.ensures) in
    let same : c.requires.bound.filter ≡ f = same_Some c.requires.bound.filter f (sym c.requires.bound.found ∙ found) in
    let at : find_port c.args.plan.now.ports c.args.port ≡ Some c.in_ok-out.out.now = sym c.in_ok-out.ensures.port in
    let size : c.in_ok-sdu.sdu ≡ c.requires.bound.max_sdu = same_Some c.in_ok-sdu.sdu c.requires.bound.max_sdu (sym c.in_ok-sdu.was ∙ subst (λ (h : FilterPlan). h.max_sdu ≡ Some c.requires.bound.max_sdu) same c.requires.bound.size) in
    let port : c.in_ok-out.out.now ≡ c.requires.bound.out = same_Some c.in_ok-out.out.now c.requires.bound.out (sym at ∙ c.requires.bound.at) in
    let here = subst (λ (m : ℕ). IsPortTiming c.in_ok-out.out.now c.args.class m c.args.bound c.args.traffic.now c.port_timing.result) size c.port_timing.ensures in (
      c.port_timing.result,
      refl,
      record {
        bound = c.args.bound;
        is_bound = c.requires.bound;
        is = subst (λ (o : PortPlan _). IsPortTiming o c.args.class c.requires.bound.max_sdu c.args.bound c.args.traffic.now c.port_timing.result) port here;
      },
    )
