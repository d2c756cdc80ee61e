use Rattle.std.proofs.Common.{◌≡◌, None, inl, refl, rules, subst, sym}
use Rattle.net_model.specs.Faults.{first_fault}
use Rattle.net_model.specs.NetworkParts.{network_parts}
use Rattle.net_check.specs.Networks.{IsNetworkOfFile, RefusesPeriods}
use Rattle.net_latency.proofs.Gathered.{err_as, ok_as}
use Rattle.net_check.proofs.Refused.{refused_for}
use Rattle.net_check.proofs.network.check_network_file.Goals as goal

pub returns-in-Ok-said-clause-refused : goal.returns-in-Ok-said-clause-refused
returns-in-Ok-said-clause-refused g c =
    let made : IsNetworkOfFile c.args.file.now c.args.plans.items (network_parts c.args.plans c.in-Ok.links c.in-Ok-network_streams.streams) = record {
      plans_are = refl;
      each = c.requires.plans;
      links = search rules;
      streams = search rules;
    } in
    (network_parts c.args.plans c.in-Ok.links c.in-Ok-network_streams.streams, made, inl (c.in-Err.refused.fault, c.in-Err.ensures.refused, search rules))

pub returns-in-Ok-check_network-clause-accepted : goal.returns-in-Ok-check_network-clause-accepted
returns-in-Ok-check_network-clause-accepted g c =
    let made : IsNetworkOfFile c.args.file.now c.args.plans.items (network_parts c.args.plans c.in-Ok.links c.in-Ok-network_streams.streams) = record {
      plans_are = refl;
      each = c.requires.plans;
      links = search rules;
      streams = search rules;
    } in
    let (is, accepted) = c.in-Ok-check_network.ensures.accepted in
    let here = subst (λ m. IsNetworkOfFile c.args.file.now c.args.plans.items m) (sym is) made in
    ok_as c.check_periods.result (λ m. m ≡ c.in-Ok-check_network.network) _
    (λ m same. subst (λ k. IsNetworkOfFile c.args.file.now c.args.plans.items k × (first_fault k ≡ None)) (sym same) (here, accepted))
    c.check_periods.ensures.same

pub returns-in-Ok-check_network-clause-refused : goal.returns-in-Ok-check_network-clause-refused
returns-in-Ok-check_network-clause-refused g c =
    let made : IsNetworkOfFile c.args.file.now c.args.plans.items (network_parts c.args.plans c.in-Ok.links c.in-Ok-network_streams.streams) = record {
      plans_are = refl;
      each = c.requires.plans;
      links = search rules;
      streams = search rules;
    } in
    let (is, accepted) = c.in-Ok-check_network.ensures.accepted in
    let here = subst (λ m. IsNetworkOfFile c.args.file.now c.args.plans.items m) (sym is) made in
    err_as c.check_periods.result (RefusesPeriods c.args.file.now c.in-Ok-check_network.network.plans) _
    (λ e refused. refused_for c.args.file.now c.args.plans.items c.in-Ok-check_network.network e here accepted refused)
    c.check_periods.ensures.refused
