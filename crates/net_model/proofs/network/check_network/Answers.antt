use Rattle.std.proofs.Common.{◌∙◌, All, refl, subst}
use Rattle.net_model.specs.Checked.{IsAccepted}
use Rattle.net_model.specs.NetworkParts.{network_parts}
use Rattle.net_model.proofs.Sound.{checked, told_of}
use Rattle.net_model.proofs.network.check_network.Goals as goal

pub invariant_of-result : goal.invariant_of-result
invariant_of-result g c =
    let told = told_of (network_parts c.args.plans c.args.links c.args.streams) c.as_slice.result.now c.as_slice-2.result.now c.as_slice-3.result.now c.first_fault.result c.as_slice.ensures.value c.as_slice-2.ensures.value c.as_slice-3.ensures.value c.first_fault.ensures.fault in
    checked (network_parts c.args.plans c.args.links c.args.streams) (subst (All IsAccepted) c.as_slice.ensures.value c.first_fault.ensures.rules) (told ∙ c.in-None.is)

pub returns-in-None-clause-accepted : goal.returns-in-None-clause-accepted
returns-in-None-clause-accepted g c =
    let told = told_of (network_parts c.args.plans c.args.links c.args.streams) c.as_slice.result.now c.as_slice-2.result.now c.as_slice-3.result.now c.first_fault.result c.as_slice.ensures.value c.as_slice-2.ensures.value c.as_slice-3.ensures.value c.first_fault.ensures.fault in
    (refl, told ∙ c.in-None.is)

pub returns-in-None-clause-network : goal.returns-in-None-clause-network
returns-in-None-clause-network g c = (invariant_of-result g c).network

pub returns-in-None-clause-closed : goal.returns-in-None-clause-closed
returns-in-None-clause-closed g c = (invariant_of-result g c).closed

pub returns-in-Some-clause-refused : goal.returns-in-Some-clause-refused
returns-in-Some-clause-refused g c =
    let told = told_of (network_parts c.args.plans c.args.links c.args.streams) c.as_slice.result.now c.as_slice-2.result.now c.as_slice-3.result.now c.first_fault.result c.as_slice.ensures.value c.as_slice-2.ensures.value c.as_slice-3.ensures.value c.first_fault.ensures.fault in
    told ∙ c.in-Some.is
