use Rattle.bridge_groups.proofs.MergedOrder as proof
use Rattle.bridge_groups.proofs.laws.merged_arrivals_are_in_order.Goals as goal

pub returns : goal.returns
returns c = proof.merged_arrivals_are_in_order
