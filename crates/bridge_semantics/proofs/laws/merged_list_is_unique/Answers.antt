use Rattle.bridge_semantics.proofs.Merging.{one_merged}
use Rattle.bridge_semantics.proofs.laws.merged_list_is_unique.Goals as goal

pub returns : goal.returns
returns c = one_merged
