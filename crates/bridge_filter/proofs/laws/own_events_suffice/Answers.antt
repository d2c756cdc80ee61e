use Rattle.bridge_filter.proofs.Owned.{told_own}
use Rattle.bridge_filter.proofs.laws.own_events_suffice.Goals as goal

pub returns : goal.returns
returns c = λ p s f apart es. told_own p s f apart es
