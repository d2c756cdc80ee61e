use Rattle.bridge_filter.proofs.Owned.{flow_listed}
use Rattle.bridge_filter.proofs.Taken as taken
use Rattle.bridge_filter.proofs.laws.filter_matches.Goals as goal

pub returns-clause-listed : goal.returns-clause-listed
returns-clause-listed c = λ fs call x flows. flow_listed fs call x flows

pub returns-clause-matches : goal.returns-clause-matches
returns-clause-matches c = λ fs call x flows. taken.flow_matches fs call x flows

pub returns-clause-handle : goal.returns-clause-handle
returns-clause-handle c = λ fs call x h flows asks. taken.flow_handle fs call x h flows asks

pub returns-clause-priority : goal.returns-clause-priority
returns-clause-priority c = λ fs call x k flows asks. taken.flow_priority fs call x k flows asks
