use Rattle.bridge_meter.proofs.Covered.{committed_next, overflow_later, excess_next}
use Rattle.bridge_meter.proofs.buckets_step.Goals as goal

pub returns : goal.returns
returns c = record {
  committed = λ l f fs d s. committed_next l f fs d s;
  overflow = λ l at then_held green now held d taken later_held h k m. overflow_later l at then_held green now held d taken later_held h k m;
  excess = λ l f fs d s. excess_next l f fs d s;
}
