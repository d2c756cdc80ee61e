use Rattle.bridge_frame.specs.Link.{transmission_time}
use Rattle.bridge_port.specs.GateSchedule.{lists_open}
use Rattle.bridge_semantics.specs.Offers.{CarriedFrame}
use Rattle.bridge_semantics.specs.Merge.{inputs_by_rank}
use Rattle.bridge_bounds.proofs.Hopping.{inputs_in_periods}
use Rattle.net_latency.proofs.laws.next_hop_in_periods.Goals as goal

pub returns : goal.returns
returns g c = λ n stream commands captures views k h q base d period first last least most next s out alone is linked starts short long gap some only.
    inputs_in_periods base (lists_open out.list d) (λ (y : CarriedFrame). transmission_time y.len out.speed) period first last least most s.delay next (alone.lists k s.from.port d) starts short long gap some
    (inputs_by_rank q (alone.own h)) (alone.apart h q s is linked) (λ x i. only x ((alone.next h q s is linked x).0 i))
