use Rattle.show_tables.proofs.Bounded.{class_more, none_greatest}
use Rattle.show_tables.proofs.port_bounds.port_bound.Goals as goal

pub loop-class-init : goal.loop-class-init
loop-class-init g c = none_greatest c.args.accepted.now c.args.filter c.args.port

pub loop-class-preserved : goal.loop-class-preserved
loop-class-preserved g c = class_more c.args.accepted.now c.args.filter c.args.port c.loop-class.class c.loop-class.bound c.least_queue_bound.result _ c.loop-class.invariant c.least_queue_bound.ensures c.greater_bound-bound.ensures
