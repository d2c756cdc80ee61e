use Rattle.std.proofs.Common.{◌+◌, arith, sym, subst}
use Rattle.bridge_port.specs.GateSchedule.{list_opens}
use Rattle.bridge_bounds.specs.Bounds.{IsLongestTimeBetween}
use Rattle.bridge_bounds.proofs.Steps.{ends_once}
use Rattle.bridge_bounds.proofs.Windows.{between_longest, between_longest_from}
use Rattle.bridge_bounds.proofs.interval_time.interval_longest_time.Goals as goal

pub returns-then-latest-from-clause-longest : goal.returns-then-latest-from-clause-longest
returns-then-latest-from-clause-longest g c = between_longest_from c.args.list.now c.args.class c.args.occ c.args.room c.args.from c.args.to c.latest_start-latest.result c.longest_time_after_edges-after_edges.result c.requires.lawful c.requires.ever c.requires.some c.if-latest-from.true c.latest_start-latest.ensures.latest c.longest_time_after_edges-after_edges.ensures.longest

pub returns-clause-longest : goal.returns-clause-longest
returns-clause-longest g c =
    let opens = list_opens c.args.list.now c.args.class in
    let latest = c.latest_start-latest in
    let edges = c.longest_time_after_edges-after_edges in
    let time = c.frames_duration in
    let is = between_longest c.args.list.now c.args.class c.args.occ c.args.room c.args.from c.args.to latest.result edges.result time.result c.requires.lawful c.requires.ever c.requires.some c.requires.times latest.ensures.from latest.ensures.to latest.ensures.latest edges.ensures.longest time.ensures.ends
    (λ z f. let same = ends_once opens c.args.occ c.args.room latest.result z (latest.result + time.result) f time.ensures.ends in omega (arith, same)) in
    subst (IsLongestTimeBetween opens c.args.occ c.args.room c.args.from c.args.to) (sym c.max.ensures) is
