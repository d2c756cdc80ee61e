use Rattle.std.proofs.Common.{◌≡◌, ℕ, true, arith, subst, sym}
use Rattle.bridge_frame.specs.Link.{transmission_time}
use Rattle.bridge_port.specs.GateSchedule.{can_fit, gate_schedule}
use Rattle.bridge_check.specs.Windows.{longest_frame}
use Rattle.bridge_bounds.proofs.Sizes.{occupied_rises}
use Rattle.bridge_bounds.proofs.Phased.{ever_falls}
use Rattle.bridge_bounds.proofs.timing.port_timing.Goals as goal

pub timing_by_lists-requires-clause-lengths : goal.timing_by_lists-requires-clause-lengths
timing_by_lists-requires-clause-lengths g c =
    let a = c.min.ensures in
    let b = c.min-2.ensures in
    let lengths = c.requires.traffic.lengths in
    let rise = occupied_rises c.min.result c.min-2.result c.args.port.now.speed (omega (arith, a, b, lengths)) in
    let short = c.occupation-short.ensures.exact in
    let long = c.occupation-long.ensures.exact in
    omega (arith, rise, short, long)

pub timing_by_lists-requires-clause-bound : goal.timing_by_lists-requires-clause-bound
timing_by_lists-requires-clause-bound g c =
    let a = c.min.ensures in
    let l : c.min-longest.result ≡ longest_frame c.args.sdu = c.min-longest.ensures in
    let rise = occupied_rises c.min.result (longest_frame c.args.sdu) c.args.port.now.speed (omega (arith, a, l)) in
    let short = c.occupation-short.ensures.exact in
    let bound = c.requires.bound in
    omega (arith, rise, short, bound)

pub timing_by_lists-requires-clause-ever : goal.timing_by_lists-requires-clause-ever
timing_by_lists-requires-clause-ever g c =
    let b = c.min-2.ensures in
    let l : c.min-longest.result ≡ longest_frame c.args.sdu = c.min-longest.ensures in
    let rise = occupied_rises c.min-2.result (longest_frame c.args.sdu) c.args.port.now.speed (omega (arith, b, l)) in
    let long : transmission_time c.min-2.result c.args.port.now.speed ≡ c.occupation-long.result = sym c.occupation-long.ensures.exact in
    subst (λ (n : ℕ). can_fit (gate_schedule c.args.port.now.list) c.args.class n ≡ true) long (ever_falls (gate_schedule c.args.port.now.list) c.args.class (transmission_time c.min-2.result c.args.port.now.speed) (transmission_time (longest_frame c.args.sdu) c.args.port.now.speed) c.requires.made rise c.requires.ever)
