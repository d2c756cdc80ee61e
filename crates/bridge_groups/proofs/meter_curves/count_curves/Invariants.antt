use Rattle.std.proofs.Common.{All, ◌≡◌, ◌+◌, ℕ, drop}
use Rattle.bridge_groups.specs.LinearCurves.{IsCountCurve, count_at}
use Rattle.bridge_groups.specs.Curves as spec
use Rattle.bridge_groups.proofs.meter_curves.count_curves.Given as goal

abbrev pub invariant-loop-sharer : goal.invariant-loop-sharer
invariant-loop-sharer g l = All IsCountCurve l.curves.items × ((w : ℕ) → count_at l.curves.items w + spec.sharers_frame_limit l.plan (drop l.sharer-index l.sharers) w ≡ spec.sharers_frame_limit l.plan l.fn.sharers w)
