use Rattle.std.proofs.Common.{◌≡◌, ◌≤◌, ◌-◌, drop, length}
use Rattle.bridge_config.specs.Rules as rules
use Rattle.bridge_config.proofs.statics.has_static.Given as goal

abbrev pub invariant-loop-place : goal.invariant-loop-place
invariant-loop-place l = record {
  within : l.place ≤ length l.statics;
  rest : rules.has_static l.statics l.vid l.address ≡ rules.has_static (drop l.place l.statics) l.vid l.address;
}

abbrev pub decreases-loop-place : goal.decreases-loop-place
decreases-loop-place l = length l.statics - l.place
