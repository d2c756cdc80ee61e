use Rattle.std.proofs.Common.{◌≡◌, length, ◌<◌, ℕ, slice_index_or}
use Rattle.std.specs.Prelude.{◌↔◌}
use Rattle.bridge_cycle.specs.Runs.{Allows}
use Rattle.bridge_cycle.specs.declared.run.Run.TheVariants.{Never}
use Rattle.bridge_port.proofs.transmission_gates.shorter_runs.Given as goal

abbrev pub invariant-loop-class : goal.invariant-loop-class
invariant-loop-class l = record {
  size : length l.runs ≡ 8;
  shorter : (c : ℕ) → c < l.class → (n : ℕ) → Allows (slice_index_or l.runs c Never) n ↔ (Allows (slice_index_or l.one c Never) n × Allows (slice_index_or l.other c Never) n);
}
