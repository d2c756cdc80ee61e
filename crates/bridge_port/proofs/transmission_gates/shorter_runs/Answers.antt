use Rattle.std.proofs.Common.{ℕ, length-set, arith, ◌∙◌, slice_index_or}
use Rattle.std.specs.Prelude.{◌↔◌}
use Rattle.bridge_cycle.specs.Runs.{Allows}
use Rattle.bridge_cycle.specs.declared.run.Run.{Run}
use Rattle.bridge_cycle.specs.declared.run.Run.TheVariants.{Never}
use Rattle.bridge_port.proofs.Opening.{runs_more}
use Rattle.bridge_port.proofs.transmission_gates.shorter_runs.Goals as goal

pub loop-class-preserved : goal.loop-class-preserved
loop-class-preserved c =
    let size = c.loop-class.invariant.size in
    record {
      size = length-set c.loop-class.runs c.loop-class.class c.shorter_run.result ∙ size;
      shorter = runs_more (λ (k : ℕ) (run : Run). (n : ℕ) → Allows run n ↔ (Allows (slice_index_or c.args.one.now k Never) n × Allows (slice_index_or c.args.other.now k Never) n)) c.loop-class.runs c.loop-class.class c.shorter_run.result (omega arith) c.shorter_run.ensures c.loop-class.invariant.shorter;
    }
