use Rattle.std.proofs.Common.{ℕ, length-set, arith, ◌∙◌}
use Rattle.bridge_cycle.specs.declared.run.Run.{Run}
use Rattle.bridge_cycle.specs.Runs.{IsLongestRun}
use Rattle.bridge_port.specs.GateSchedule.{list_opens}
use Rattle.bridge_port.proofs.Opening.{longest_are, runs_more}
use Rattle.bridge_port.proofs.spans.longest_runs.Goals as goal

pub loop-class-preserved : goal.loop-class-preserved
loop-class-preserved g c =
    let size = c.loop-class.invariant.size in
    record {
      size = length-set c.loop-class.runs c.loop-class.class c.longest_run.result ∙ size;
      longest = runs_more (λ (k : ℕ) (run : Run). IsLongestRun (list_opens c.args.list.now k) run) c.loop-class.runs c.loop-class.class c.longest_run.result (omega arith) c.longest_run.ensures.longest c.loop-class.invariant.longest;
    }

pub returns-clause-runs : goal.returns-clause-runs
returns-clause-runs g c = longest_are c.args.list.now c.loop-class.runs c.cycle.ensures.lawful (λ k l. c.loop-class.invariant.longest k (omega arith))
