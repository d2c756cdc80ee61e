use Rattle.std.proofs.Common.{List, ℕ, string_bytes, subst, sym}
use Rattle.std.specs.Prelude.{IfOk}
use Rattle.app_cli.specs.declared.job.Command.{Command}
use Rattle.app_commands.specs.CommandOutputs.{IsRunOutput}
use Rattle.app_networks.specs.Program.{PerformsJob}
use Rattle.app_networks.proofs.program.run_request.Goals as goal

pub returns-in-Run-clause-ok : goal.returns-in-Run-clause-ok
returns-in-Run-clause-ok g c =
    let r = c.args.request.now in
    let out = subst (λ (i : List ℕ). IfOk c.run_bridge.result (IsRunOutput i c.requested_run-run.result.output.now r.is_strict r.is_explained)) c.requested_run-run.ensures.input c.run_bridge.ensures.ok in
    let both = subst (λ (o : List ℕ). IfOk c.run_bridge.result (IsRunOutput (string_bytes c.in-Run.input) o r.is_strict r.is_explained)) c.requested_run-run.ensures.output out in
    subst (λ (j : Command). IfOk c.run_bridge.result (PerformsJob j r.is_strict r.is_explained)) (sym c.in-Run.is) both
