use Rattle.std.proofs.Common.{length, ap, subst, ◌∙◌}
use Rattle.bridge_core.specs.WholeRuns.{ArePortNumbers}
use Rattle.bridge_core.proofs.Simulating.{ports_many}
use Rattle.app_commands.proofs.RunEnded.{folder_fails, input_ends, output_ends, report_fails}
use Rattle.app_commands.proofs.run_files.send_named.Goals as goal

pub returns-in-Err-clause-err : goal.returns-in-Err-clause-err
returns-in-Err-clause-err g c =
    let own = subst (λ z. ArePortNumbers z c.in-Ok.ports.items) c.plan.ensures.plan c.in-Ok.ensures in
    input_ends c.args.accepted.now c.args.job.now.input.now c.args.job.now.output.now c.in-Ok.ports.items c.deref.result.now c.file_failure.result
    c.requires.named own c.deref.ensures.value (c.file_failure.ensures.captures _ c.args.job.now.input.now c.deref.result.now c.in-Err.ensures.fails)

pub returns-in-Err-refuse_same_folder-clause-err : goal.returns-in-Err-refuse_same_folder-clause-err
returns-in-Err-refuse_same_folder-clause-err g c =
    folder_fails c.args.accepted.now c.args.job.now.input.now c.args.job.now.output.now c.file_failure-in-Err-refuse_same_folder.result c.requires.named (c.file_failure-in-Err-refuse_same_folder.ensures.path _ c.args.job.now.output.now c.in-Err-refuse_same_folder.ensures)

pub returns-in-Err-create_outputs-clause-err : goal.returns-in-Err-create_outputs-clause-err
returns-in-Err-create_outputs-clause-err g c =
    let own = subst (λ z. ArePortNumbers z c.in-Ok.ports.items) c.plan.ensures.plan c.in-Ok.ensures in
    output_ends c.args.accepted.now c.args.job.now.input.now c.args.job.now.output.now c.in-Ok.ports.items _ c.in-Err-create_outputs.fault
    c.requires.named own c.deref-2.ensures.value c.in-Err-create_outputs.ensures.only

pub run_watched-requires-clause-readers : goal.run_watched-requires-clause-readers
run_watched-requires-clause-readers g c =
    let own = subst (λ z. ArePortNumbers z c.in-Ok.ports.items) c.plan.ensures.plan c.in-Ok.ensures in
    c.in-Ok-open_captures.ensures.all ∙ ap length c.deref.ensures.value ∙ ports_many c.args.accepted.now c.in-Ok.ports.items own

pub run_watched-requires-clause-writers : goal.run_watched-requires-clause-writers
run_watched-requires-clause-writers g c =
    let own = subst (λ z. ArePortNumbers z c.in-Ok.ports.items) c.plan.ensures.plan c.in-Ok.ensures in
    c.in-Ok-create_outputs.ensures.all ∙ ap length c.deref-2.ensures.value ∙ ports_many c.args.accepted.now c.in-Ok.ports.items own

pub returns-clause-err : goal.returns-clause-err
returns-clause-err g c = report_fails c.args.accepted.now c.args.job.now.input.now c.args.job.now.output.now c.in-Err-write_report_file.fault c.requires.named c.in-Err-write_report_file.ensures.fails
