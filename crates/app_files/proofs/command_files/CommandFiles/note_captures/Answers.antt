use Rattle.std.proofs.Common.{length, ◌<◌, rules, subst}
use Rattle.app_files.specs.FailedFiles.{IsOfPath}
use Rattle.app_files.specs.declared.failed_file.Access.TheVariants.{Writing}
use Rattle.app_files.proofs.Failed.{index_in, is_capture}
use Rattle.app_files.proofs.command_files.CommandFiles.note_captures.Goals as goal

pub returns-then-not-is_new : goal.returns-then-not-is_new
returns-then-not-is_new g c =
    let within : c.loop-port.port-index < length c.args.ports.now = search rules in
    is_capture _ c.args.folder.now c.args.ports.now _ _ c.output_fault.result (index_in c.args.ports.now c.loop-port.port-index within) c.in-Ok.ensures (subst (λ p. IsOfPath Writing p c.output_fault.result) c.as_str-then-not-is_new.ensures.value c.output_fault.ensures.path)
