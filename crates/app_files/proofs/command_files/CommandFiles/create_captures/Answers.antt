use Rattle.std.proofs.Common.{length, ◌<◌, rules, subst}
use Rattle.app_files.specs.FailedFiles.{IsOfPath}
use Rattle.app_files.specs.declared.failed_file.Access.TheVariants.{Writing}
use Rattle.app_files.proofs.Failed.{index_in, is_capture}
use Rattle.app_files.proofs.command_files.CommandFiles.create_captures.Goals as goal

pub returns-in-Err-clause-fails : goal.returns-in-Err-clause-fails
returns-in-Err-clause-fails g c =
    let within : c.loop-port.port-index < length c.args.ports.now = search rules in
    is_capture _ c.args.folder.now c.args.ports.now _ _ c.in-Err.fault (index_in c.args.ports.now c.loop-port.port-index within) c.in-Ok.ensures (subst (λ p. IsOfPath Writing p c.in-Err.fault) c.as_str.ensures.value c.in-Err.ensures)
