use Rattle.std.proofs.Common.{◌<◌, length, refl, rules, sym, ◌∙◌}
use Rattle.app_files.proofs.Failed.{index_in}
use Rattle.app_files.specs.declared.failed_file.Access.TheVariants.{Reading}
use Rattle.app_networks.specs.RunFiles.{IsOpenCapture, NamesFile}
use Rattle.app_networks.proofs.Ended.{goes_out}
use Rattle.app_networks.proofs.RunFiles.{open_capture}
use Rattle.app_networks.proofs.incoming.read_captures.Goals as goal

pub returns-in_err-capture-clause-ends : goal.returns-in_err-capture-clause-ends
returns-in_err-capture-clause-ends g c =
    let links = c.args.links.now in
    let ports = c.args.ports.now in
    let folder = c.args.folder.now in
    let within : c.loop-port.port-index < length ports = search rules in
    goes_out (NamesFile Reading (IsOpenCapture links c.args.bridge ports folder)) c.from_residual.result _ c.from_residual.ensures.1
    (open_capture links c.args.bridge _ ports ports folder _ refl (index_in ports c.loop-port.port-index within) (sym c.is_linked.ensures ∙ c.if-is_linked.false) c.in_err-capture.ensures)
