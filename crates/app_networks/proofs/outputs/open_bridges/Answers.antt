use Rattle.std.proofs.Common.{◌≡◌, Some, ap, length, refl, slice_get, ◌∙◌}
use Rattle.std.proofs.lemmas.Option.{slice_get_read}
use Rattle.net_check.specs.Naming.{bridge_name}
use Rattle.app_networks.specs.OutputFiles.{folder_path}
use Rattle.app_files.specs.declared.failed_file.Access.TheVariants.{Writing}
use Rattle.app_networks.specs.RunFiles.{IsOutputFile, NamesFile}
use Rattle.app_networks.proofs.Ended.{goes_out}
use Rattle.app_networks.proofs.RunFiles.{of_bridges, of_folder, output_at}
use Rattle.app_networks.proofs.outputs.open_bridges.Goals as goal

pub returns-in_err-make_output_folder-2 : goal.returns-in_err-make_output_folder-2
returns-in_err-make_output_folder-2 g c =
    let plans = c.args.plans.now in
    let bridges = c.args.bridges.now in
    let output = c.args.output.now in
    let i = c.loop-accepted.accepted-index in
    let here : c.len.result ≡ i = c.len.ensures ∙ (c.loop-accepted.all.ok.0 ∙ c.loop-accepted.invariant) in
    let there : slice_get plans i ≡ Some c.accepted-item.result = slice_get_read plans (length plans) i _ refl c.loop-accepted-test.true c.accepted-item.is in
    goes_out (NamesFile Writing (IsOutputFile plans bridges output)) c.from_residual-in_err-make_output_folder-2.result _ c.from_residual-in_err-make_output_folder-2.ensures.1
    (of_folder plans bridges output c.as_str.result.now i c.accepted-item.result _ there
    (c.as_str.ensures.value ∙ (c.in-Ok-bridge_folder.ensures ∙ ap (folder_path output) (c.bridge_name-name.ensures ∙ ap (bridge_name bridges) here))) c.in_err-make_output_folder-2.ensures)

pub returns-in_err-outputs : goal.returns-in_err-outputs
returns-in_err-outputs g c =
    let plans = c.args.plans.now in
    let bridges = c.args.bridges.now in
    let output = c.args.output.now in
    let i = c.loop-accepted.accepted-index in
    let here : c.len.result ≡ i = c.len.ensures ∙ (c.loop-accepted.all.ok.0 ∙ c.loop-accepted.invariant) in
    let there : slice_get plans i ≡ Some c.accepted-item.result = slice_get_read plans (length plans) i _ refl c.loop-accepted-test.true c.accepted-item.is in
    goes_out (NamesFile Writing (IsOutputFile plans bridges output)) c.from_residual-in_err-outputs.result _ c.from_residual-in_err-outputs.ensures.1
    (of_bridges plans bridges output _ (output_at plans bridges output c.as_str-in-loop-accepted.result.now i c.accepted-item.result _ there
    (c.as_str-in-loop-accepted.ensures.value ∙ (c.in-Ok-bridge_folder.ensures ∙ ap (folder_path output) (c.bridge_name-name.ensures ∙ ap (bridge_name bridges) here))) c.in_err-outputs.ensures))
