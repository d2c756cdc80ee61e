use Rattle.std.proofs.Common.{List, subst}
use Rattle.net_model.specs.declared.links.Link.{Link}
use Rattle.net_file.specs.Model.{Bridge}
use Rattle.app_networks.specs.Counted.{AreTotals}
use Rattle.app_files.specs.declared.failed_file.Access.TheVariants.{Writing}
use Rattle.app_networks.specs.RunFiles.{IsOutputOfBridges, NamesFile}
use Rattle.app_networks.proofs.RunFiles.{of_bridges}
use Rattle.app_networks.proofs.job.write_results.Goals as goal

pub returns-in-Ok-run_line-clause-ok : goal.returns-in-Ok-run_line-clause-ok
returns-in-Ok-run_line-clause-ok g c =
    let frames = c.in_ok-written.written.totals.frames in
    let delivered = c.in_ok-written.written.totals.delivered in
    (frames, delivered, subst (λ (l : List Link). AreTotals l c.args.settled.now c.args.file.now.streams 0 0 frames delivered) c.links-2.ensures c.in_ok-written.ensures.ok, c.in-Ok-run_line.ensures)

pub returns-in-Err-clause-err : goal.returns-in-Err-clause-err
returns-in-Err-clause-err g c =
    let plans = c.args.network.now.plans in
    let output = c.args.output.now in
    of_bridges plans c.args.file.now.bridges output c.in-Err.fault
    (subst (λ (l : List Bridge). NamesFile Writing (IsOutputOfBridges plans l output) c.in-Err.fault) c.bridges.ensures.bridges c.in-Err.ensures.fails)
