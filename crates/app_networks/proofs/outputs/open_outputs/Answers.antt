use Rattle.app_networks.proofs.RunFiles.{of_tables, streams_table}
use Rattle.app_networks.proofs.outputs.open_outputs.Goals as goal

pub returns-in-Err : goal.returns-in-Err
returns-in-Err g c =
    let output = c.args.output.now in
    of_tables c.args.plans.now c.args.bridges.now output c.in-Err.fault (streams_table output c.in-Err.fault c.in-Err.ensures)
