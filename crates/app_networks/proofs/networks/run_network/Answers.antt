use Rattle.app_networks.proofs.Ran.{ran}
use Rattle.app_networks.proofs.networks.run_network.Goals as goal

pub returns-in-Ok-clause-ok : goal.returns-in-Ok-clause-ok
returns-in-Ok-clause-ok g c =
    ran c.args.flags.is_strict c.args.flags.is_explained c.in-Ok.said c.output_of_run.result
    c.in-Ok.ensures.told c.in-Ok.ensures.lossy c.in-Ok.ensures.warned c.in-Ok.ensures.idle c.output_of_run.ensures
