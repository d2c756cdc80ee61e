use Rattle.std.proofs.Common.{List, subst, sym}
use Rattle.net_run.specs.declared.rounds.BridgeResult.{BridgeResult}
use Rattle.app_networks.specs.InTime.{HaveViews}
use Rattle.app_networks.proofs.Views.{have_views}
use Rattle.app_networks.proofs.job.run_network_folders.Goals as goal

pub write_results_and_picture-told-requires : goal.write_results_and_picture-told-requires
write_results_and_picture-told-requires g c = record {
  views = subst (λ (l : List (BridgeResult _)). HaveViews l c.args.file.now.streams) (sym c.deref-in-Ok-ran.ensures.value)
      (have_views c.args.file.now c.requires.accepted.plans c.args.network.now c.in_ok-opened.opened.0.items c.in-Ok-ran.settled.bridges.items c.requires.accepted.made c.requires.accepted.faultless c.in-Ok-ran.ensures.ok);
}
