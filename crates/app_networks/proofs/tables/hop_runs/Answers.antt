use Rattle.std.proofs.Common.{◌∷◌, [], length, refl, sym, ap, subst, ◌∙◌, arith}
use Rattle.std.specs.Prelude.{slice_get}
use Rattle.std.proofs.lemmas.List.{length-append}
use Rattle.std.proofs.lemmas.Option.{slice_get-get_or}
use Rattle.bridge_limits.proofs.Members.{in_at}
use Rattle.app_networks.specs.InTime.{AreHopRuns}
use Rattle.app_networks.proofs.Told.{runs_more}
use Rattle.app_networks.proofs.tables.hop_runs.Goals as goal

pub hop_run-requires : goal.hop_run-requires
hop_run-requires c =
    c.requires _ (in_at c.args.hops.now c.loop-hop.hop-index _ (slice_get-get_or c.args.hops.now c.loop-hop.hop-index _ c.loop-hop-test.true))

pub loop-hop-preserved : goal.loop-hop-preserved
loop-hop-preserved c =
    let items = c.in_ok-push.ensures.items in
    let many = c.loop-hop.invariant.many in
    let within = c.loop-hop-test.true in
    let hops = c.args.hops.now in
    let runs = c.loop-hop.runs.items in
    let run = c.hop_run.result in
    let longer = ap length items ∙ length-append runs (run ∷ []) in
    record {
      many = omega (arith, longer, many);
      told = λ o are.
          let at = ap (slice_get hops) many ∙ slice_get-get_or hops c.loop-hop.hop-index _ within in
          subst (AreHopRuns o hops) (sym items) (runs_more o hops runs _ run at (c.hop_run.ensures o are) (c.loop-hop.invariant.told o are));
    }
