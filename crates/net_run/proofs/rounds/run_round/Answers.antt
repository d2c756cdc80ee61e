use Rattle.std.proofs.Common.{Bool, List, Some, None, refl, sym, subst, ◌∙◌}
use Rattle.net_run.specs.Delivery.{AreOthersFed}
use Rattle.net_run.specs.BridgeRuns.{HaveRun}
use Rattle.net_run.proofs.Handing.{fed_but}
use Rattle.net_run.proofs.Turns.{same_ok}
use Rattle.net_run.proofs.rounds.run_round.Goals as goal

pub feed_bridges-requires : goal.feed_bridges-requires
feed_bridges-requires g c =
    subst (λ (l : List Bool). AreOthersFed l c.run_bridges.new.stations) (sym c.deref.ensures.value)
    (fed_but c.in_ok-ran.ran.items c.args.stations.now c.run_bridges.new.stations c.in_ok-ran.ensures.ground c.in_ok-ran.ensures.texts c.in_ok-ran.ensures.kept c.requires)

pub returns-in-Ok-clause-ground : goal.returns-in-Ok-clause-ground
returns-in-Ok-clause-ground g c = c.in-Ok.ensures.given.same ∙ c.in_ok-ran.ensures.ground

pub returns-in-Ok-clause-runs : goal.returns-in-Ok-clause-runs
returns-in-Ok-clause-runs g c = λ e.
    subst (HaveRun c.args.stations.now) (sym (c.in-Ok.ensures.unchanged (same_ok c.in-Ok.first None _ refl e)))
    (record { same = c.in_ok-ran.ensures.ground; texts = c.in_ok-ran.ensures.texts; kept = c.assert_bridge_runs.ensures; runs = c.in_ok-ran.ensures.runs })

pub returns-in-Ok-clause-goes_on : goal.returns-in-Ok-clause-goes_on
returns-in-Ok-clause-goes_on g c = λ b q e.
    record {
      between = c.run_bridges.new.stations;
      ran = record { same = c.in_ok-ran.ensures.ground; texts = c.in_ok-ran.ensures.texts; kept = c.assert_bridge_runs.ensures; runs = c.in_ok-ran.ensures.runs };
      first = c.in-Ok.ensures.first b q (same_ok c.in-Ok.first (Some (b, q)) _ refl e);
      given = c.in-Ok.ensures.given;
    }
