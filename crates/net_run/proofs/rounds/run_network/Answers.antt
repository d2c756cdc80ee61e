use Rattle.std.proofs.Common.{◌≡◌, ◌+◌, ℕ, List, Option, Some, None, Ok, length, map, refl, sym, ap, subst, arith, ◌∙◌}
use Rattle.std.specs.Prelude.{All}
use Rattle.bridge_limits.proofs.Lists.{lent}
use Rattle.net_run.specs.declared.rounds.RoundsFault.TheVariants as fault
use Rattle.net_run.specs.Delivery.{AreRunsFed}
use Rattle.net_run.specs.BridgeRuns.{NeedsRound, HasRun, HaveRun, IsBridgeRun, BridgeRunState, constant_part}
use Rattle.net_run.specs.Rounds.{AreRunsBeforeRound, AreBridgeResults, StopsRound, StopsNetworkRun}
use Rattle.net_run.proofs.Begun.{begun_idle}
use Rattle.net_run.proofs.Handing.{fed_by_run, none_ran}
use Rattle.net_run.proofs.Told.{always_if, at_each, changes_nothing, have_taps, if_ok, isolates, runs_network}
use Rattle.net_run.proofs.Stopped.{before_more, earlier_more, memory_stops, settles_in, stops_settling, unsettled_more}
use Rattle.net_run.proofs.rounds.run_network.Goals as goal

pub run_round-requires : goal.run_round-requires
run_round-requires g c = subst AreRunsFed (sym c.deref_mut.ensures.value) c.loop-turn.invariant.fed

pub finish_bridges-requires : goal.finish_bridges-requires
finish_bridges-requires g c =
    let long = c.run_round.auto.stations in
    let back = lent c.loop-turn.stations.items c.run_round.new.stations c.loop-turn.stations.len c.loop-turn.stations.ok.0 (long ∙ ap length c.deref_mut.ensures.value) in
    let none : c.run_round.result ≡ Ok None = c.in-Ok-None.is ∙ ap (λ (o : Option (ℕ × ℕ)). Ok o) c.in-Ok-None.field-0-is in
    subst (All HasRun) (sym back) (c.run_round.ensures.runs none).runs

pub returns-in-Ok-None-clause-taps : goal.returns-in-Ok-None-clause-taps
returns-in-Ok-None-clause-taps g c =
    let long = c.run_round.auto.stations in
    let back = lent c.loop-turn.stations.items c.run_round.new.stations c.loop-turn.stations.len c.loop-turn.stations.ok.0 (long ∙ ap length c.deref_mut.ensures.value) in
    let none : c.run_round.result ≡ Ok None = c.in-Ok-None.is ∙ ap (λ (o : Option (ℕ × ℕ)). Ok o) c.in-Ok-None.field-0-is in
    if_ok _ _ c.finish_bridges.result c.finish_bridges.ensures.settled
    (λ settled told. have_taps c.args.network.now c.args.incoming.items c.in-Ok.stations.items c.run_round.new.stations settled.bridges.items c.assert_network.ensures.network c.requires c.in-Ok.ensures
    (c.in-Ok-None.ensures.ground ∙ (ap (map constant_part) c.deref_mut.ensures.value ∙ c.loop-turn.invariant.ground)) (c.run_round.ensures.runs none).runs c.in-Ok-None.ensures.fed (subst (λ (l : List (BridgeRunState g.row.A.Denot)). AreBridgeResults l settled.bridges.items) back told) (at_each IsBridgeRun c.run_round.new.stations (c.run_round.ensures.runs none).kept))

pub returns-in-Ok-None-clause-rounds : goal.returns-in-Ok-None-clause-rounds
returns-in-Ok-None-clause-rounds g c =
    let none : c.run_round.result ≡ Ok None = c.in-Ok-None.is ∙ ap (λ (o : Option (ℕ × ℕ)). Ok o) c.in-Ok-None.field-0-is in
    if_ok _ _ c.finish_bridges.result c.finish_bridges.ensures.rounds
    (λ settled number. settles_in c.args.network.now c.args.incoming.items c.loop-turn.turn settled.rounds c.loop-turn.stations.items c.run_round.new.stations number c.loop-turn.invariant.before
    (subst (λ (l : List (BridgeRunState g.row.A.Denot)). HaveRun l c.run_round.new.stations) c.deref_mut.ensures.value (c.run_round.ensures.runs none)) c.in-Ok-None.ensures.fed c.loop-turn.invariant.earlier)

pub returns-in-Ok-None-clause-ok : goal.returns-in-Ok-None-clause-ok
returns-in-Ok-None-clause-ok g c =
    let long = c.run_round.auto.stations in
    let back = lent c.loop-turn.stations.items c.run_round.new.stations c.loop-turn.stations.len c.loop-turn.stations.ok.0 (long ∙ ap length c.deref_mut.ensures.value) in
    let none : c.run_round.result ≡ Ok None = c.in-Ok-None.is ∙ ap (λ (o : Option (ℕ × ℕ)). Ok o) c.in-Ok-None.field-0-is in
    if_ok _ _ c.finish_bridges.result c.finish_bridges.ensures.settled
    (λ settled told. runs_network c.args.network.now c.args.incoming.items c.in-Ok.stations.items c.run_round.new.stations settled.bridges.items c.assert_network.ensures.network c.requires c.in-Ok.ensures
    (c.in-Ok-None.ensures.ground ∙ (ap (map constant_part) c.deref_mut.ensures.value ∙ c.loop-turn.invariant.ground)) (c.run_round.ensures.runs none).runs c.in-Ok-None.ensures.fed (subst (λ (l : List (BridgeRunState g.row.A.Denot)). AreBridgeResults l settled.bridges.items) back told) (at_each IsBridgeRun c.run_round.new.stations (c.run_round.ensures.runs none).kept))

pub returns-in-Ok-None-clause-alone : goal.returns-in-Ok-None-clause-alone
returns-in-Ok-None-clause-alone g c = always_if _ c.finish_bridges.result (λ settled. isolates c.args.network.now c.args.incoming.items settled.bridges.items c.assert_network.ensures.network c.assert_network.ensures.closed)

pub returns-in-Ok-None-clause-others_change_nothing : goal.returns-in-Ok-None-clause-others_change_nothing
returns-in-Ok-None-clause-others_change_nothing g c = always_if _ c.finish_bridges.result (λ settled. changes_nothing c.args.network.now c.args.incoming.items settled.bridges.items c.assert_network.ensures.network c.assert_network.ensures.closed)

pub returns-in-Ok-None-clause-stops : goal.returns-in-Ok-None-clause-stops
returns-in-Ok-None-clause-stops g c = memory_stops c.args.network.now c.args.incoming.items c.args.rounds c.finish_bridges.result c.finish_bridges.ensures.memory

pub returns-in-Err-clause-stops : goal.returns-in-Err-clause-stops
returns-in-Err-clause-stops g c = stops_settling c.args.network.now c.args.incoming.items c.args.rounds c.loop-turn.turn c.loop-turn.stations.items c.in-Err.fault c.loop-turn.invariant.before c.loop-turn-test.true
    (subst (λ (l : List (BridgeRunState g.row.A.Denot)). StopsRound l c.in-Err.fault) c.deref_mut.ensures.value c.in-Err.ensures.stops)

pub loop-turn-init : goal.loop-turn-init
loop-turn-init g c = record { ground = refl; fed = none_ran c.in-Ok.stations.items (begun_idle c.args.network.now c.args.incoming.items c.in-Ok.stations.items c.requires c.in-Ok.ensures); before = c.in-Ok.ensures; last = (refl, refl); earlier = λ j less. absurd (omega (arith, less)); few = omega arith }

pub loop-turn-preserved : goal.loop-turn-preserved
loop-turn-preserved g c =
    let long = c.run_round.auto.stations in
    let back = lent c.loop-turn.stations.items c.run_round.new.stations c.loop-turn.stations.len c.loop-turn.stations.ok.0 (long ∙ ap length c.deref_mut.ensures.value) in
    let port = c.in-Ok-Some.port in
    let some : c.run_round.result ≡ Ok (Some port) = c.in-Ok-Some.is ∙ ap (λ (o : Option (ℕ × ℕ)). Ok o) c.in-Ok-Some.field-0-is in
    let on = subst (λ (l : List (BridgeRunState g.row.A.Denot)). NeedsRound l c.run_round.new.stations port.0 port.1) c.deref_mut.ensures.value (c.run_round.ensures.goes_on port.0 port.1 some) in
    let before = c.loop-turn.invariant.before in
    let within = c.loop-turn-test.true in
    record {
      ground = ap (map constant_part) back ∙ (c.in-Ok-Some.ensures.ground ∙ (ap (map constant_part) c.deref_mut.ensures.value ∙ c.loop-turn.invariant.ground));
      fed = subst AreRunsFed (sym back) (fed_by_run c.run_round.new.stations c.in-Ok-Some.ensures.fed);
      before = subst (AreRunsBeforeRound c.args.network.now c.args.incoming.items (c.loop-turn.turn + 1)) (sym back)
          (before_more c.args.network.now c.args.incoming.items c.loop-turn.turn port.0 port.1 c.loop-turn.stations.items c.run_round.new.stations before on);
      last = unsettled_more c.args.network.now c.args.incoming.items c.loop-turn.turn port.0 port.1 c.loop-turn.stations.items c.run_round.new.stations before on;
      earlier = earlier_more c.args.network.now c.args.incoming.items c.loop-turn.turn port.0 port.1 c.loop-turn.stations.items c.run_round.new.stations before on c.loop-turn.invariant.earlier;
      few = omega (arith, within);
    }

pub returns-clause-stops : goal.returns-clause-stops
returns-clause-stops g c =
    let few = c.loop-turn.invariant.few in
    let end = c.loop-turn-test.false in
    let all : c.loop-turn.turn ≡ c.args.rounds = omega (arith, few, end) in
    subst (λ (k : ℕ). StopsNetworkRun c.args.network.now c.args.incoming.items k (fault.NotSettled c.loop-turn.last.0 c.loop-turn.last.1)) all c.loop-turn.invariant.last
