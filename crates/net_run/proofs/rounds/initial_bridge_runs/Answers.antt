use Rattle.std.proofs.Common.{◌≡◌, ℕ, List, Some, [], ◌∷◌, drop, length, sym, ap, subst, ◌∙◌, arith}
use Rattle.std.specs.Prelude.{slice_get}
use Rattle.std.proofs.lemmas.List.{length-append}
use Rattle.std.proofs.lemmas.Option.{slice_get-get_or}
use Rattle.bridge_config.specs.Model.{Plan}
use Rattle.net_model.specs.declared.links.Link.{Link}
use Rattle.net_run.specs.BridgeRuns.{IsInitialRun, BridgeRunState}
use Rattle.net_run.proofs.Begun.{AreBegunSoFar, begun_all, begun_more, next_is}
use Rattle.net_run.proofs.rounds.initial_bridge_runs.Goals as goal

pub offset_bounds-plans-bridge : goal.offset_bounds-plans-bridge
offset_bounds-plans-bridge g c =
    let next = next_is c.args.network.now c.args.incoming.items c.loop-came.stations.items c.in-Some.came c.next.new.self.rest.items c.loop-came.came-iterator.rest.items c.requires c.in-Some.ensures.steps.0 c.loop-came.invariant.left in
    let within = next.within in
    let place = c.loop-came.invariant.place in
    let same = ap length c.plans.ensures.plans in
    omega (arith, within, place, same)

pub bounds-plans-bridge : goal.bounds-plans-bridge
bounds-plans-bridge g c =
    let next = next_is c.args.network.now c.args.incoming.items c.loop-came.stations.items c.in-Some.came c.next.new.self.rest.items c.loop-came.came-iterator.rest.items c.requires c.in-Some.ensures.steps.0 c.loop-came.invariant.left in
    let within = next.within in
    let place = c.loop-came.invariant.place in
    let same = ap length c.plans.ensures.plans in
    omega (arith, within, place, same)

pub begin-requires : goal.begin-requires
begin-requires g c =
    let next = next_is c.args.network.now c.args.incoming.items c.loop-came.stations.items c.in-Some.came c.next.new.self.rest.items c.loop-came.came-iterator.rest.items c.requires c.in-Some.ensures.steps.0 c.loop-came.invariant.left in
    let within = next.within in
    let place = c.loop-came.invariant.place in
    let plans = c.plans.ensures.plans in
    let there : slice_get c.args.network.now.plans c.loop-came.bridge ≡ Some c.index-plans-bridge.result =
    ap (λ (l : List (Plan g.row.A.Denot)). slice_get l c.loop-came.bridge) (sym plans) ∙ (slice_get-get_or c.plans.result.now c.loop-came.bridge c.index-plans-bridge.result (omega (arith, within, place, ap length plans)) ∙ ap (λ (p : Plan g.row.A.Denot). Some p) (sym c.index-plans-bridge.is)) in
    c.requires.each c.loop-came.bridge c.index-plans-bridge.result c.in-Some.came there (ap (slice_get c.args.incoming.items) place ∙ next.own)

pub loop-came-init : goal.loop-came-init
loop-came-init g c =
    let none = ap length c.in_ok-stations.ensures.items in
    let all = c.into_iter-came-iterator.ensures.into_iter_gives.0 in
    record {
      place = sym none;
      left = all ∙ sym (ap (λ (n : ℕ). drop n c.args.incoming.items) none);
      few = omega (arith, none);
      begun = λ b p d x is_p is_d is_x. absurd (let e = sym is_x ∙ ap (λ (l : List (BridgeRunState g.row.A.Denot)). slice_get l b) c.in_ok-stations.ensures.items in cc);
    }

pub loop-came-preserved : goal.loop-came-preserved
loop-came-preserved g c =
    let next = next_is c.args.network.now c.args.incoming.items c.loop-came.stations.items c.in-Some.came c.next.new.self.rest.items c.loop-came.came-iterator.rest.items c.requires c.in-Some.ensures.steps.0 c.loop-came.invariant.left in
    let items = c.in_ok-push.ensures.items in
    let more = ap length items ∙ length-append c.loop-came.stations.items (c.in_ok-station.station ∷ []) in
    let within = next.within in
    let many = c.requires.many in
    let place = c.loop-came.invariant.place in
    let plans = c.plans.ensures.plans in
    let there : slice_get c.args.network.now.plans c.loop-came.bridge ≡ Some c.index-plans-bridge.result =
    ap (λ (l : List (Plan g.row.A.Denot)). slice_get l c.loop-came.bridge) (sym plans) ∙ (slice_get-get_or c.plans.result.now c.loop-came.bridge c.index-plans-bridge.result (omega (arith, within, place, ap length plans)) ∙ ap (λ (p : Plan g.row.A.Denot). Some p) (sym c.index-plans-bridge.is)) in
    record {
      place = omega (arith, more, place);
      left = sym next.behind ∙ ap (λ (n : ℕ). drop n c.args.incoming.items) (sym more);
      few = omega (arith, more, within, many);
      begun = subst (AreBegunSoFar c.args.network.now c.args.incoming.items) (sym items)
          (begun_more c.args.network.now c.args.incoming.items c.loop-came.stations.items c.index-plans-bridge.result c.in-Some.came c.in_ok-station.station c.loop-came.bridge place there (ap (slice_get c.args.incoming.items) place ∙ next.own)
          (subst (λ (l : List Link). IsInitialRun c.index-plans-bridge.result l c.loop-came.bridge c.in-Some.came c.in_ok-station.station) c.links.ensures c.in_ok-station.ensures) c.loop-came.invariant.begun);
    }

pub returns : goal.returns
returns g c =
    let none = sym c.loop-came.came-iterator.rest.ok.0 ∙ c.in-None.ensures.steps.0 in
    begun_all c.args.network.now c.args.incoming.items c.loop-came.stations.items c.loop-came.came-iterator.rest.items c.requires none c.loop-came.invariant.left c.loop-came.invariant.few c.loop-came.invariant.begun
