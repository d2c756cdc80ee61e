use Rattle.std.proofs.Common.{ℕ, List, Option, ◌++◌, Some, map, sym, ap, subst, ◌∙◌}
use Rattle.std.specs.Prelude.{All}
use Rattle.std.proofs.lemmas.List.Elements.{All-head, All-tail}
use Rattle.bridge_semantics.specs.declared.outcome.Outcome.{Outcome}
use Rattle.net_run.specs.declared.rounds.EndedRun.{EndedRun}
use Rattle.net_run.specs.BridgeRuns.{HasRun, BridgeRunState, sink_octets}
use Rattle.net_run.proofs.Turns.{all_moved, moved}
use Rattle.net_run.proofs.rounds.ended_runs.Goals as goal

pub finish-outcome-requires : goal.finish-outcome-requires
finish-outcome-requires g c = All-head HasRun c.in-Some.station c.next.new.self.rest.items (subst (All HasRun) c.in-Some.ensures.steps.0 c.loop-station.invariant.runs)

pub loop-station-init : goal.loop-station-init
loop-station-init g c =
    let none = c.in_ok-all.ensures.items in
    let all = c.into_iter-station-iterator.ensures.into_iter_gives.0 in
    record {
      outcomes = ap (λ (l : List (EndedRun g.row.A.Denot)). map (λ (s : EndedRun g.row.A.Denot). Some s.outcome) l ++ map (λ (x : BridgeRunState g.row.A.Denot). x.outcome) c.into_iter-station-iterator.result.rest.items) none ∙ ap (map (λ (x : BridgeRunState g.row.A.Denot). x.outcome)) all;
      taps = ap (λ (l : List (EndedRun g.row.A.Denot)). map (λ (s : EndedRun g.row.A.Denot). sink_octets s.taps.items) l ++ map (λ (x : BridgeRunState g.row.A.Denot). x.taps) c.into_iter-station-iterator.result.rest.items) none ∙ ap (map (λ (x : BridgeRunState g.row.A.Denot). x.taps)) all;
      runs = subst (All HasRun) (sym all) c.requires;
    }

pub loop-station-preserved : goal.loop-station-preserved
loop-station-preserved g c =
    let step = c.in-Some.ensures.steps.0 in
    let own : EndedRun g.row.A.Denot = record { outcome = c.finish-outcome.result.0; taps = c.finish-outcome.result.1 } in
    let outcome : List (EndedRun g.row.A.Denot) → List (Option (Outcome g.row.A.Denot)) = map (λ (s : EndedRun g.row.A.Denot). Some s.outcome) in
    let tap : List (EndedRun g.row.A.Denot) → List (List (List ℕ)) = map (λ (s : EndedRun g.row.A.Denot). sink_octets s.taps.items) in
    record {
      outcomes = ap (λ (l : List (EndedRun g.row.A.Denot)). outcome l ++ map (λ (x : BridgeRunState g.row.A.Denot). x.outcome) c.next.new.self.rest.items) c.in_ok-push.ensures.items
          ∙ moved (λ (s : EndedRun g.row.A.Denot). Some s.outcome) (λ (x : BridgeRunState g.row.A.Denot). x.outcome) c.loop-station.all.items own c.in-Some.station c.next.new.self.rest.items _
          (sym (ap (λ (l : List (BridgeRunState g.row.A.Denot)). outcome c.loop-station.all.items ++ map (λ (x : BridgeRunState g.row.A.Denot). x.outcome) l) step) ∙ c.loop-station.invariant.outcomes) (sym c.finish-outcome.ensures.0);
      taps = ap (λ (l : List (EndedRun g.row.A.Denot)). tap l ++ map (λ (x : BridgeRunState g.row.A.Denot). x.taps) c.next.new.self.rest.items) c.in_ok-push.ensures.items
          ∙ moved (λ (s : EndedRun g.row.A.Denot). sink_octets s.taps.items) (λ (x : BridgeRunState g.row.A.Denot). x.taps) c.loop-station.all.items own c.in-Some.station c.next.new.self.rest.items _
          (sym (ap (λ (l : List (BridgeRunState g.row.A.Denot)). tap c.loop-station.all.items ++ map (λ (x : BridgeRunState g.row.A.Denot). x.taps) l) step) ∙ c.loop-station.invariant.taps) (sym c.finish-outcome.ensures.1);
      runs = All-tail HasRun c.in-Some.station c.next.new.self.rest.items (subst (All HasRun) step c.loop-station.invariant.runs);
    }

pub returns : goal.returns
returns g c =
    let none = sym c.loop-station.station-iterator.rest.ok.0 ∙ c.in-None.ensures.steps.0 in
    record {
      outcomes = all_moved (λ (s : EndedRun g.row.A.Denot). Some s.outcome) (λ (x : BridgeRunState g.row.A.Denot). x.outcome) c.loop-station.all.items c.loop-station.station-iterator.rest.items _ none c.loop-station.invariant.outcomes;
      taps = all_moved (λ (s : EndedRun g.row.A.Denot). sink_octets s.taps.items) (λ (x : BridgeRunState g.row.A.Denot). x.taps) c.loop-station.all.items c.loop-station.station-iterator.rest.items _ none c.loop-station.invariant.taps;
    }
