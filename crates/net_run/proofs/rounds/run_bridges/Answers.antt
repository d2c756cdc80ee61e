use Rattle.std.proofs.Common.{Bool, List, [], ◌∷◌, Ok, length, slice_set, take_all, slice_index_or, refl, sym, ap, subst, ◌∙◌, arith}
use Rattle.std.specs.Prelude.{All, slice_get}
use Rattle.std.proofs.lemmas.List.{length-append}
use Rattle.std.proofs.lemmas.List.Elements.{All-nil}
use Rattle.std.proofs.lemmas.Option.{slice_get-get_or}
use Rattle.net_run.specs.Delivery.{AreUnchanged}
use Rattle.net_run.specs.BridgeRuns.{HasRun, constant_part, run_texts}
use Rattle.net_run.proofs.Handing.{kept_more, rest_more}
use Rattle.net_run.proofs.Stopped.{complete_more, stopped_at}
use Rattle.net_run.proofs.Turns.{map_set, ran_more, stops_kept}
use Rattle.net_run.proofs.rounds.run_bridges.Goals as goal

pub returns-in-Err : goal.returns-in-Err
returns-in-Err g c =
    let within = c.loop-bridge-test.true in
    let same = c.loop-bridge.auto.stations in
    let y = slice_index_or c.args.stations.now c.loop-bridge.bridge c.index-stations-bridge.result in
    let there = slice_get-get_or c.args.stations.now c.loop-bridge.bridge c.index-stations-bridge.result within in
    let here = slice_get-get_or c.loop-bridge.stations c.loop-bridge.bridge c.index-stations-bridge.result (omega (arith, within, same)) in
    record {
      ground = tt;
      texts = tt;
      runs = tt;
      kept = tt;
      stops = stopped_at c.args.stations.now c.loop-bridge.bridge y c.in-Err.fault c.bridge_fault.result there
          (stops_kept c.loop-bridge.stations c.args.stations.now c.loop-bridge.bridge _ y c.in-Err.fault c.loop-bridge.invariant.ground c.loop-bridge.invariant.texts here there c.in-Err.ensures.stops)
          c.loop-bridge.invariant.complete c.bridge_fault.ensures;
    }

pub loop-bridge-init : goal.loop-bridge-init
loop-bridge-init g c = record {
  ground = refl;
  texts = refl;
  runs = All-nil HasRun;
  noted = ap length c.in-Ok.ensures.items;
  kept = λ b flag. let none = sym (ap (λ (l : List Bool). slice_get l b) c.in-Ok.ensures.items) ∙ flag in absurd (cc);
  complete = λ b less. absurd (omega (arith, less));
  rest = λ b from. refl;
}

pub loop-bridge-preserved : goal.loop-bridge-preserved
loop-bridge-preserved g c =
    let within = c.loop-bridge-test.true in
    let same = c.loop-bridge.auto.stations in
    let here = slice_get-get_or c.loop-bridge.stations c.loop-bridge.bridge c.index-stations-bridge.result (omega (arith, within, same)) in
    let more = ap length c.in-Ok-push.ensures.items ∙ length-append c.loop-bridge.all.items (c.in-Ok-run.ran ∷ []) in
    let noted = c.loop-bridge.invariant.noted in
    record {
      ground = map_set constant_part c.loop-bridge.stations c.loop-bridge.bridge c.index-stations-bridge.result c.run.new.self c.in-Ok-run.ensures.same.0 ∙ c.loop-bridge.invariant.ground;
      texts = map_set run_texts c.loop-bridge.stations c.loop-bridge.bridge c.index-stations-bridge.result c.run.new.self c.in-Ok-run.ensures.same.1 ∙ c.loop-bridge.invariant.texts;
      runs = ran_more c.loop-bridge.stations c.loop-bridge.bridge c.run.new.self (omega (arith, within, same)) c.loop-bridge.invariant.runs c.in-Ok-run.ensures.runs;
      noted = omega (arith, more, noted);
      kept = subst (λ (l : List Bool). AreUnchanged l c.args.stations.now (slice_set c.loop-bridge.stations c.loop-bridge.bridge c.run.new.self)) (sym c.in-Ok-push.ensures.items)
          (kept_more c.loop-bridge.all.items c.args.stations.now c.loop-bridge.stations c.loop-bridge.bridge c.in-Ok-run.ran _ c.run.new.self noted c.loop-bridge.invariant.kept c.loop-bridge.invariant.rest here c.in-Ok-run.ensures.runs
          (λ e. c.run.ensures.kept (c.in-Ok-run.is ∙ ap (λ (r : Bool). Ok r) e)));
      complete = complete_more c.args.stations.now c.loop-bridge.bridge _ (sym (c.loop-bridge.invariant.rest c.loop-bridge.bridge (omega arith)) ∙ here) c.in-Ok-run.ensures.complete c.loop-bridge.invariant.complete;
      rest = rest_more c.args.stations.now c.loop-bridge.stations c.loop-bridge.bridge c.run.new.self c.loop-bridge.invariant.rest;
    }

pub returns-clause-runs : goal.returns-clause-runs
returns-clause-runs g c =
    let end = c.loop-bridge-test.false in
    let same = c.loop-bridge.auto.stations in
    subst (All HasRun) (take_all c.loop-bridge.bridge c.loop-bridge.stations (omega (arith, end, same))) c.loop-bridge.invariant.runs
