use Rattle.std.proofs.Common.{◌≡◌, ◌≤◌, ℕ, length, map, take}
use Rattle.std.specs.Prelude.{All, slice_get}
use Rattle.net_run.specs.Delivery.{AreUnchanged}
use Rattle.net_run.specs.Rounds.{HaveCompleteRunsBefore}
use Rattle.net_run.specs.BridgeRuns.{HasRun, constant_part, run_texts}
use Rattle.net_run.proofs.rounds.run_bridges.Given as goal

abbrev pub invariant-loop-bridge : goal.invariant-loop-bridge
invariant-loop-bridge g l = record {
  ground : map constant_part l.stations ≡ map constant_part l.initial.stations;
  texts : map run_texts l.stations ≡ map run_texts l.initial.stations;
  runs : All HasRun (take l.bridge l.stations);
  noted : length l.all.items ≡ l.bridge;
  kept : AreUnchanged l.all.items l.initial.stations l.stations;
  complete : HaveCompleteRunsBefore l.initial.stations l.bridge;
  rest : (c : ℕ) → l.bridge ≤ c → slice_get l.stations c ≡ slice_get l.initial.stations c;
}
