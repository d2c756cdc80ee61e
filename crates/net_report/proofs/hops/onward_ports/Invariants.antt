use Rattle.std.proofs.Common.{◌≡◌, ◌+◌, length}
use Rattle.net_report.specs.Hops.{AreOnwardAnswers}
use Rattle.net_report.proofs.hops.onward_ports.Given as goal

abbrev pub invariant-loop-port : goal.invariant-loop-port
invariant-loop-port g l = record {
  many : length l.ways.items + 1 ≡ l.port;
  each : AreOnwardAnswers l.links l.hops l.bridge l.ways.items;
}
