use Rattle.std.proofs.Common.{◌≡◌, ◌≤◌, ◌+◌}
use Rattle.bridge_config.specs.Rules.{find_port}
use Rattle.bridge_check.specs.Faults.{first_among_numbers}
use Rattle.net_model.specs.LinkFrames.{frame_pattern}
use Rattle.net_model.specs.FrameSearch.{first_frame_on_ingress_if_any}
use Rattle.net_model.specs.SearchState.{hops}
use Rattle.net_model.proofs.sending_port.SendingPort.first_frame_by_ingress.Given as goal

abbrev pub invariant-loop-i : goal.invariant-loop-i
invariant-loop-i g l = (l.i ≤ 16) × (l.first ≡ first_among_numbers l.i (λ i. first_frame_on_ingress_if_any l.self.question l.self.plan.now (hops l.self) l.self.end.port (frame_pattern l.named l.tag) (find_port l.self.plan.now.ports (i + 1))))
