-- The priority of a frame is at most 7.
use Rattle.std.proofs.Common.{◌≤◌, Option, Some, None, refl}
use Rattle.std.specs.Option.{ForSome}
use Rattle.bridge_frame.specs.declared.Tag.{Tag}
use Rattle.bridge_config.specs.declared.ports.PortPlan.{PortPlan}
use Rattle.bridge_config.specs.Rules.{IsPort}
use Rattle.bridge_check.specs.FrameInput.{frame_priority}

-- A frame's priority is at most 7, from its tag or from its port.
pub priority_few : {A : Type 0} (port : PortPlan A) (t : Option Tag) → IsPort port → ForSome t (λ t. t.pcp ≤ 7) → frame_priority port t ≤ 7
priority_few port None is h = is.priority
priority_few port (Some tag) is h = h tag refl
