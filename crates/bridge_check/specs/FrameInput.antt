-- The data of a received frame that the stream filters use, and the class of its copies.
use Rattle.std.specs.Prelude.{ℕ, Bool, false, Option, Some, None, nat_eq, slice_index, unwrap_or, if◌then◌else◌}
use Rattle.bridge_frame.specs.declared.Head.{Head}
use Rattle.bridge_frame.specs.declared.Tag.{Tag}
use Rattle.bridge_ident.specs.Identification.{first_handle}
use Rattle.bridge_filter.specs.declared.FilterInput.{FilterInput}
use Rattle.bridge_filter.specs.Verdicts.{filter_input}
use Rattle.bridge_config.specs.declared.ports.PortPlan.{PortPlan}
use Rattle.bridge_config.specs.Model.{Plan}

-- The VLAN identifier of a received frame: the tag's, or the port's default if the frame is untagged or priority-tagged
-- (IEEE 802.1Q-2018, 6.9).
abbrev pub frame_vid : {A : Type 0} → PortPlan A → Option Tag → ℕ
frame_vid port None = port.vid
frame_vid port (Some tag) = if nat_eq tag.vid 0 then port.vid else tag.vid

-- The priority of a received frame, 0 to 7: the tag's priority code point, or the port's default priority if the frame
-- is untagged.
abbrev pub frame_priority : {A : Type 0} → PortPlan A → Option Tag → ℕ
frame_priority port None = port.priority
frame_priority port (Some tag) = tag.pcp

-- True if the received frame's tag has its drop eligible indicator set; false if the frame is untagged.
abbrev pub is_eligible : Option Tag → Bool
is_eligible None = false
is_eligible (Some tag) = tag.dei

-- The data of a received frame that the stream filters use: arrival time in ns, stream handle, priority, drop
-- eligibility, SDU octets and metered octets.
abbrev pub frame_input : {A : Type 0} → Plan A → PortPlan A → ℕ → Head → ℕ → FilterInput
frame_input p port at head octets = filter_input at (first_handle p.streams port.number head (frame_vid port head.tag)) (frame_priority port head.tag) (is_eligible head.tag) head.sdu octets

-- The traffic class (0 to 7) of a frame at egress port `out` (IEEE 802.1Q-2018, 8.6.6). The internal priority value
-- `ipv` selects the class, or, without it, the frame's `priority`.
abbrev pub frame_class : {A : Type 0} → PortPlan A → Option ℕ → ℕ → ℕ
frame_class out ipv priority = slice_index out.classes (unwrap_or ipv priority)
