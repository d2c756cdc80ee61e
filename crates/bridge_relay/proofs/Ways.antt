-- The destination of a frame.
use Rattle.std.proofs.Common.{◌≡◌, ℕ, Bool, true, false, ◌≤◌, refl, ap, ◌∙◌, sym, Option, Some, None, Ok, Err}
use Rattle.std.specs.Option.{ForSome}
use Rattle.std.specs.Prelude.{nat_eq, if◌then◌else◌}
use Rattle.bridge_frame.specs.declared.Head.{Head}
use Rattle.bridge_frame.specs.declared.Tag.{Tag}
use Rattle.bridge_frame.specs.declared.FrameFault.{FrameFault}
use Rattle.bridge_frame.specs.Frames.{parsed_head}
use Rattle.bridge_filter.specs.Verdicts.{filter_input}
use Rattle.bridge_forward.specs.Forward.{forward}
use Rattle.bridge_config.specs.declared.ports.PortPlan.{PortPlan}
use Rattle.bridge_config.specs.Model.{Plan}
use Rattle.bridge_config.specs.Rules.{find_port, IsPort}
use Rattle.bridge_check.specs.FrameInput.{frame_vid, frame_priority, is_eligible, frame_input}
use Rattle.bridge_semantics.specs.declared.destination.Destination.TheVariants.{Malformed, Nowhere, Forwarded}
use Rattle.bridge_semantics.specs.Events.{Arrival, metered_octets, frame_destination, optional_port_destination, destination_by_set}
use Rattle.bridge_relay.specs.declared.port_state.PortState.{PortState}
use Rattle.bridge_relay.specs.Ports.{ingress_defaults}
use Rattle.bridge_relay.specs.Ports.{MatchesPlan}
use Rattle.bridge_relay.specs.RelayedFrames.{classify}

-- A port without defaults is missing.
pub none_there : {A : Type 0} (o : Option (PortPlan A)) (s : Option (PortState A)) → MatchesPlan o s → ingress_defaults s ≡ None → o ≡ None
none_there None s a h = refl
none_there (Some out) None a h = absurd a
none_there (Some out) (Some s) a h = absurd (cc)

-- A port has the defaults of its plan.
pub defaults_are : {A : Type 0} (o : Option (PortPlan A)) (s : Option (PortState A)) (vid priority : ℕ) → MatchesPlan o s → ingress_defaults s ≡ Some (vid, priority) → (out : PortPlan A) × (o ≡ Some out) × (out.vid ≡ vid) × (out.priority ≡ priority)
defaults_are None None vid priority a h = absurd (cc)
defaults_are None (Some s) vid priority a h = absurd a
defaults_are (Some out) None vid priority a h = absurd a
defaults_are (Some out) (Some s) vid priority a h =
    let e : (s.vid, s.priority) ≡ (vid, priority) = same (s.vid, s.priority) (vid, priority) h in
    (out, refl, sym a.vid ∙ ap (λ (p : ℕ × ℕ). p.0) e, sym a.priority ∙ ap (λ (p : ℕ × ℕ). p.1) e) where
      same : (a b : ℕ × ℕ) → Some a ≡ Some b → a ≡ b
      same a b k = cc

pub way_none : {A : Type 0} (p : Plan A) (a : Arrival) → find_port p.ports a.port ≡ None → Nowhere ≡ frame_destination p a
way_none {A} p a e = sym (ap (λ (o : Option (PortPlan A)). optional_port_destination p o a (parsed_head a.octets a.len)) e)

pub way_bad : {A : Type 0} (p : Plan A) (a : Arrival) (out : PortPlan A) (f : FrameFault) → find_port p.ports a.port ≡ Some out → parsed_head a.octets a.len ≡ Err f → Malformed ≡ frame_destination p a
way_bad {A} p a out f e h = sym (ap (λ (o : Option (PortPlan A)). optional_port_destination p o a (parsed_head a.octets a.len)) e ∙ ap (optional_port_destination p (Some out) a) h)

-- The VLAN, priority and drop eligible indicator of a parsed frame.
pub classified_is : {A : Type 0} (out : PortPlan A) (tag : Option Tag) (vid priority : ℕ) → out.vid ≡ vid → out.priority ≡ priority → classify tag vid priority ≡ (frame_vid out tag, frame_priority out tag, is_eligible tag)
classified_is out None vid priority v k = ap (λ (n : ℕ). (n, priority, false)) (sym v) ∙ ap (λ (n : ℕ). (out.vid, n, false)) (sym k)
classified_is out (Some tag) vid priority v k = ap (λ (n : ℕ). ((if nat_eq tag.vid 0 then n else tag.vid), tag.pcp, tag.dei)) (sym v)

pub way_good : {A : Type 0} (p : Plan A) (a : Arrival) (out : PortPlan A) (h : Head) → find_port p.ports a.port ≡ Some out → parsed_head a.octets a.len ≡ Ok h → destination_by_set p out a h (forward p.database out.number (frame_vid out h.tag) h.da) ≡ frame_destination p a
way_good {A} p a out h e is = sym (ap (λ (o : Option (PortPlan A)). optional_port_destination p o a (parsed_head a.octets a.len)) e ∙ ap (optional_port_destination p (Some out) a) is)

pub goes_nowhere : {A : Type 0} (p : Plan A) (out : PortPlan A) (a : Arrival) (h : Head) (set : ℕ) → nat_eq set 0 ≡ true → Nowhere ≡ destination_by_set p out a h set
goes_nowhere p out a h set e = rw e refl

pub goes_somewhere : {A : Type 0} (p : Plan A) (out : PortPlan A) (a : Arrival) (h : Head) (set : ℕ) → nat_eq set 0 ≡ false → Forwarded set (frame_input p out a.at h (metered_octets a.len)) ≡ destination_by_set p out a h set
goes_somewhere p out a h set e = rw e refl

pub same_call : (at sdu : ℕ) (handle hand : Option ℕ) (priority k : ℕ) (dei d : Bool) (octets n : ℕ) → handle ≡ hand → priority ≡ k → dei ≡ d → octets ≡ n → filter_input at handle priority dei sdu octets ≡ filter_input at hand k d sdu n
same_call at sdu handle hand priority k dei d octets n a b c e = rw (a, b, c, e) refl

pub priority_few : {A : Type 0} (out : PortPlan A) (tag : Option Tag) → IsPort out → ForSome tag (λ t. t.pcp ≤ 7) → frame_priority out tag ≤ 7
priority_few out None is h = is.priority
priority_few out (Some tag) is h = h tag refl

-- The relay's port for a port of the plan.
pub slot_of : {A : Type 0} (o : Option (PortPlan A)) (s : Option (PortState A)) (out : PortPlan A) → MatchesPlan o s → o ≡ Some out → (w : PortState A) × (s ≡ Some w)
slot_of None s out a h = absurd (cc)
slot_of (Some v) None out a h = absurd a
slot_of (Some v) (Some w) out a h = (w, refl)
