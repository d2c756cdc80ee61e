-- State of the search for frames that a hop may accept. No contract of a public function uses it.
use Rattle.std.specs.Prelude.{◌≡◌, ◌≤◌, ℕ, Bool, true, Option, Some, None}
use Rattle.bridge_frame.specs.declared.Tag.{Tag}
use Rattle.bridge_ident.specs.declared.StreamEntry.{StreamEntry}
use Rattle.bridge_filter.specs.declared.FilterPlan.{FilterPlan}
use Rattle.bridge_filter.specs.OwnEvents.{is_filter_number}
use Rattle.bridge_filter.specs.Verdicts.{lesser_filter}
use Rattle.net_model.specs.declared.sending_port.FoundFrames.{FoundFrames}
use Rattle.net_model.specs.declared.sending_port.SendingPort.{SendingPort}
use Rattle.net_model.specs.declared.taking_filter.TakingFilter.{TakingFilter}
use Rattle.net_model.specs.ClosedTest.{has_hop}
use Rattle.bridge_config.specs.Rules.{find_port}
use Rattle.net_model.specs.LinkFrames.{FramePattern, matching_filter}
use Rattle.net_model.specs.FrameSearch as finding
use Rattle.net_model.specs.NetworkParts.{stream_value}

-- The filter with the lower number of two optional filters. `matching_filter` folds the filters by it.
abbrev pub lesser_optional_filter : Option (ℕ × FilterPlan) → Option (ℕ × FilterPlan) → Option (ℕ × FilterPlan)
lesser_optional_filter None o = o
lesser_optional_filter (Some f) o = lesser_filter f o

-- A test of filter numbers: true if the filter of the sending bridge with this number is a hop of the stream.
abbrev pub hops : {A : Type 0} → SendingPort A → ℕ → Bool
hops s = has_hop (stream_value s.stream.now) s.end.bridge

-- An example of frames with this priority and handle that arrive on port `from` of the sender, if the search looks for them; otherwise
-- `None`.
abbrev pub frames_from_port : {A : Type 0} → SendingPort A → ℕ → ℕ → Option ℕ → Option FoundFrames
frames_from_port s from priority handle = finding.frames_by_handle s.question s.plan.now (hops s) s.end.port from priority handle

-- The first example of frames of pattern `sort` that the search looks for and that arrive on port `port` of the sender.
-- `None` if the port is missing or the search finds no frames.
abbrev pub frames_on_ingress_number : {A : Type 0} → SendingPort A → FramePattern → ℕ → Option FoundFrames
frames_on_ingress_number s sort port = finding.first_frame_on_ingress_if_any s.question s.plan.now (hops s) s.end.port sort (find_port s.plan.now.ports port)

-- Holds if the number of the sending port is from 1 to 16.
pub record IsSendingPort {A : Type 0} (s : SendingPort A) : Type 0 where
  pub from : 1 ≤ s.end.port
  pub to : s.end.port ≤ 16

-- Holds if the sending port's number is from 1 to 16, and the filter gets only frames with its handle.
pub record IsTakingFilter {A : Type 0} (t : TakingFilter A) : Type 0 where
  pub sending : IsSendingPort t.sending
  pub names : (h k : ℕ) → is_filter_number t.filter (matching_filter t.next.now (Some h) k) ≡ true → h ≡ t.handle

-- The first example of frames with this tag and the address of entry `e` that the search looks for. `None` if the
-- search finds no frames.
abbrev pub first_frame_with_tag : {A : Type 0} → TakingFilter A → StreamEntry → Option Tag → Option FoundFrames
first_frame_with_tag t e tag =
    finding.first_taken_with_tag t.sending.question t.sending.plan.now (hops t.sending) t.sending.end.port t.next.now t.on.now t.filter e tag

-- The first example of frames that the hop's filter accepts and that the search looks for. `None` if the search finds
-- no frames.
abbrev pub first_taken_frame : {A : Type 0} → TakingFilter A → Option FoundFrames
first_taken_frame t =
    finding.first_taken t.sending.question t.sending.plan.now (hops t.sending) t.sending.end.port t.next.now t.on.now t.filter
