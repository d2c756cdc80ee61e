-- Search for stray or own frames that a hop can accept over a link. Order: the hop's port, its entries, tags, the sender's port, handles.
-- `is_of_stream` is true for the sender's hops.
use Rattle.std.specs.Prelude.{ℕ, ◌+◌, Bool, true, false, not, ◌&&◌, List, [], ◌∷◌, Option, Some, None, option_map}
use Rattle.std.specs.Prelude.{slice_get, if◌then◌else◌}
use Rattle.bridge_frame.specs.declared.Tag.{Tag}
use Rattle.bridge_ident.specs.declared.StreamEntry.{StreamEntry}
use Rattle.bridge_filter.specs.declared.FilterPlan.{FilterPlan}
use Rattle.bridge_config.specs.declared.ports.PortPlan.{PortPlan}
use Rattle.bridge_config.specs.Model.{Plan}
use Rattle.bridge_config.specs.Rules.{find_port}
use Rattle.bridge_check.specs.Faults.{first_option, first_among_numbers}
use Rattle.bridge_check.specs.FrameInput.{frame_vid, frame_priority}
use Rattle.net_model.specs.declared.sending_port.FoundFrames.{FoundFrames}
use Rattle.net_model.specs.declared.sending_port.FrameQuery.{FrameQuery}
use Rattle.net_model.specs.declared.sending_port.FrameQuery.TheVariants.{Strays, Own}
use Rattle.net_model.specs.Networks.{End}
use Rattle.net_model.specs.LinkFrames.{FramePattern, possible_handles, matching_filter, can_wait_at_port_number, is_safe_filter, can_leave, possible_tags, is_feeding_entry}
use Rattle.net_model.specs.LinkFrames.{frame_pattern}
use Rattle.net_model.specs.ClosedTest.{has_hop}

-- The first value that function `tell` returns for the items of a list, in list order; `None` if every call returns
-- `None`.
abbrev pub find_first : {X Y : Type 0} → (X → Option Y) → List X → Option Y
find_first tell [] = None
find_first tell (x ∷ xs) = first_option (tell x) (find_first tell xs)

-- True if the optional filter `m` belongs to the stream and has a reachable queue at port `q`; false for unfiltered
-- frames (`None`).
abbrev pub is_own_filter : {A : Type 0} → Plan A → (ℕ → Bool) → ℕ → Option (ℕ × FilterPlan) → Bool
is_own_filter p is_of_stream q None = false
is_own_filter p is_of_stream q (Some m) = is_of_stream m.0 && can_wait_at_port_number p m.1 q

-- True if a search for stray frames (Strays) or own frames (Own) looks for frames of optional filter `m` that leave by
-- port `q`. Frames without a filter are stray.
abbrev pub is_asked : {A : Type 0} → FrameQuery → Plan A → (ℕ → Bool) → ℕ → Option (ℕ × FilterPlan) → Bool
is_asked Strays p is_of_stream q m = not (is_safe_filter p is_of_stream q m)
is_asked Own p is_of_stream q m = is_own_filter p is_of_stream q m

-- The example with the number of the optional filter `m` and the ingress port `from`, if the flag is true; otherwise
-- `None`.
abbrev pub frames_if_asked : Bool → Option (ℕ × FilterPlan) → ℕ → Option FoundFrames
frames_if_asked true m from = Some (record { filter = option_map (λ (x : ℕ × FilterPlan). x.0) m; from = from })
frames_if_asked false m from = None

-- An example of frames with this priority and optional handle, from port `from` to port `q`, if the search looks for their filter;
-- otherwise `None`.
abbrev pub frames_by_handle : {A : Type 0} → FrameQuery → Plan A → (ℕ → Bool) → ℕ → ℕ → ℕ → Option ℕ → Option FoundFrames
frames_by_handle w p is_of_stream q from priority handle =
    frames_if_asked (is_asked w p is_of_stream q (matching_filter p handle priority)) (matching_filter p handle priority) from

-- The first example of stray or own frames (kind `w`) of pattern `s` that arrive at ingress port `on` and can leave by
-- port `q`. `None` if the search finds no frames.
--
-- Handles are tried in the order of `possible_handles`.
abbrev pub first_frame_on_ingress : {A : Type 0} → FrameQuery → Plan A → (ℕ → Bool) → ℕ → FramePattern → PortPlan A → Option FoundFrames
first_frame_on_ingress w p is_of_stream q s on =
    if can_leave p.database on.number (frame_vid on s.tag) s q
    then find_first (frames_by_handle w p is_of_stream q on.number (frame_priority on s.tag)) (possible_handles p.streams on.number (frame_vid on s.tag) s)
    else None

-- The first example of stray or own frames (kind `w`) of pattern `s` that arrive at the ingress port and can leave by
-- port `q`.
--
-- `None` if the port is missing or the search finds no frames.
abbrev pub first_frame_on_ingress_if_any : {A : Type 0} → FrameQuery → Plan A → (ℕ → Bool) → ℕ → FramePattern → Option (PortPlan A) → Option FoundFrames
first_frame_on_ingress_if_any w p is_of_stream q s None = None
first_frame_on_ingress_if_any w p is_of_stream q s (Some on) = first_frame_on_ingress w p is_of_stream q s on

-- The first example of stray or own frames (kind `w`) of pattern `s` that can leave by port `q`. `None` if no frames
-- can. Ingress ports are tried from 1 to 16.
abbrev pub first_sent_frame : {A : Type 0} → FrameQuery → Plan A → (ℕ → Bool) → ℕ → FramePattern → Option FoundFrames
first_sent_frame w p is_of_stream q s = first_among_numbers 16 (λ i. first_frame_on_ingress_if_any w p is_of_stream q s (find_port p.ports (i + 1)))

-- An example of stray or own frames (kind `w`) from port `q` with this tag and the address of `e`. Entry `e` must give
-- these frames to filter `n`.
--
-- `None` if the search finds no frames.
abbrev pub first_taken_with_tag : {A : Type 0} → FrameQuery → Plan A → (ℕ → Bool) → ℕ → Plan A → PortPlan A → ℕ → StreamEntry → Option Tag
    → Option FoundFrames
first_taken_with_tag w p is_of_stream q next on n e tag =
    if is_feeding_entry next on n e tag then first_sent_frame w p is_of_stream q (frame_pattern e tag) else None

-- The first example of stray or own frames (kind `w`) from port `q` with the address of entry `e` for filter `n`.
-- `None` if the search finds no frames.
--
-- Tags are tried in the order of `possible_tags`.
abbrev pub first_taken_of_entry : {A : Type 0} → FrameQuery → Plan A → (ℕ → Bool) → ℕ → Plan A → PortPlan A → ℕ → StreamEntry → Option FoundFrames
first_taken_of_entry w p is_of_stream q next on n e = find_first (first_taken_with_tag w p is_of_stream q next on n e) (possible_tags e.vid)

-- The first example of stray or own frames (kind `w`) from port `q` that filter `n` may accept. `None` if the search
-- finds no frames. The stream entries of plan `next` are tried in order.
abbrev pub first_taken : {A : Type 0} → FrameQuery → Plan A → (ℕ → Bool) → ℕ → Plan A → PortPlan A → ℕ → Option FoundFrames
first_taken w p is_of_stream q next on n = find_first (first_taken_of_entry w p is_of_stream q next on n) next.streams

-- An example of stray or own frames (kind `w`) that filter `n` may accept from the optional sending port `q`. `None` if
-- the port is missing or the search finds no frames.
abbrev pub first_taken_of_sender_port : {A : Type 0} → FrameQuery → Plan A → (ℕ → Bool) → ℕ → Option (PortPlan A) → Plan A → PortPlan A → ℕ
    → Option FoundFrames
first_taken_of_sender_port w p is_of_stream q None next on n = None
first_taken_of_sender_port w p is_of_stream q (Some out) next on n = first_taken w p is_of_stream q next on n

-- An example of stray or own frames (kind `w`) that filter `n` may accept at port `on` from the optional sending
-- bridge. `None` if the bridge is missing or the search finds no frames.
abbrev pub first_taken_of_sender : {A : Type 0} → FrameQuery → Option (Plan A) → List (ℕ × ℕ) → End → Plan A → PortPlan A → ℕ → Option FoundFrames
first_taken_of_sender w None stream e next on n = None
first_taken_of_sender w (Some p) stream e next on n =
    first_taken_of_sender_port w p (has_hop stream e.bridge) e.port (find_port p.ports e.port) next on n

-- An example of stray or own frames (kind `w`) that filter `n` may accept at port `on` from the optional link end.
-- `None` if the link end is missing or the search finds no frames.
abbrev pub first_taken_over_link : {A : Type 0} → FrameQuery → List (Plan A) → List (ℕ × ℕ) → Option End → Plan A → PortPlan A → ℕ
    → Option FoundFrames
first_taken_over_link w plans stream None next on n = None
first_taken_over_link w plans stream (Some e) next on n = first_taken_of_sender w (slice_get plans e.bridge) stream e next on n
