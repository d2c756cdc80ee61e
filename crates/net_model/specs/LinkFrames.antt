-- Frames that a hop accepts over a link: a test on the plans at the two ends of the link. `p` is the sender's plan, `next` the receiver's;
-- `is_of_stream` is true for the sender's hops.
use Rattle.std.specs.Prelude.{ℕ, Bool, true, false, not, ◌&&◌, ◌||◌, nat_eq, List, [], ◌∷◌, ◌++◌, map}
use Rattle.std.specs.Prelude.{Option, Some, None, if◌then◌else◌}
use Rattle.std.specs.List.{list_all}
use Rattle.std.specs.Str.{bytes_eq}
use Rattle.bridge_frame.specs.declared.Tag.{Tag}
use Rattle.bridge_ident.specs.declared.Kind.{Kind}
use Rattle.bridge_ident.specs.declared.Kind.TheVariants.{Null, Source}
use Rattle.bridge_ident.specs.declared.StreamEntry.{StreamEntry}
use Rattle.bridge_ident.specs.Identification.{accepts_tag}
use Rattle.bridge_filter.specs.declared.FilterPlan.{FilterPlan}
use Rattle.bridge_filter.specs.Verdicts.{filter_input, frame_filter}
use Rattle.bridge_filter.specs.OwnEvents.{is_filter_number}
use Rattle.bridge_forward.specs.Ports.{has_port}
use Rattle.bridge_forward.specs.Database.{Database}
use Rattle.bridge_forward.specs.Forward.{forward}
use Rattle.bridge_config.specs.declared.ports.PortPlan.{PortPlan}
use Rattle.bridge_config.specs.Model.{Plan}
use Rattle.bridge_check.specs.Reach.{some_number_passes, is_null_kind, reaches_queue}
use Rattle.bridge_check.specs.FrameInput.{frame_vid, frame_priority}

-- Pattern of frames that share an optional tag, whatever its drop eligible indicator, and a destination or source address.
pub record FramePattern : Type 0 where
  pub tag : Option Tag
  pub kind : Kind
  pub address : List ℕ

-- The tag with priority `pcp`, VLAN identifier `vid`, and a clear drop eligible indicator.
abbrev pub tag_by_priority : ℕ → ℕ → Tag
tag_by_priority pcp vid = record { pcp = pcp; dei = false; vid = vid }

-- True if both kinds compare the destination address, or both compare the source address.
abbrev pub is_same_kind : Kind → Kind → Bool
is_same_kind Null Null = true
is_same_kind Source Source = true
is_same_kind _ _ = false

-- True if entry `e` may match frames of pattern `s` on `port` in VLAN `vid`. If the entry compares an address that the pattern leaves open, the entry may
-- match.
abbrev pub can_match : StreamEntry → ℕ → ℕ → FramePattern → Bool
can_match e port vid s =
    nat_eq e.port port && nat_eq e.vid vid && accepts_tag e.tag s.tag
    && (not (is_same_kind e.kind s.kind) || bytes_eq e.address s.address)

-- The handles that frames of pattern `s` may get on `port` in VLAN `vid`, in entry order; `None` means no handle. The list stops at the
-- first entry that surely matches.
abbrev pub possible_handles : List StreamEntry → ℕ → ℕ → FramePattern → List (Option ℕ)
possible_handles [] port vid s = None ∷ []
possible_handles (e ∷ es) port vid s =
    if can_match e port vid s then Some e.handle ∷ (if is_same_kind e.kind s.kind then [] else possible_handles es port vid s)
    else possible_handles es port vid s

-- The stream filter of plan `p` that matches frames with this optional stream handle and this priority. `None` if no
-- filter matches.
abbrev pub matching_filter : {A : Type 0} → Plan A → Option ℕ → ℕ → Option (ℕ × FilterPlan)
matching_filter p handle priority = frame_filter p.filters (filter_input 0 handle priority false 0 0)

-- True if filter `f` has a reachable queue at port `q`, in at least one class.
abbrev pub can_wait_at_port_number : {A : Type 0} → Plan A → FilterPlan → ℕ → Bool
can_wait_at_port_number p f q = some_number_passes 8 (reaches_queue p f q)

-- True if the optional filter `m` belongs to the stream or has no reachable queue at port `q`; false for unfiltered
-- frames (`None`).
abbrev pub is_safe_filter : {A : Type 0} → Plan A → (ℕ → Bool) → ℕ → Option (ℕ × FilterPlan) → Bool
is_safe_filter p is_of_stream q None = false
is_safe_filter p is_of_stream q (Some m) = is_of_stream m.0 || not (can_wait_at_port_number p m.1 q)

-- True if frames of pattern `s`, received on `port` in VLAN `vid`, may leave by port `q`. Always true for a source address.
abbrev pub can_leave : Database → ℕ → ℕ → FramePattern → ℕ → Bool
can_leave db port vid s q = not (is_null_kind s.kind) || has_port (forward db port vid s.address) q

-- True if all frames of pattern `s` that arrive on port `on` and may leave by port `q` belong to the stream.
abbrev pub sends_only_from_ingress : {A : Type 0} → Plan A → (ℕ → Bool) → ℕ → FramePattern → PortPlan A → Bool
sends_only_from_ingress p is_of_stream q s on =
    not (can_leave p.database on.number (frame_vid on s.tag) s q)
    || list_all (λ (h : Option ℕ). is_safe_filter p is_of_stream q (matching_filter p h (frame_priority on s.tag)))
    (possible_handles p.streams on.number (frame_vid on s.tag) s)

-- True if all frames of pattern `s` that may leave by port `q` belong to the stream, whichever port they arrive on.
abbrev pub sends_only : {A : Type 0} → Plan A → (ℕ → Bool) → ℕ → FramePattern → Bool
sends_only p is_of_stream q s = list_all (sends_only_from_ingress p is_of_stream q s) p.ports

-- The eight priorities of a VLAN tag, 0 to 7, in rising order.
abbrev pub priorities : List ℕ
priorities = 0 ∷ 1 ∷ 2 ∷ 3 ∷ 4 ∷ 5 ∷ 6 ∷ 7 ∷ []

-- The eight tags with VLAN identifier `vid`, one for each priority from 0 to 7, in rising order.
abbrev pub tags_by_priority : ℕ → List (Option Tag)
tags_by_priority vid = map (λ (k : ℕ). Some (tag_by_priority k vid)) priorities

-- The 17 tag values of frames in VLAN `vid`: untagged (`None`), then priorities 0 to 7 with identifier 0, then the same
-- priorities with `vid`.
abbrev pub possible_tags : ℕ → List (Option Tag)
possible_tags vid = None ∷ (tags_by_priority 0 ++ tags_by_priority vid)

-- True if frames with this optional tag and the address of entry `e` match this entry at port `on`, and then match
-- filter `n`.
abbrev pub is_feeding_entry : {A : Type 0} → Plan A → PortPlan A → ℕ → StreamEntry → Option Tag → Bool
is_feeding_entry p on n e tag =
    nat_eq e.port on.number && nat_eq e.vid (frame_vid on tag) && accepts_tag e.tag tag
    && is_filter_number n (matching_filter p (Some e.handle) (frame_priority on tag))

-- Pattern of frames with the optional tag `tag` and the address of entry `e`, destination or source by the entry's kind.
abbrev pub frame_pattern : StreamEntry → Option Tag → FramePattern
frame_pattern e tag = record { tag = tag; kind = e.kind; address = e.address }

-- True if frames from port `q` with this tag and the address of `e` are all of the stream, or filter `n` doesn't get them.
abbrev pub takes_only_with_tag : {A : Type 0} → Plan A → (ℕ → Bool) → ℕ → Plan A → PortPlan A → ℕ → StreamEntry → Option Tag → Bool
takes_only_with_tag p is_of_stream q next on n e tag =
    not (is_feeding_entry next on n e tag) || sends_only p is_of_stream q (frame_pattern e tag)

-- True if filter `n`, at port `on`, accepts only frames of the stream from port `q` of bridge `p`.
abbrev pub takes_only : {A : Type 0} → Plan A → (ℕ → Bool) → ℕ → Plan A → PortPlan A → ℕ → Bool
takes_only p is_of_stream q next on n =
    list_all (λ (e : StreamEntry). list_all (takes_only_with_tag p is_of_stream q next on n e) (possible_tags e.vid)) next.streams
