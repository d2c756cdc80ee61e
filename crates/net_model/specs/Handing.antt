-- Test on the plans at a link's two ends: does the next hop get each frame that a hop sends? The sender has plan `p` and filter `m`, the
-- receiver `next` and `n`.
use Rattle.std.specs.Prelude.{ℕ, Bool, true, false, not, ◌&&◌, ◌||◌, nat_eq, List, Option, Some, None, slice_get}
use Rattle.std.specs.List.{list_all}
use Rattle.bridge_frame.specs.declared.Tag.{Tag}
use Rattle.bridge_ident.specs.declared.StreamEntry.{StreamEntry}
use Rattle.bridge_filter.specs.OwnEvents.{is_filter_number}
use Rattle.bridge_forward.specs.Forward.{forward}
use Rattle.bridge_config.specs.declared.ports.PortPlan.{PortPlan}
use Rattle.bridge_config.specs.Model.{Plan}
use Rattle.bridge_config.specs.Rules.{find_port}
use Rattle.bridge_check.specs.Reach.{is_null_kind}
use Rattle.bridge_check.specs.FrameInput.{frame_vid, frame_priority}
use Rattle.net_model.specs.Networks.{End}
use Rattle.net_model.specs.LinkFrames.{FramePattern, possible_handles, matching_filter, can_leave, possible_tags, is_feeding_entry, frame_pattern}

-- True if bridge `next` forwards frames of pattern `s` that arrive at port `on`. Always true if the pattern has a source address, because the destination is
-- then unknown.
abbrev pub goes_on : {A : Type 0} → Plan A → PortPlan A → FramePattern → Bool
goes_on next on s = not (is_null_kind s.kind) || not (nat_eq (forward next.database on.number (frame_vid on s.tag) s.address) 0)

-- True if frames of pattern `s` with this optional handle belong to filter `n` when they arrive at port `on`.
abbrev pub is_given : {A : Type 0} → Plan A → PortPlan A → ℕ → FramePattern → Option ℕ → Bool
is_given next on n s handle = is_filter_number n (matching_filter next handle (frame_priority on s.tag))

-- True if each frame of pattern `s` that arrives at port `on` belongs to filter `n`, whichever stream entry matches it.
abbrev pub gives_all : {A : Type 0} → Plan A → PortPlan A → ℕ → FramePattern → Bool
gives_all next on n s = list_all (is_given next on n s) (possible_handles next.streams on.number (frame_vid on s.tag) s)

-- True if bridge `next` forwards each frame of pattern `s` that arrives at port `on`, and judges it by filter `n`.
abbrev pub takes_all : {A : Type 0} → Plan A → PortPlan A → ℕ → FramePattern → Bool
takes_all next on n s = goes_on next on s && gives_all next on n s

-- True if all frames with this tag that filter `m` passes on to port `q` belong to filter `n` at the next bridge's port `on`. Entry `e`
-- gives them to filter `m` at port `from`.
abbrev pub hands_tag : {A : Type 0} → Plan A → ℕ → ℕ → Plan A → PortPlan A → ℕ → StreamEntry → PortPlan A → Option Tag → Bool
hands_tag p m q next on n e from tag =
    not (is_feeding_entry p from m e tag)
    || (not (can_leave p.database from.number (frame_vid from tag) (frame_pattern e tag) q) || takes_all next on n (frame_pattern e tag))

-- True if `hands_tag` holds, from filter `m` at port `q` to filter `n`, for the 17 tags that frames of entry `e` can have. True if the plan
-- lacks the entry's port.
abbrev pub hands_entry : {A : Type 0} → Plan A → ℕ → ℕ → Plan A → PortPlan A → ℕ → StreamEntry → Option (PortPlan A) → Bool
hands_entry p m q next on n e None = true
hands_entry p m q next on n e (Some from) = list_all (hands_tag p m q next on n e from) (possible_tags e.vid)

-- True if each frame of filter `m` that bridge `p` sends from port `q` belongs to filter `n` at port `on` of bridge `next`.
abbrev pub hands_all : {A : Type 0} → Plan A → ℕ → ℕ → Plan A → PortPlan A → ℕ → Bool
hands_all p m q next on n = list_all (λ (e : StreamEntry). hands_entry p m q next on n e (find_port p.ports e.port)) p.streams

-- True if `hands_all` holds, from filter `m` at port `q` to filter `n`, for the optional port of the next bridge; false without a port.
abbrev pub hands_to_port : {A : Type 0} → Plan A → ℕ → ℕ → Plan A → Option (PortPlan A) → ℕ → Bool
hands_to_port p m q next None n = false
hands_to_port p m q next (Some on) n = hands_all p m q next on n

-- True if `hands_to_port` holds, from filter `m` at port `q` to filter `n` at port `r`, between two optional plans; false without a plan.
abbrev pub hands_between : {A : Type 0} → Option (Plan A) → ℕ → ℕ → Option (Plan A) → ℕ → ℕ → Bool
hands_between None m q next r n = false
hands_between (Some p) m q None r n = false
hands_between (Some p) m q (Some next) r n = hands_to_port p m q next (find_port next.ports r) n

-- True if each frame of filter `m` that bridge `b` sends from port `q` belongs to filter `n` of the bridge at link end `e`.
abbrev pub hands_over : {A : Type 0} → List (Plan A) → ℕ → ℕ → ℕ → End → ℕ → Bool
hands_over plans b m q e n = hands_between (slice_get plans b) m q (slice_get plans e.bridge) e.port n
