-- Warnings of an accepted network: frames that may loop, filters in no stream, and limits that fall along a stream.
use Rattle.std.specs.Prelude.{◌≡◌, ℕ, suc, ◌+◌, ◌-◌, ◌^◌, Bool, true, false, not, ◌&&◌, ◌||◌, nat_eq, nat_lt, List, [], ◌∷◌, ◌++◌, Option, Some, None, length, flat_map, slice_get, slice_index, codes, decimal, if◌then◌else◌}
use Rattle.std.specs.List.{list_any}
use Rattle.std.specs.Map.{lookup}
use Rattle.std.specs.Fmt.{digits, format_spec, padded_integral}
use Rattle.bridge_ident.specs.declared.StreamEntry.{StreamEntry}
use Rattle.bridge_filter.specs.declared.FilterPlan.{FilterPlan}
use Rattle.bridge_config.specs.Model.{Plan}
use Rattle.net_file.specs.declared.link_row.LinkRow.{LinkRow}
use Rattle.net_file.specs.Model.{Bridge, Stream}
use Rattle.net_file.specs.Model as file
use Rattle.net_model.specs.NetworkParts.{NetworkParts}
use Rattle.net_model.specs.declared.forwarding_loop.ForwardingLoop.{ForwardingLoop}
use Rattle.net_model.specs.ForwardingLoops.{AreForwardingLoops}
use Rattle.net_model.specs.LoopSteps.{collect_below}
use Rattle.net_check.specs.Naming.{bridge_name}

-- FRAMES THAT MAY LOOP

-- The number of the optional VLAN in a warning about a loop, or `none` for frames whose tag names no VLAN.
abbrev pub vlan_text : Option ℕ → List ℕ
vlan_text None = codes "none"
vlan_text (Some vid) = decimal vid

-- Octet `n` of an address, as two hexadecimal digits.
abbrev pub octet_text : ℕ → List ℕ
octet_text n = padded_integral (format_spec 32 0 4 2 (2 ^ 64 - 1)) false [] (digits 16 true n)

-- Address `a` as six octets, joined by hyphens.
unfoldable pub address_text : List ℕ → List ℕ
address_text a =
    octet_text (slice_index a 0) ++ (codes "-" ++ (octet_text (slice_index a 1) ++ (codes "-" ++ (octet_text (slice_index a 2) ++ (codes "-"
    ++ (octet_text (slice_index a 3) ++ (codes "-" ++ (octet_text (slice_index a 4) ++ (codes "-" ++ octet_text (slice_index a 5))))))))))

-- The destination in a warning about a loop: an address, or the words for all destinations without a static entry.
abbrev pub destination_text : Option (List ℕ) → List ℕ
destination_text None = codes "any other destination"
destination_text (Some address) = codes "destination " ++ address_text address

-- The warning about frames that may loop, from the texts of its parts: VLAN, destination, bridge name and port.
unfoldable pub loop_words : List ℕ → List ℕ → List ℕ → ℕ → List ℕ
loop_words vlan destination name port =
    codes "may go round: VLAN " ++ (vlan ++ (codes " " ++ (destination ++ (codes " at " ++ (name ++ (codes "." ++ (decimal port ++ codes "\n")))))))

-- The warning about a group of frames that may loop, with a port at which they can arrive again and again.
abbrev pub loop_line : List Bridge → ForwardingLoop → List ℕ
loop_line bridges c = loop_words (vlan_text c.group.vlan) (destination_text c.group.destination) (bridge_name bridges c.at.bridge) c.at.port

-- FILTERS IN NO STREAM

-- True if one of these hops is filter `n` of bridge `b`.
abbrev pub is_hop : List (ℕ × ℕ) → ℕ → ℕ → Bool
is_hop hops b n = list_any (λ (h : ℕ × ℕ). nat_eq h.0 b && nat_eq h.1 n) hops

-- True if a stream has filter `n` of bridge `b` as a hop.
abbrev pub has_hop : List Stream → ℕ → ℕ → Bool
has_hop streams b n = list_any (λ (s : Stream). is_hop s.hops b n) streams

-- True if port `q` of bridge `b` has a link.
abbrev pub has_link : List LinkRow → ℕ → ℕ → Bool
has_link links b q = list_any (λ (l : LinkRow). (nat_eq l.one.0 b && nat_eq l.one.1 q) || (nat_eq l.other.0 b && nat_eq l.other.1 q)) links

-- True if one of these entries of bridge `b` has handle `h` and is on a linked port.
abbrev pub has_linked_entry : List LinkRow → ℕ → List StreamEntry → ℕ → Bool
has_linked_entry links b entries h = list_any (λ (e : StreamEntry). nat_eq e.handle h && has_link links b e.port) entries

-- True if an entry of plan `p` of bridge `b` has the optional handle and is on a linked port. False without a handle.
abbrev pub is_entered_by_link : {A : Type 0} → List LinkRow → ℕ → Plan A → Option ℕ → Bool
is_entered_by_link links b p None = false
is_entered_by_link links b p (Some h) = has_linked_entry links b p.streams h

-- True if filter `f` of bridge `b` is protected, its frames can arrive over a link, and it is a hop of no stream.
abbrev pub is_unlisted : {A : Type 0} → List LinkRow → List Stream → ℕ → Plan A → ℕ × FilterPlan → Bool
is_unlisted links streams b p f = f.1.protected && (is_entered_by_link links b p f.1.handle && not (has_hop streams b f.0))

-- The warning about filter `n` that is a hop of no stream, with its bridge's name.
unfoldable pub unlisted_words : List ℕ → ℕ → List ℕ
unlisted_words name n = codes "in no stream: " ++ (name ++ (codes "." ++ (decimal n ++ codes "\n")))

-- The warning about filter `x` of bridge `b` if the filter is unlisted, otherwise empty.
abbrev pub unlisted_text : {A : Type 0} → file.Network → ℕ → Plan A → ℕ × FilterPlan → List ℕ
unlisted_text f b p x = if is_unlisted f.links f.streams b p x then unlisted_words (bridge_name f.bridges b) x.0 else []

-- The warnings about the unlisted filters of plan `p` of bridge `b`.
abbrev pub unlisted_of_plan : {A : Type 0} → file.Network → ℕ → Plan A → List ℕ
unlisted_of_plan f b p = flat_map (unlisted_text f b p) p.filters

-- The warnings about the unlisted filters of these plans. The first plan has bridge index `b`.
abbrev pub unlisted_filters : {A : Type 0} → file.Network → ℕ → List (Plan A) → List ℕ
unlisted_filters f b [] = []
unlisted_filters f b (p ∷ ps) = unlisted_of_plan f b p ++ unlisted_filters f (suc b) ps

-- LIMITS THAT FALL ALONG A STREAM

-- The limit in octets (`max_sdu`) of an optional filter; `None` without a filter or a limit.
abbrev pub sdu_if_any : Option FilterPlan → Option ℕ
sdu_if_any None = None
sdu_if_any (Some f) = f.max_sdu

-- The limit in octets (`max_sdu`) of filter `n` of an optional plan; `None` without a plan, a filter or a limit.
abbrev pub filter_sdu : {A : Type 0} → Option (Plan A) → ℕ → Option ℕ
filter_sdu None n = None
filter_sdu (Some p) n = sdu_if_any (lookup (nat_eq n) p.filters)

-- The limit in octets (`max_sdu`) of a hop's filter; `None` if the plan, the filter or the limit is missing.
abbrev pub hop_sdu : {A : Type 0} → List (Plan A) → ℕ × ℕ → Option ℕ
hop_sdu plans h = filter_sdu (slice_get plans h.0) h.1

-- True if limit `b` is less than limit `a`; false if one of them is missing.
abbrev pub is_smaller_limit : Option ℕ → Option ℕ → Bool
is_smaller_limit (Some a) (Some b) = nat_lt b a
is_smaller_limit a b = false

-- True if hop `b` has a lower `max_sdu` than hop `a`; false if a hop or a limit is missing.
abbrev pub is_sdu_falling : {A : Type 0} → List (Plan A) → Option (ℕ × ℕ) → Option (ℕ × ℕ) → Bool
is_sdu_falling plans (Some a) (Some b) = is_smaller_limit (hop_sdu plans a) (hop_sdu plans b)
is_sdu_falling plans a b = false

-- The warning that `max_sdu` falls at hop `k` of stream `i`. Both are indexes from 0; the line counts from 1.
unfoldable pub sdu_fall_line : ℕ → ℕ → List ℕ
sdu_fall_line i k = codes "max_sdu falls: stream " ++ (decimal (i + 1) ++ (codes " hop " ++ (decimal (k + 1) ++ codes "\n")))

-- The warning about the hop after index `k` of stream `i`, if it has a lower `max_sdu` than the hop with index `k`; otherwise empty.
abbrev pub sdu_fall_text : {A : Type 0} → List (Plan A) → ℕ → List (ℕ × ℕ) → ℕ → List ℕ
sdu_fall_text plans i hops k = if is_sdu_falling plans (slice_get hops k) (slice_get hops (k + 1)) then sdu_fall_line i (k + 1) else []

-- The warnings about the hops of stream `i` that have a lower `max_sdu` than the hop before.
abbrev pub stream_sdu_falls : {A : Type 0} → List (Plan A) → ℕ → List (ℕ × ℕ) → List ℕ
stream_sdu_falls plans i hops = collect_below (length hops) (sdu_fall_text plans i hops)

-- The warnings about all hops with a lower `max_sdu` than the hop before. The first stream has index `i`.
abbrev pub sdu_falls : {A : Type 0} → List (Plan A) → ℕ → List Stream → List ℕ
sdu_falls plans i [] = []
sdu_falls plans i (s ∷ ss) = stream_sdu_falls plans i s.hops ++ sdu_falls plans (suc i) ss

-- ALL WARNINGS

-- Holds if `text` has the warnings of a network that need no delays: frames that may loop, unlisted filters, falling limits. It is empty
-- without a warning.
abbrev pub AreNetworkWarnings : {A : Type 0} → file.Network → NetworkParts A → List ℕ → Type 0
AreNetworkWarnings {A} f n text =
    (rows : List ForwardingLoop) × AreForwardingLoops n.plans n.links rows
    × (text ≡ flat_map (loop_line f.bridges) rows ++ (unlisted_filters f 0 n.plans ++ sdu_falls n.plans 0 f.streams))
