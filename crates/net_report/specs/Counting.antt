-- Counts of copies, summed over all hops, for each frame of a stream's first hop.
use Rattle.std.specs.Prelude.{◌≡◌, ℕ, ◌+◌, ◌-◌, ◌^◌, Bool, true, false, nat_eq, nat_lt, Option, Some, None, List, [], ◌∷◌, fold, length, replicate, slice_get, slice_set, Vec, if◌then◌else◌}
use Rattle.bridge_filter.specs.declared.Verdict.{Verdict}
use Rattle.net_model.specs.declared.links.Link.{Link}
use Rattle.bridge_semantics.specs.declared.outcome.Departure.{Departure}
use Rattle.bridge_semantics.specs.declared.outcome.Dropped.{Dropped}
use Rattle.bridge_semantics.specs.declared.outcome.View.{View}
use Rattle.net_report.specs.declared.copy_counting.CopyFate.{CopyFate}
use Rattle.net_report.specs.declared.copy_counting.CopyFate.TheVariants as fate
use Rattle.net_report.specs.declared.copy_counting.HopRun.{HopRun}
use Rattle.net_report.specs.declared.copy_counting.CopyCounts.{CopyCounts}
use Rattle.net_report.specs.declared.sources.SourceFrame.{SourceFrame}
use Rattle.net_report.specs.Hops.{AreOnwardPorts, is_onward}
use Rattle.net_report.specs.HopCounts.{is_pass}
use Rattle.net_report.specs.SourceFrames.{source_frame}

-- The number `n` plus one, or `n` if it is the largest 64-bit number.
abbrev pub saturating_increment : ℕ → ℕ
saturating_increment n = if nat_lt n (2 ^ 64 - 1) then n + 1 else n

-- The counts `t` of a first-hop frame, with one added to the count of this fate.
abbrev pub add_fate : CopyCounts → CopyFate → CopyCounts
add_fate t fate.Delivered = record t { delivered = saturating_increment t.delivered }
add_fate t fate.Refused = record t { refused = saturating_increment t.refused }
add_fate t fate.Forwarded = record t { sent_on = saturating_increment t.sent_on }
add_fate t fate.Arrived = record t { taken = saturating_increment t.taken }

-- The list of counts with one more copy of fate `f` at index `k`. `Some t` are the counts at this index; for `None`, the list is unchanged.
abbrev pub set_counts_if_any : List CopyCounts → ℕ → CopyFate → Option CopyCounts → List CopyCounts
set_counts_if_any ts k f None = ts
set_counts_if_any ts k f (Some t) = slice_set ts k (add_fate t f)

-- The list of counts with one more of fate `f` at index `k`; unchanged if the list has no item at this index.
abbrev pub count_at_index : List CopyCounts → ℕ → CopyFate → List CopyCounts
count_at_index ts k f = set_counts_if_any ts k f (slice_get ts k)

-- The list of counts with one more of fate `f` for first-hop frame `r`; unchanged if the frame is unknown or has number 0.
abbrev pub count_frame : CopyFate → List CopyCounts → Option SourceFrame → List CopyCounts
count_frame f ts None = ts
count_frame f ts (Some r) = if nat_eq r.number 0 then ts else count_at_index ts (r.number - 1) f

-- The fate of a copy that left: forwarded if its port leads to a hop (`ways`), otherwise delivered.
abbrev pub departure_fate : List Bool → Departure → CopyFate
departure_fate ways d = if is_onward ways d.port then fate.Forwarded else fate.Delivered

-- The counts `ts` after a copy left: one more for its first-hop frame. `roots` has the source of each frame of the hop, `ways` whether each
-- port leads to a hop.
abbrev pub with_departure : List Bool → List (Option SourceFrame) → List CopyCounts → Departure → List CopyCounts
with_departure ways roots ts d = count_frame (departure_fate ways d) ts (source_frame roots d.own)

-- The counts with copies that left, one after another. `ways` has whether each port leads to a hop.
abbrev pub with_departures : List Bool → List (Option SourceFrame) → List CopyCounts → List Departure → List CopyCounts
with_departures ways roots ts ds = fold (with_departure ways roots) ts ds

-- The counts after a port dropped a copy: one more for its first-hop frame.
abbrev pub with_drop : List (Option SourceFrame) → List CopyCounts → Dropped → List CopyCounts
with_drop roots ts d = count_frame fate.Refused ts (source_frame roots d.own)

-- The counts after ports dropped these copies, one after another.
abbrev pub with_drops : List (Option SourceFrame) → List CopyCounts → List Dropped → List CopyCounts
with_drops roots ts ds = fold (with_drop roots) ts ds

-- The counts after a verdict: one more refused for the frame's source `root`, unless the frame passed.
abbrev pub with_verdict : List CopyCounts → Option SourceFrame → Verdict → List CopyCounts
with_verdict ts root v = if is_pass v then ts else count_frame fate.Refused ts root

-- The counts after these verdicts. The first verdict belongs to the hop's frame with number `n`, the next one to frame
-- `n + 1`.
abbrev pub with_verdicts : List (Option SourceFrame) → ℕ → List CopyCounts → List Verdict → List CopyCounts
with_verdicts roots n ts [] = ts
with_verdicts roots n ts (v ∷ vs) = with_verdicts roots (n + 1) (with_verdict ts (source_frame roots n) v) vs

-- The counts with frames that arrived at a later hop than the first.
abbrev pub with_arrivals : List CopyCounts → List (Option SourceFrame) → List CopyCounts
with_arrivals ts roots = fold (count_frame fate.Arrived) ts roots

-- The counts with everything that a hop's record reports: copies that left (by `ways`), dropped copies and refused frames.
abbrev pub with_view : {A : Type 0} → List Bool → List (Option SourceFrame) → List CopyCounts → View A → List CopyCounts
with_view ways roots ts v = with_verdicts roots 1 (with_drops roots (with_departures ways roots ts v.departures.items) v.drops.items) v.verdicts.items

-- The counts `ts` plus everything that record `v` of one hop reports, by `ways`. The flag is true for the first hop, whose arrivals don't
-- count, because no hop sent them.
abbrev pub with_hop : {A : Type 0} → Bool → List Bool → List (Option SourceFrame) → List CopyCounts → View A → List CopyCounts
with_hop true ways roots ts v = with_view ways roots ts v
with_hop false ways roots ts v = with_arrivals (with_view ways roots ts v) roots

-- Holds if `us` are the counts `ts` plus the counts of the hops in the last list. `first` is true if this list begins with the stream's
-- first hop.
abbrev pub AreCounted : {A : Type 0} → List Link → List (HopRun A) → Bool → List (HopRun A) → List (Vec (Option SourceFrame) A) → List CopyCounts → List CopyCounts → Type 0
AreCounted links hops first [] known ts us = us ≡ ts
AreCounted links hops first (h ∷ hs) [] ts us = us ≡ ts
AreCounted links hops first (h ∷ hs) (k ∷ ks) ts us =
    (ways : List Bool) × AreOnwardPorts links hops h.bridge ways × AreCounted links hops false hs ks (with_hop first ways k.items ts h.view.now) us

-- Number of frames that arrived at the first hop; 0 without hops.
abbrev pub frame_count : {A : Type 0} → List (HopRun A) → ℕ
frame_count [] = 0
frame_count (h ∷ hs) = length h.view.now.origins.items

-- Copy counts before the first copy is counted: all 0, one item for each of the `n` first-hop frames.
abbrev pub zero_counts : ℕ → List CopyCounts
zero_counts n = replicate n (record { delivered = 0; refused = 0; sent_on = 0; taken = 0 })

-- Holds if `tallies` has the counts of all first-hop frames. `all` has the source of each frame of each hop.
abbrev pub AreCopyCounts : {A : Type 0} → List Link → List (HopRun A) → List (Vec (Option SourceFrame) A) → List CopyCounts → Type 0
AreCopyCounts links hops all tallies = AreCounted links hops true hops all (zero_counts (frame_count hops)) tallies
