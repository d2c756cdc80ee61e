-- Traffic rows of both kinds, with a period or with a frame limit: their faults compared with the plan, and their
-- delays in each queue.
use Rattle.std.specs.Prelude.{◌≡◌, ℕ, ◌+◌, ◌++◌, List, [], ◌∷◌, Option, None, Some, nat_eq, if◌then◌else◌}
use Rattle.std.specs.Map.{lookup}
use Rattle.std.specs.Option.{is_some}
use Rattle.bridge_filter.specs.declared.FilterPlan.{FilterPlan}
use Rattle.bridge_config.specs.Model.{Plan}
use Rattle.bridge_check.specs.Faults.{first_option}
use Rattle.bridge_groups.specs.GroupRows.{AreSharedQueues}
use Rattle.bridge_groups.specs.declared.shared_queues.SharedQueue.{SharedQueue}
use Rattle.net_file.specs.declared.fault.NetField.TheVariants as field
use Rattle.net_file.specs.declared.fault.NetFault.TheVariants as net
use Rattle.net_file.specs.declared.traffic_fault.TrafficFault.{TrafficFault}
use Rattle.net_file.specs.declared.traffic_fault.TrafficFault.TheVariants as fault
use Rattle.net_file.specs.declared.traffic_row.TalkerRow.{TalkerRow}
use Rattle.net_file.specs.declared.traffic_row.TalkerRow.TheVariants as row
use Rattle.net_file.specs.TrafficRows.{row_filter}
use Rattle.net_latency.specs.declared.bounds.QueueBound.{QueueBound}
use Rattle.net_latency.specs.declared.timings.QueueTiming.{QueueTiming}
use Rattle.net_latency.specs.declared.timings.TrafficFigures.{TrafficFigures}
use Rattle.net_latency.specs.Bounds.{AreBounds}
use Rattle.net_latency.specs.LimitedTraffic.{AreLimitedTimings}
use Rattle.net_latency.specs.Traffic.{AreRowTimings, row_fault, row_figures, row_key}

-- FAULTS

-- The fault of limited row `index` compared with the plan: its filter, optional here, is missing or belongs to no
-- group. `None` if the filter belongs to a group.
abbrev pub group_fault : ℕ → Option FilterPlan → Option TrafficFault
group_fault index None = Some (fault.Text (net.Unresolved (row_key index field.Filter)))
group_fault index (Some f) = if is_some f.group then None else Some (fault.NotGrouped index)

-- The fault of row `index` compared with the plan: of a periodic row by `row_fault`, of a limited row by `group_fault`.
-- `None` if the row has no fault.
abbrev pub talker_row_fault : {A : Type 0} → Plan A → ℕ → TalkerRow → Option TrafficFault
talker_row_fault p index (row.Periodic r) = row_fault p index r
talker_row_fault p index (row.Limited r) = group_fault index (lookup (nat_eq r.filter) p.filters)

-- The first fault of these rows compared with the plan. `None` if no row has a fault. The first row has number `index`.
abbrev pub first_row_fault : {A : Type 0} → Plan A → ℕ → List TalkerRow → Option TrafficFault
first_row_fault p index [] = None
first_row_fault p index (r ∷ rs) = first_option (talker_row_fault p index r) (first_row_fault p (index + 1) rs)

-- DELAYS

-- Holds if `xs` has the delays of row `index`: in the queues of the row's protected filter, or in the shared queues of
-- the group.
abbrev pub AreTimingsOfRow : {A : Type 0} → Plan A → List QueueBound → List SharedQueue → ℕ → TalkerRow → List QueueTiming → Type 0
AreTimingsOfRow p bounds shared index (row.Periodic r) xs = AreRowTimings p index r bounds xs
AreTimingsOfRow p bounds shared index (row.Limited r) xs = AreLimitedTimings p index r shared xs

-- Holds if `xs` has the results of these rows, row by row. The first row has number `index`.
abbrev pub AreTimingsOfRows : {A : Type 0} → Plan A → List QueueBound → List SharedQueue → ℕ → List TalkerRow → List TrafficFigures → Type 0
AreTimingsOfRows p bounds shared index [] xs = xs ≡ []
AreTimingsOfRows p bounds shared index (r ∷ rs) xs =
    (ys : List QueueTiming) × (zs : List TrafficFigures) × (xs ≡ row_figures index (row_filter r) ys ++ zs) × AreTimingsOfRow p bounds shared index r ys × AreTimingsOfRows p bounds shared (index + 1) rs zs

-- Holds if `xs` has the delays of all rows in all queues of their filters.
abbrev pub AreTimings : {A : Type 0} → Plan A → List TalkerRow → List TrafficFigures → Type 0
AreTimings p rows xs = (bounds : List QueueBound) × (shared : List SharedQueue) × AreBounds p bounds × AreSharedQueues p shared × AreTimingsOfRows p bounds shared 1 rows xs
