-- Filters of a group that share a queue, and the curves of their meters.
use Rattle.std.specs.Prelude.{◌≡◌, ℕ, Bool, ◌+◌, ◌*◌, ◌/◌, ◌&&◌, max, is_some, List, [], ◌∷◌, Option, Some, None, map, if◌then◌else◌}
use Rattle.std.specs.List.{list_all, list_any}
use Rattle.bridge_frame.specs.declared.Speed.{Speed}
use Rattle.bridge_meter.specs.Colours.{octet_units}
use Rattle.bridge_filter.specs.declared.FilterPlan.{FilterPlan}
use Rattle.bridge_config.specs.Model.{Plan}
use Rattle.bridge_check.specs.Faults.{is_in_group}
use Rattle.bridge_check.specs.Reach.{reaches_queue}
use Rattle.bridge_check.specs.ReachTables.{filter_reach}
use Rattle.bridge_check.specs.declared.reach.Reach.{Reach}
use Rattle.bridge_semantics.specs.Events.{plan_police}
use Rattle.bridge_groups.specs.LinearCurves.{IsCountCurve, IsLinearCurve, curve_at}
use Rattle.bridge_groups.specs.declared.linear_curve.LinearCurve.{LinearCurve}
use Rattle.bridge_groups.specs.Curves.{optional_burst, optional_rate, sharers_curve}

-- The reachable queues of each filter, in list order.
abbrev pub plan_reaches : {A : Type 0} → Plan A → List (ℕ × FilterPlan) → List Reach
plan_reaches p filters = map (λ f. filter_reach p f.1) filters

-- True if the filter is in the group and can reach the queue of class `c` at port `q`.
abbrev pub is_sharer : {A : Type 0} → Plan A → ℕ → ℕ → ℕ → FilterPlan → Bool
is_sharer p group q c f = is_in_group group f.group && reaches_queue p f q c

-- The filters in the list that are in the group and can reach the queue of class `c` at port `q`, in list order.
abbrev pub queue_sharers : {A : Type 0} → Plan A → ℕ → ℕ → ℕ → List (ℕ × FilterPlan) → List (ℕ × FilterPlan)
queue_sharers p group q c [] = []
queue_sharers p group q c (g ∷ gs) = if is_sharer p group q c g.1 then g ∷ queue_sharers p group q c gs else queue_sharers p group q c gs

-- True if some filter of the list is in the group and can reach the queue of class `c` at port `q`.
abbrev pub has_sharer : {A : Type 0} → Plan A → ℕ → ℕ → ℕ → List (ℕ × FilterPlan) → Bool
has_sharer p group q c fs = list_any (λ f. is_sharer p group q c f.1) fs

-- The optional limit of SDU octets; 0 without a limit.
abbrev pub sdu_or_zero : Option ℕ → ℕ
sdu_or_zero None = 0
sdu_or_zero (Some m) = m

-- The greatest limit of SDU octets among the filters; 0 for an empty list.
abbrev pub longest_sdu : List (ℕ × FilterPlan) → ℕ
longest_sdu [] = 0
longest_sdu (g ∷ gs) = max (sdu_or_zero g.1.max_sdu) (longest_sdu gs)

-- True if each filter that shares a queue has a flow meter: bounds by meters need them.
abbrev pub are_metered : List (ℕ × FilterPlan) → Bool
are_metered gs = list_all (λ g. is_some g.1.meter) gs

-- Holds if curve `c` is the arrival curve of the work that the meters of the filters let pass.
pub record IsSharersCurve {A : Type 0} (p : Plan A) (sharers : List (ℕ × FilterPlan)) (speed : Speed) (c : LinearCurve) : Type 0 where
  pub line : IsLinearCurve c
  pub value : (w : ℕ) → curve_at c w ≡ sharers_curve p sharers speed w

-- Holds if curve `c` counts the frames that an optional meter lets pass.
pub record IsFilterCountCurve {A : Type 0} (p : Plan A) (meter : Option ℕ) (c : LinearCurve) : Type 0 where
  pub line : IsCountCurve c
  pub value : (w : ℕ) → curve_at c w ≡ (optional_burst (plan_police p).meters meter * octet_units + optional_rate (plan_police p).meters meter * w) / (64 * octet_units)
