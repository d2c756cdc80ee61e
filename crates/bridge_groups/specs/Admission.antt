-- The settings of a stream filter that admit a conforming talker, and shared queues that drop no frame as full.
use Rattle.std.specs.Prelude.{◌≡◌, ℕ, Bool, false, ◌&&◌, ◌≤◌, not, nat_eq, nat_le, List, Option, Some, None}
use Rattle.std.specs.List.{list_all}
use Rattle.std.specs.Map.{lookup}
use Rattle.std.specs.Option.{is_some}
use Rattle.bridge_gate.specs.declared.schedule.GateEntry.{GateEntry}
use Rattle.bridge_gate.specs.declared.schedule.GatePlan.{GatePlan}
use Rattle.bridge_gate.specs.declared.schedule.Schedule.{Schedule}
use Rattle.bridge_gate.specs.declared.schedule.Schedule.TheVariants as schedule
use Rattle.bridge_meter.specs.declared.MeterPlan.{MeterPlan}
use Rattle.bridge_filter.specs.declared.FilterPlan.{FilterPlan}
use Rattle.bridge_config.specs.Model.{Plan}
use Rattle.bridge_semantics.specs.Events.{plan_police}
use Rattle.bridge_groups.specs.SharedQueues.{IsRowOf}
use Rattle.bridge_groups.specs.declared.shared_queues.SharedQueue.{SharedQueue}

-- True if a stream gate's entry is open and has no octet limit.
abbrev pub is_open_entry : GateEntry → Bool
is_open_entry e = e.lets && not (is_some e.octets)

-- True if each entry of a stream gate's list is open and has no octet limit.
abbrev pub are_open_entries : List (GateEntry × ℕ) → Bool
are_open_entries entries = list_all (λ e. is_open_entry e.0) entries

-- True if a stream gate's schedule has only open entries without octet limits, in each of its lists.
abbrev pub is_open_schedule : {A : Type 0} → Schedule A → Bool
is_open_schedule (schedule.Fixed lets ipv) = lets
is_open_schedule (schedule.Cyclic l) = are_open_entries l.entries
is_open_schedule (schedule.Joined j) = are_open_entries j.old.entries && are_open_entries j.new.entries

-- True if an optional stream gate is present and has an open schedule.
abbrev pub is_open_gate : {A : Type 0} → Option (GatePlan A) → Bool
is_open_gate None = false
is_open_gate (Some g) = is_open_schedule g.schedule

-- True if an optional limit of SDU octets is present and at least `most`.
abbrev pub allows_sdu : Option ℕ → ℕ → Bool
allows_sdu None most = false
allows_sdu (Some limit) most = nat_le most limit

-- The committed burst size in octets and the committed information rate in bit/s of an optional flow meter; `None` without a meter.
abbrev pub committed_tokens : (ℕ → MeterPlan) → Option ℕ → Option (ℕ × ℕ)
committed_tokens meters None = None
committed_tokens meters (Some m) = Some ((meters m).cbs, (meters m).cir)

-- True if a meter's committed burst size and rate are present, and at least `burst` octets and `rate` bit/s.
abbrev pub has_tokens : Option (ℕ × ℕ) → ℕ → ℕ → Bool
has_tokens None burst rate = false
has_tokens (Some tokens) burst rate = nat_le burst tokens.0 && nat_le rate tokens.1

-- True if filter `f` admits each talker with SDUs of at most `most` octets, a burst of `burst` octets and a rate of `rate` bit/s. Its
-- stream gate must always be open.
abbrev pub admits_talker : {A : Type 0} → Plan A → FilterPlan → ℕ → ℕ → ℕ → Bool
admits_talker p f most burst rate =
    is_open_gate (lookup (nat_eq f.gate) p.gates)
    && (allows_sdu f.max_sdu most && has_tokens (committed_tokens (plan_police p).meters f.meter) burst rate)

-- Holds if group `group` shares the queue of class `c` at port `q`, and the queue's capacity is known to suffice. So it drops no copy as
-- full.
pub record HasSufficientQueue {A : Type 0} (p : Plan A) (group q c : ℕ) : Type 0 where
  pub row : SharedQueue
  pub is_row : IsRowOf p group q c row
  pub room : ℕ
  pub known : row.room ≡ Some room
  pub enough : room ≤ row.capacity
