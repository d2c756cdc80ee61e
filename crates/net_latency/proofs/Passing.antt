-- Frames of a row that passes get the verdict `Pass` and are sent.
use Rattle.std.proofs.Common.{◌≡◌, ℕ, true, List, Option, Some, None, refl, subst}
use Rattle.std.specs.List.{list_all}
use Rattle.std.specs.Map.{lookup}
use Rattle.std.specs.Prelude.{nat_eq, is_some}
use Rattle.std.proofs.lemmas.Bool.{false≢true}
use Rattle.bridge_limits.specs.Members.{IsMember}
use Rattle.bridge_filter.specs.declared.FilterPlan.{FilterPlan}
use Rattle.bridge_filter.proofs.Members.{one_number}
use Rattle.bridge_port.specs.Schedule.{Copy}
use Rattle.bridge_config.specs.declared.ports.PortPlan.{PortPlan}
use Rattle.bridge_config.specs.Model.{Plan}
use Rattle.bridge_config.specs.Rules.{IsPlan, find_port}
use Rattle.bridge_check.specs.Acceptable.{IsAcceptable}
use Rattle.bridge_bounds.proofs.Reached.{found_in}
use Rattle.bridge_semantics.specs.Events.{Event, own_events}
use Rattle.bridge_semantics.specs.Offers.{CarriedFrame}
use Rattle.bridge_semantics.specs.Runs.{AreFinished, IsOutcome, IsRun}
use Rattle.bridge_semantics.specs.declared.outcome.Outcome.{Outcome}
use Rattle.bridge_semantics.specs.declared.outcome.View.{View}
use Rattle.bridge_bounds.specs.Passing.{Passes, passes}
use Rattle.bridge_bounds.specs.Timings.{IsDoneInPhases, IsTiming}
use Rattle.bridge_bounds.specs.Traffic.{IsTraffic, KeepsTraffic}
use Rattle.bridge_bounds.specs.declared.timing.Phases.{Phases}
use Rattle.bridge_bounds.specs.declared.timing.Timing.{Timing}
use Rattle.bridge_bounds.proofs.Kept as kept
use Rattle.bridge_bounds.proofs.Passed as passed
use Rattle.net_file.specs.declared.traffic_row.TrafficRow.{TrafficRow}
use Rattle.net_latency.specs.Traffic.{IsSentInTime, PassesAt, RowPasses}

-- The filter that passes each frame is the row's protected filter.
own_passes : {A : Type 0} (p : Plan A) (f : FilterPlan) (r : TrafficRow) → IsPlan p → IsMember (r.filter, f) p.filters → RowPasses p r → Passes p f r.traffic
own_passes p f r plan listed (g, found, each) =
    subst (λ (x : FilterPlan). Passes p x r.traffic) (one_number p.filters r.filter g f plan.filters.own (found_in p.filters r.filter g found) listed) each

pub each_passes : {A : Type 0} (p : Plan A) (f : FilterPlan) (es : List Event) (lists : ℕ → List (Copy CarriedFrame)) (o : Outcome A) (v : View A) (r : TrafficRow) (x : Timing)
    → IsPlan p → IsAcceptable p → IsMember (r.filter, f) p.filters → f.protected ≡ true → IsOutcome p es lists o → lookup (nat_eq r.filter) o.filters.items ≡ Some v
    → IsTraffic r.traffic → KeepsTraffic r.traffic (own_events p r.filter f es) → PassesAt p r x → list_all passes v.verdicts.items ≡ true
each_passes p f es lists o v r x plan good listed is outcome record_is traffic keeps (row, phases) =
    passed.each_passes p r.filter f es lists o v r.traffic plan good listed is outcome record_is traffic keeps (own_passes p f r plan listed row)

sent_by : {A : Type 0} (p : Plan A) (f : FilterPlan) (es : List Event) (moments : ℕ → ℕ) (lists : ℕ → List (Copy CarriedFrame)) (q : ℕ) (out : PortPlan A) (y : Copy CarriedFrame) (r : TrafficRow) (x : Timing) (o : Option Phases)
    → x.phases ≡ o → is_some o ≡ true
    → IsPlan p → IsAcceptable p → IsMember (r.filter, f) p.filters → f.protected ≡ true → IsRun p es moments lists → AreFinished lists → find_port p.ports q ≡ Some out
    → IsMember y (lists q) → y.item.flow ≡ Some r.filter → IsTraffic r.traffic → KeepsTraffic r.traffic (own_events p r.filter f es) → IsTiming p r.filter q y.class r.traffic x → IsSentInTime out r x y
sent_by p f es moments lists q out y r x None same some plan good listed is run whole at among flow traffic keeps timing = absurd (false≢true some)
sent_by p f es moments lists q out y r x (Some done) same some plan good listed is run whole at among flow traffic keeps timing =
    let b : IsDoneInPhases out r.traffic done y = kept.phases p r.filter f es moments lists q out y r.traffic x done plan good listed is run whole at among flow traffic keeps timing same in
    record {
      done = done;
      phases = same;
      start = b.start;
      started = b.started;
      between = b;
      times = kept.times p r.filter f es moments lists q b.start out y r.traffic x plan good listed is run whole at among flow b.started traffic keeps timing;
    }

pub each_sent : {A : Type 0} (p : Plan A) (f : FilterPlan) (es : List Event) (moments : ℕ → ℕ) (lists : ℕ → List (Copy CarriedFrame)) (q : ℕ) (out : PortPlan A) (y : Copy CarriedFrame) (r : TrafficRow) (x : Timing)
    → IsPlan p → IsAcceptable p → IsMember (r.filter, f) p.filters → f.protected ≡ true → IsRun p es moments lists → AreFinished lists → find_port p.ports q ≡ Some out
    → IsMember y (lists q) → y.item.flow ≡ Some r.filter → IsTraffic r.traffic → KeepsTraffic r.traffic (own_events p r.filter f es) → IsTiming p r.filter q y.class r.traffic x → PassesAt p r x → IsSentInTime out r x y
each_sent p f es moments lists q out y r x plan good listed is run whole at among flow traffic keeps timing (row, phases) =
    sent_by p f es moments lists q out y r x x.phases refl phases plan good listed is run whole at among flow traffic keeps timing
