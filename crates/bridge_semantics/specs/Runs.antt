-- Runs, with the record of each filter and the counts of each port.
use Rattle.std.specs.Prelude.{◌≡◌, ℕ, Bool, true, false, not, ◌+◌, ◌<◌, ◌≤◌, ◌&&◌, nat_eq, Option, Some, None, is_none, List, [], count_by, ◌⊎◌, ◌↔◌}
use Rattle.std.specs.Map.{lookup}
use Rattle.bridge_frame.specs.Link.{transmission_time}
use Rattle.bridge_limits.specs.Members.{IsMember, IsOrdered}
use Rattle.bridge_filter.specs.declared.FilterPlan.{FilterPlan}
use Rattle.bridge_filter.specs.Counts.{filter_verdicts, verdict_counters, filter_flags, filter_buckets}
use Rattle.bridge_port.specs.declared.item.Refusal.{Refusal}
use Rattle.bridge_port.specs.declared.item.Refusal.TheVariants as refusal
use Rattle.bridge_port.specs.Schedule.{Fate, Never, Full, Copy, Started, IsLawful, is_accepted}
use Rattle.bridge_port.specs.Solo.{IsFinished, IsSolo}
use Rattle.bridge_config.specs.declared.ports.PortPlan.{PortPlan}
use Rattle.bridge_config.specs.Model.{Plan}
use Rattle.bridge_config.specs.Rules.{find_port}
use Rattle.bridge_semantics.specs.declared.destination.Destination.{Destination}
use Rattle.bridge_semantics.specs.declared.destination.Destination.TheVariants as way
use Rattle.bridge_semantics.specs.declared.outcome.Departure.{Departure}
use Rattle.bridge_semantics.specs.declared.outcome.Dropped.{Dropped}
use Rattle.bridge_semantics.specs.declared.outcome.PortCount.{PortCount}
use Rattle.bridge_semantics.specs.declared.outcome.View.{View}
use Rattle.bridge_semantics.specs.declared.outcome.Outcome.{Outcome}
use Rattle.bridge_semantics.specs.Events.{Arrival, Event, arrivals, frame_destination, arrival_filter, filter_origins, own_events, plan_police, police_steps}
use Rattle.bridge_semantics.specs.Offers.{CarriedFrame, egress_rules, port_offers, copy_offers, class_offers}

-- Holds if a record lists departure `a` before `b`: `a` starts earlier, or at the same time at a lower port number.
abbrev pub DepartsEarlier : Departure → Departure → Type 0
DepartsEarlier a b = (a.start < b.start) ⊎ ((a.start ≡ b.start) × (a.port < b.port))

-- Holds if a record lists drop `a` before `b`: `a` has a lower frame number, or the same frame number and a lower port
-- number.
abbrev pub DropsEarlier : Dropped → Dropped → Type 0
DropsEarlier a b = (a.own < b.own) ⊎ ((a.own ≡ b.own) × (a.port < b.port))

-- COPIES AT PORTS (`Lies q x` states that `x` is a copy at port `q`)

-- Holds if `d` describes one started copy of filter `s`: its frame number, its port, and its start and end (with gap)
-- in ns.
pub record IsFilterDeparture {A : Type 0} (p : Plan A) (s : ℕ) (Lies : ℕ → Copy CarriedFrame → Type 0) (d : Departure) : Type 0 where
  pub out : PortPlan A
  pub copy : Copy CarriedFrame
  pub at : find_port p.ports d.port ≡ Some out
  pub lies : Lies d.port copy
  pub flow : copy.item.flow ≡ Some s
  pub own : copy.item.own ≡ d.own
  pub started : copy.fate ≡ Started d.start
  pub done : d.done ≡ d.start + transmission_time copy.item.len out.speed

-- The fate of a copy that a port drops for this reason: `Never` if it fits no window, `Full` if its queue was full.
abbrev pub drop_fate : Refusal → Fate
drop_fate refusal.NeverFits = Never
drop_fate refusal.Full = Full

-- Holds if `d` describes one dropped copy of filter `s`: its frame number, its port and the reason of the drop.
pub record IsFilterDrop {A : Type 0} (p : Plan A) (s : ℕ) (Lies : ℕ → Copy CarriedFrame → Type 0) (d : Dropped) : Type 0 where
  pub copy : Copy CarriedFrame
  pub lies : Lies d.port copy
  pub flow : copy.item.flow ≡ Some s
  pub own : copy.item.own ≡ d.own
  pub refused : copy.fate ≡ drop_fate d.refusal

-- Holds if some copy of filter `s` ends its transmission, gap included, exactly `n` ns after the copy's arrival.
pub record IsFilterDelay {A : Type 0} (p : Plan A) (s : ℕ) (Lies : ℕ → Copy CarriedFrame → Type 0) (n : ℕ) : Type 0 where
  pub port : ℕ
  pub out : PortPlan A
  pub copy : Copy CarriedFrame
  pub start : ℕ
  pub at : find_port p.ports port ≡ Some out
  pub lies : Lies port copy
  pub flow : copy.item.flow ≡ Some s
  pub started : copy.fate ≡ Started start
  pub delay : n + copy.at ≡ start + transmission_time copy.item.len out.speed

-- Holds if the optional number is the greatest one with property `P`; `None` means that the property never holds.
abbrev pub IsGreatestNumber : (ℕ → Type 0) → Option ℕ → Type 0
IsGreatestNumber P None = (n : ℕ) → P n → ⊥
IsGreatestNumber P (Some m) = P m × ((n : ℕ) → P n → n ≤ m)

-- Holds if the lists contain exactly the departures and drops of filter `s`, both in order, and `delay` is its longest
-- delay in ns. Without departures, `delay` is `None`.
pub record HasCopyRecord {A : Type 0} (p : Plan A) (s : ℕ) (Lies : ℕ → Copy CarriedFrame → Type 0) (departures : List Departure) (drops : List Dropped) (delay : Option ℕ) : Type 0 where
  pub departures_rise : IsOrdered DepartsEarlier departures
  pub departures_are : (d : Departure) → IsMember d departures ↔ IsFilterDeparture p s Lies d
  pub drops_rise : IsOrdered DropsEarlier drops
  pub drops_are : (d : Dropped) → IsMember d drops ↔ IsFilterDrop p s Lies d
  pub longest : IsGreatestNumber (IsFilterDelay p s Lies) delay

-- Holds if `v` is the exact record of filter `s` for the events `es` and the copies at the ports. `Lies q x` states
-- that `x` is a copy at port `q`.
pub record IsFilterView {A : Type 0} (p : Plan A) (s : ℕ) (f : FilterPlan) (es : List Event) (Lies : ℕ → Copy CarriedFrame → Type 0) (v : View A) : Type 0 where
  pub protected : v.protected ≡ f.protected
  pub verdicts : v.verdicts.items ≡ filter_verdicts s (police_steps p es)
  pub origins : v.origins.items ≡ filter_origins p s es
  pub counters : v.counters ≡ verdict_counters (filter_verdicts s (police_steps p es))
  pub flags : v.flags ≡ filter_flags (plan_police p) s f (police_steps p es)
  pub buckets : v.buckets ≡ filter_buckets (plan_police p) f.meter (police_steps p es)
  pub told : HasCopyRecord p s Lies v.departures.items v.drops.items v.delay

-- Holds if copy `x` is in `lists q`, the list of the copies of port `q`.
abbrev pub IsPortCopy : (ℕ → List (Copy CarriedFrame)) → ℕ → Copy CarriedFrame → Type 0
IsPortCopy lists q x = IsMember x (lists q)

-- Holds if the copies `lists q` of each port `q` are exactly the port's offers, and obey its rules up to time `moments
-- q` in ns. A missing port has no copies.
pub record IsRun {A : Type 0} (p : Plan A) (es : List Event) (moments : ℕ → ℕ) (lists : ℕ → List (Copy CarriedFrame)) : Type 0 where
  pub offers : (q : ℕ) (out : PortPlan A) → find_port p.ports q ≡ Some out → copy_offers (lists q) ≡ port_offers p out es
  pub lawful : (q : ℕ) (out : PortPlan A) → find_port p.ports q ≡ Some out → IsLawful (egress_rules out) (moments q) (lists q)
  pub others : (q : ℕ) → find_port p.ports q ≡ None → lists q ≡ []

-- Holds if copy `x` occupies the port's link at time `u`: it has started, and its end of transmission is later than `u`.
pub record IsOnLink {A : Type 0} (out : PortPlan A) (x : Copy CarriedFrame) (u : ℕ) : Type 0 where
  pub start : ℕ
  pub started : x.fate ≡ Started start
  pub begun : start ≤ u
  pub going_on : u < start + transmission_time x.item.len out.speed

-- Holds if each copy at each port has started or was dropped, so that every queue is empty.
abbrev pub AreFinished : (ℕ → List (Copy CarriedFrame)) → Type 0
AreFinished lists = (q : ℕ) → IsFinished (lists q)

-- True if the forwarding result is `Malformed`: the bridge can't read the frame's header and discards the frame.
abbrev pub is_malformed : Destination → Bool
is_malformed way.Malformed = true
is_malformed w = false

-- True if the forwarding result is `Nowhere`: the frame's set of egress ports is empty, or its ingress port is missing.
abbrev pub is_nowhere : Destination → Bool
is_nowhere way.Nowhere = true
is_nowhere w = false

-- True if the filtering database gives the frame at least one egress port; its stream filter may still refuse the
-- frame.
abbrev pub is_relayed : Destination → Bool
is_relayed (way.Forwarded set c) = true
is_relayed w = false

-- True if frame `a` has an egress port and matches no stream filter.
abbrev pub is_unfiltered : {A : Type 0} → Plan A → Arrival → Bool
is_unfiltered p a = is_relayed (frame_destination p a) && is_none (arrival_filter p a)

-- The number of frames among the events `es`, received on port `q`, for which the function `test` is true.
abbrev pub count_frames : ℕ → (Arrival → Bool) → List Event → ℕ
count_frames q test es = count_by (λ a. nat_eq a.port q && test a) (arrivals es)

-- Holds if `c` has the exact counts of port `q`: frames received, malformed, not forwarded and unfiltered, and copies
-- accepted (`sent`) and dropped.
pub record IsPortCount {A : Type 0} (p : Plan A) (es : List Event) (q : ℕ) (xs : List (Copy CarriedFrame)) (c : PortCount) : Type 0 where
  pub frames : c.frames ≡ count_frames q (λ a. true) es
  pub malformed : c.malformed ≡ count_frames q (λ a. is_malformed (frame_destination p a)) es
  pub nowhere : c.nowhere ≡ count_frames q (λ a. is_nowhere (frame_destination p a)) es
  pub unfiltered : c.unfiltered ≡ count_frames q (is_unfiltered p) es
  pub sent : c.sent ≡ count_by (λ x. is_accepted x.fate) xs
  pub dropped : c.dropped ≡ count_by (λ x. not (is_accepted x.fate)) xs

-- Holds if the copies in `lists` are a complete run of the events `es`, and result `o` has exactly its filter records and port counts.
-- Records rise by filter number, counts by port number.
pub record IsOutcome {A : Type 0} (p : Plan A) (es : List Event) (lists : ℕ → List (Copy CarriedFrame)) (o : Outcome A) : Type 0 where
  pub moments : ℕ → ℕ
  pub run : IsRun p es moments lists
  pub whole : AreFinished lists
  pub filters_rise : IsOrdered (λ x y. x.0 < y.0) o.filters.items
  pub filters_are : (n : ℕ) → ((f : FilterPlan) × (lookup (nat_eq n) p.filters ≡ Some f)) ↔ ((v : View A) × (lookup (nat_eq n) o.filters.items ≡ Some v))
  pub views : (n : ℕ) (f : FilterPlan) (v : View A) → lookup (nat_eq n) p.filters ≡ Some f → lookup (nat_eq n) o.filters.items ≡ Some v → IsFilterView p n f es (IsPortCopy lists) v
  pub ports_rise : IsOrdered (λ x y. x.0 < y.0) o.ports.items
  pub ports_are : (q : ℕ) → ((out : PortPlan A) × (find_port p.ports q ≡ Some out)) ↔ ((c : PortCount) × (lookup (nat_eq q) o.ports.items ≡ Some c))
  pub counts : (q : ℕ) (c : PortCount) → lookup (nat_eq q) o.ports.items ≡ Some c → IsPortCount p es q (lists q) c

-- Holds if the copies `lists q c` are the offers to class `c` at port `q`, as if the queue had its port to itself. A missing port has none.
pub record AreSolo {A : Type 0} (p : Plan A) (es : List Event) (lists : ℕ → ℕ → List (Copy CarriedFrame)) : Type 0 where
  pub offers : (q c : ℕ) (out : PortPlan A) → find_port p.ports q ≡ Some out → copy_offers (lists q c) ≡ class_offers c (port_offers p out es)
  pub solo : (q c : ℕ) (out : PortPlan A) → find_port p.ports q ≡ Some out → IsSolo (egress_rules out) (lists q c)
  pub others : (q c : ℕ) → find_port p.ports q ≡ None → lists q c ≡ []

-- Holds if the copies of filter `n` in `lists` are exactly those that the filter's own events give, each queue with a
-- port to itself.
pub record AreOwnQueues {A : Type 0} (p : Plan A) (n : ℕ) (f : FilterPlan) (es : List Event) (lists : ℕ → List (Copy CarriedFrame)) : Type 0 where
  pub own : ℕ → ℕ → List (Copy CarriedFrame)
  pub solo : AreSolo p (own_events p n f es) own
  pub same : (q : ℕ) (x : Copy CarriedFrame) → (IsMember x (lists q) × (x.item.flow ≡ Some n)) ↔ ((c : ℕ) × IsMember x (own q c))

-- Holds if `v` is the record of filter `s` when the bridge receives only the events `es`, and each queue has its port
-- to itself.
pub record IsSoloView {A : Type 0} (p : Plan A) (s : ℕ) (f : FilterPlan) (es : List Event) (v : View A) : Type 0 where
  pub lists : ℕ → ℕ → List (Copy CarriedFrame)
  pub solo : AreSolo p es lists
  pub view : IsFilterView p s f es (λ q x. (c : ℕ) × IsMember x (lists q c)) v

-- Holds if the records `u` and `v` are equal in every field, from the verdicts to the longest delay.
pub record AreSameViews {A : Type 0} (u v : View A) : Type 0 where
  pub protected : u.protected ≡ v.protected
  pub verdicts : u.verdicts.items ≡ v.verdicts.items
  pub origins : u.origins.items ≡ v.origins.items
  pub counters : u.counters ≡ v.counters
  pub flags : u.flags ≡ v.flags
  pub buckets : u.buckets ≡ v.buckets
  pub departures : u.departures.items ≡ v.departures.items
  pub drops : u.drops.items ≡ v.drops.items
  pub delay : u.delay ≡ v.delay
