-- State of a port, its answers and steps, and the schedules that it stands for.
use Rattle.std.specs.Prelude.{◌≡◌, ℕ, Bool, true, ◌<◌, ◌≤◌, ◌+◌, ◌*◌, ◌^◌, nat_le, not, Option, Some, None, List, [], ◌∷◌, ◌++◌, length, replicate, Result, Ok, Err, slice_index_or, slice_set, drop, sum_by, count_by, if◌then◌else◌}
use Rattle.bridge_limits.specs.declared.TheConstants.{END_OF_TIME, LONGEST_FRAME, MAX_ARRIVALS}
use Rattle.bridge_frame.specs.declared.Speed.{Speed}
use Rattle.bridge_frame.specs.Link.{transmission_time}
use Rattle.bridge_cycle.specs.Fits.{Fits}
use Rattle.bridge_port.specs.GateSchedule.{can_fit, GateSchedule, opens}
use Rattle.bridge_port.specs.declared.item.Item.{Item}
use Rattle.bridge_port.specs.declared.item.Refusal.{Refusal}
use Rattle.bridge_port.specs.declared.item.Refusal.TheVariants as refusal
use Rattle.bridge_port.specs.Rings.{ring_queues, ring_rooms}
use Rattle.circular_buffer.specs.Buffer.{Buffer}
use Rattle.bridge_port.specs.Schedule.{Fate, Never, Full, Queued, Copy, PortRules, IsLawful, count_started, is_link_free, earliest_offer, queued_items, StartsOldest}

-- State of a port: speed, gates, queue capacities, and queues by class (oldest item first). Also the time from which
-- the link is free, the earliest next offer, and counts.
pub record EgressState (T : Type 0) : Type 0 where
  pub speed : Speed
  pub list : GateSchedule
  pub rooms : List ℕ
  pub queues : List (List (Item T))
  pub free : ℕ
  pub earliest : ℕ
  pub offered : ℕ
  pub started : ℕ

-- State of a port as contracts see it, from the fields of `Port`.
abbrev pub egress_state : {T : Type 0} → Speed → GateSchedule → List (Buffer (Item T)) → ℕ → ℕ → ℕ → ℕ → EgressState T
egress_state speed list rings free earliest offered started = record { speed = speed; list = list; rooms = ring_rooms rings; queues = ring_queues rings; free = free; earliest = earliest; offered = offered; started = started }

-- State of a port before its first offer: empty queues and a free link.
abbrev pub idle_state : {T : Type 0} → Speed → GateSchedule → List ℕ → EgressState T
idle_state speed list rooms = record { speed = speed; list = list; rooms = rooms; queues = replicate 8 []; free = 0; earliest = 0; offered = 0; started = 0 }

-- Rules that the port's schedules follow: open times, capacities and transmission times.
abbrev pub state_rules : {T : Type 0} → EgressState T → PortRules (Item T)
state_rules p = record { opens = opens p.list; ever = can_fit p.list; room = λ c. slice_index_or p.rooms c 0; occ = λ x. transmission_time x.len p.speed }

-- Queued items of class `c`, the oldest first.
abbrev pub class_queue : {T : Type 0} → EgressState T → ℕ → List (Item T)
class_queue p c = slice_index_or p.queues c []

-- Holds if the port was offered these copies, newest first. Their schedule is lawful, and the port's queues, link and
-- counts follow from it.
pub record StandsFor {T : Type 0} (p : EgressState T) (xs : List (Copy (Item T))) : Type 0 where
  pub lawful : IsLawful (state_rules p) p.earliest xs
  pub queues : (c : ℕ) → queued_items c xs ≡ class_queue p c
  pub link : (u : ℕ) → p.earliest ≤ u → is_link_free (state_rules p) u xs ≡ nat_le p.free u
  pub offered : p.offered ≡ length xs
  pub started : p.started ≡ count_started xs
  pub earliest : p.earliest ≡ earliest_offer xs

-- Holds if no queued frame of the port can start before time `t` (ns).
abbrev pub HasNoStartEarlier : {T : Type 0} → EgressState T → ℕ → Type 0
HasNoStartEarlier {T} p t = (c : ℕ) (x : Item T) (rest : List (Item T)) → class_queue p c ≡ x ∷ rest → (u : ℕ) → p.earliest ≤ u → p.free ≤ u → u < t → ¬ Fits (opens p.list c) (transmission_time x.len p.speed) u

-- Holds if the next start is at time `k`: the head `x` of class `c`. No head can start earlier, and no head of a higher class fits at `k`.
pub record IsNextStart {T : Type 0} (p : EgressState T) (k c : ℕ) (x : Item T) : Type 0 where
  pub rest : List (Item T)
  pub is_head : class_queue p c ≡ x ∷ rest
  pub after : p.earliest ≤ k
  pub free : p.free ≤ k
  pub fits : Fits (opens p.list c) (transmission_time x.len p.speed) k
  pub least : HasNoStartEarlier p k
  pub highest : (d : ℕ) (y : Item T) (others : List (Item T)) → class_queue p d ≡ y ∷ others → Fits (opens p.list d) (transmission_time y.len p.speed) k → d ≤ c

-- Holds if all queues of the port are empty.
abbrev pub IsIdle : {T : Type 0} → EgressState T → Type 0
IsIdle p = (c : ℕ) → class_queue p c ≡ []

-- Holds if without further offers, the next start is at time `k`. `None` if all queues are empty.
abbrev pub IsNextStartTime : {T : Type 0} → EgressState T → Option ℕ → Type 0
IsNextStartTime p None = IsIdle p
IsNextStartTime {T} p (Some k) = (c : ℕ) × (x : Item T) × IsNextStart p k c x

-- Reason why an item is dropped: it never fits under a list of the port, or its queue is full. `None` if it is queued.
abbrev pub offer_refusal : {T : Type 0} → EgressState T → ℕ → Item T → Option Refusal
offer_refusal p c x =
    if not (can_fit p.list c (transmission_time x.len p.speed)) then Some refusal.NeverFits
    else if nat_le (slice_index_or p.rooms c 0) (length (class_queue p c)) then Some refusal.Full
    else None

-- Numbers of the reasons why a port drops a copy, in the order of the tests.
abbrev pub refusal_code : Refusal → ℕ
refusal_code refusal.NeverFits = 1
refusal_code refusal.Full = 2

-- Answer to an offer: Ok if the item is queued, otherwise the dropped item and the reason.
abbrev pub offer_answer : {X : Type 0} → Option Refusal → X → Result (Unit {0}) (X × Refusal)
offer_answer None x = Ok tt
offer_answer (Some r) x = Err (x, r)

-- Fate of a copy after its offer: queued, or dropped for this reason.
abbrev pub refusal_fate : Option Refusal → Fate
refusal_fate None = Queued
refusal_fate (Some refusal.NeverFits) = Never
refusal_fate (Some refusal.Full) = Full

-- Queues after an offer: a queued item is the last of its queue, and a dropped item changes no queue.
abbrev pub queues_after_offer : {X : Type 0} → Option Refusal → List (List X) → ℕ → X → List (List X)
queues_after_offer None qs c x = slice_set qs c (slice_index_or qs c [] ++ x ∷ [])
queues_after_offer (Some r) qs c x = qs

-- Port after an offer at time `t`: a queued item is the last of its queue, and a dropped item changes no queue.
abbrev pub offered_state : {T : Type 0} → EgressState T → ℕ → ℕ → Item T → EgressState T
offered_state p t c x = record p { queues = queues_after_offer (offer_refusal p c x) p.queues c x; earliest = t; offered = p.offered + 1 }

-- Copy that an offer at time `t` adds to the schedule, with its fate.
abbrev pub offered_copy : {T : Type 0} → EgressState T → ℕ → ℕ → Item T → Copy (Item T)
offered_copy p t c x = record { at = t; class = c; item = x; fate = refusal_fate (offer_refusal p c x) }

-- Port after the head `x` of class `c` starts at time `k`.
abbrev pub started_state : {T : Type 0} → EgressState T → ℕ → ℕ → Item T → EgressState T
started_state p k c x = record p { queues = slice_set p.queues c (drop 1 (class_queue p c)); free = k + transmission_time x.len p.speed; earliest = k + 1; started = p.started + 1 }

-- Holds if the oldest queued copy of class `c` started at time `k`, and the port stands for the list with this start.
pub record HasStartedOldest {T : Type 0} (p : EgressState T) (c k : ℕ) (x : Item T) (xs : List (Copy (Item T))) : Type 0 where
  pub place : ℕ
  pub after : List (Copy (Item T))
  pub begun : StartsOldest c k place x xs after
  pub stands : StandsFor p after

-- Number of queued items of all classes for which `f` is true.
abbrev pub count_queued : {T : Type 0} → (Item T → Bool) → EgressState T → ℕ
count_queued f p = sum_by (count_by f) p.queues

-- Upper bound, in ns, of a port's times after `started` starts.
abbrev pub time_limit : ℕ → ℕ
time_limit started = END_OF_TIME + 3 * 10 ^ 9 * started

-- Holds if each of these items can fit under each list, and is at most as long as the longest frame.
abbrev pub AreStartable : {T : Type 0} → GateSchedule → Speed → ℕ → List (Item T) → Type 0
AreStartable list speed c [] = Unit {0}
AreStartable list speed c (x ∷ xs) = ((can_fit list c (transmission_time x.len speed) ≡ true) × (x.len ≤ LONGEST_FRAME)) × AreStartable list speed c xs

-- Holds if a port's state is consistent: it has eight queues, and each queued item can start under each list.
pub record IsStateSound {T : Type 0} (p : EgressState T) : Type 0 where
  pub queues : length p.queues ≡ 8
  pub rooms : length p.rooms ≡ 8
  pub startable : (c : ℕ) → AreStartable p.list p.speed c (class_queue p c)
  pub free : p.free ≤ time_limit p.started
  pub earliest : p.earliest ≤ time_limit p.started
  pub counted : p.started + count_queued (λ x. true) p ≤ p.offered
  pub few : p.offered ≤ MAX_ARRIVALS
