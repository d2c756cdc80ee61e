-- The state of a relay, and the events that it stands for.
use Rattle.std.specs.Prelude.{◌≡◌, ℕ, Bool, true, false, ◌+◌, ◌*◌, ◌<◌, ◌≤◌, not, nat_eq, nat_lt, max, Option, Some, None, List, [], ◌∷◌, ◌++◌, length, sum_by, IsTrue, if◌then◌else◌, ◌⊎◌}
use Rattle.std.specs.Map.{lookup}
use Rattle.bridge_frame.specs.Link.{transmission_time}
use Rattle.bridge_capture.specs.Grammar.{CapturedFrame}
use Rattle.bridge_limits.specs.Members.{IsMember}
use Rattle.bridge_limits.specs.declared.TheConstants.{MAX_ARRIVALS}
use Rattle.bridge_ident.specs.declared.StreamEntry.{StreamEntry}
use Rattle.bridge_filter.specs.declared.FilterPlan.{FilterPlan}
use Rattle.bridge_filter.specs.declared.Verdict.{Verdict}
use Rattle.bridge_filter.specs.Plans.{is_listed, KeepsNumbers}
use Rattle.bridge_filter.specs.Counts.{filter_verdicts}
use Rattle.bridge_filter.specs.StandsFor as filter
use Rattle.bridge_port.specs.declared.item.Item.{Item}
use Rattle.bridge_port.specs.Schedule.{Copy}
use Rattle.bridge_port.specs.MappedCopies.{map_copies}
use Rattle.bridge_port.specs.StandsFor.{StandsFor, count_queued, time_limit, IsNextStart}
use Rattle.bridge_config.specs.declared.ports.PortPlan.{PortPlan}
use Rattle.bridge_config.specs.Model.{Plan}
use Rattle.bridge_config.specs.Rules.{IsPlan, find_port}
use Rattle.bridge_check.specs.Acceptable.{IsAcceptable}
use Rattle.bridge_semantics.specs.declared.queued_frame.QueuedFrame.{QueuedFrame}
use Rattle.bridge_semantics.specs.declared.outcome.Departure.{Departure}
use Rattle.bridge_semantics.specs.declared.outcome.Dropped.{Dropped}
use Rattle.bridge_semantics.specs.declared.outcome.Origin.{Origin}
use Rattle.bridge_semantics.specs.Events.{Event, arrivals, filter_inputs, filter_origins, plan_police, police_steps}
use Rattle.bridge_semantics.specs.Offers.{CarriedFrame, carried_frame, port_offers, copy_offers}
use Rattle.bridge_semantics.specs.Outputs.{IsOutput}
use Rattle.bridge_limits.specs.Members.{IsOrdered}
use Rattle.bridge_semantics.specs.Runs.{DepartsEarlier, DropsEarlier, HasCopyRecord, IsPortCopy, IsPortCount}
use Rattle.bridge_relay.specs.declared.port_state.PortState.{PortState}
use Rattle.bridge_relay.specs.declared.relay.Sent.{Sent}
use Rattle.bridge_relay.specs.Recorders.{RecorderState}
use Rattle.bridge_relay.specs.Ports.{PortsState, MatchesPlan, port_state}

-- The state of a relay: plan, stream entries, filters, ports and recorders. It also has the number of arrived frames, and the earliest time in ns of the next
-- event.
pub record RelayState (G A : Type 0) : Type 0 where
  pub plan : Plan A
  pub streams : List StreamEntry
  pub police : filter.PoliceState A
  pub ports : PortsState G A
  pub tables : List (ℕ × RecorderState)
  pub arrived : ℕ
  pub earliest : ℕ

-- The number of queued items of a port for which `f` is true; 0 if the port is missing (`None`).
abbrev pub count_port_items : {A : Type 0} → (Item (QueuedFrame A) → Bool) → Option (PortState A) → ℕ
count_port_items f None = 0
count_port_items f (Some s) = count_queued f s.port

-- The number of queued items of all ports for which `f` is true.
abbrev pub count_all_items : {G A : Type 0} → (Item (QueuedFrame A) → Bool) → PortsState G A → ℕ
count_all_items f p = sum_by (count_port_items f) p.slots

-- The number of copies that wait in the queues of all ports.
abbrev pub count_waiting_copies : {G A : Type 0} → RelayState G A → ℕ
count_waiting_copies b = count_all_items (λ x. true) b.ports

-- True if the optional filter number of a queued frame is `n`.
abbrev pub is_filter_number : Option ℕ → ℕ → Bool
is_filter_number None n = false
is_filter_number (Some m) n = nat_eq m n

-- True if an item is a copy of a frame of filter `n`.
abbrev pub is_filter_item : {A : Type 0} → ℕ → Item (QueuedFrame A) → Bool
is_filter_item n x = is_filter_number x.load.flow n

-- True if an item has a filter number that the plan lacks.
abbrev pub is_filter_unknown : List (ℕ × FilterPlan) → Option ℕ → Bool
is_filter_unknown filters None = false
is_filter_unknown filters (Some n) = not (is_listed n filters)

-- True if an item is invalid: the item's filter is missing from the plan, or the item has more octets than its length.
abbrev pub is_item_invalid : {A : Type 0} → List (ℕ × FilterPlan) → Item (QueuedFrame A) → Bool
is_item_invalid filters x = if is_filter_unknown filters x.load.flow then true else nat_lt x.len (length x.load.octets.items)

-- Holds if recorder `t` of filter `n` is consistent with the queues and the agenda. It owes an entry for each queued copy, and its lists are in order.
pub record IsRecorderSound {G A : Type 0} (held : G → ℕ → Option ℕ) (b : RelayState G A) (n : ℕ) (t : RecorderState) : Type 0 where
  pub covered : count_all_items (is_filter_item n) b.ports ≤ t.owed
  pub few : t.owed ≤ 16 * b.arrived
  pub departures : IsOrdered DepartsEarlier t.departures
  pub left : (d : Departure) → IsMember d t.departures → (d.start < b.earliest) × ((q k : ℕ) → held b.ports.agenda q ≡ Some k → (d.start < k) ⊎ ((d.start ≡ k) × (d.port < q)))
  pub drops : IsOrdered DropsEarlier t.drops
  pub dropped : (d : Dropped) → IsMember d t.drops → d.own ≤ length t.verdicts

-- Holds if the relay's state is consistent: its plan is accepted, its parts match the plan, and no part is later than the relay.
pub record IsSound {G A : Type 0} (held : G → ℕ → Option ℕ) (b : RelayState G A) : Type 0 where
  pub rules : IsPlan b.plan
  pub acceptable : IsAcceptable b.plan
  pub identified : b.streams ≡ b.plan.streams
  pub filters : b.police.filters ≡ b.plan.filters
  pub gates : KeepsNumbers b.plan.gates b.police.gates
  pub meters : KeepsNumbers b.plan.meters b.police.meters
  pub asked : b.police.earliest ≤ b.earliest
  pub few : (b.police.calls ≤ b.arrived) × (b.arrived ≤ MAX_ARRIVALS)
  pub alike : (q : ℕ) → 1 ≤ q → MatchesPlan (find_port b.plan.ports q) (port_state b.ports q)
  pub early : (q : ℕ) (s : PortState A) → 1 ≤ q → port_state b.ports q ≡ Some s → (s.port.earliest ≤ b.earliest) × (s.port.offered ≤ b.arrived)
  pub in_turn : (q r k : ℕ) (s : PortState A) → 1 ≤ q → port_state b.ports q ≡ Some s → held b.ports.agenda r ≡ Some k → (s.port.earliest ≤ k + 1) × (r ≤ q → s.port.earliest ≤ k)
  pub frames : (q : ℕ) (s : PortState A) → 1 ≤ q → port_state b.ports q ≡ Some s → s.count.frames ≤ b.arrived
  pub right : count_all_items (is_item_invalid b.plan.filters) b.ports ≡ 0
  pub there : (n : ℕ) → IsTrue (is_listed n b.plan.filters) → IsTrue (is_listed n b.tables)
  pub each : (n : ℕ) (t : RecorderState) → lookup (nat_eq n) b.tables ≡ Some t → IsRecorderSound held b n t

-- Holds if the recorder of filter `n` owes at least `k` entries more than the filter has queued copies.
abbrev pub OwesSpareCopies : {G A : Type 0} → RelayState G A → ℕ → ℕ → Type 0
OwesSpareCopies b k n = (t : RecorderState) × (lookup (nat_eq n) b.tables ≡ Some t) × (count_all_items (is_filter_item n) b.ports + k ≤ t.owed)

-- Holds if the recorder of filter `n` owes an entry for a copy of frame `own` at port `port`, and all its drops are earlier.
pub record AwaitsCopy {G A : Type 0} (b : RelayState G A) (n own port : ℕ) : Type 0 where
  pub table : RecorderState
  pub there : lookup (nat_eq n) b.tables ≡ Some table
  pub spare : count_all_items (is_filter_item n) b.ports + 1 ≤ table.owed
  pub heard : own ≤ length table.verdicts
  pub later : (d : Dropped) → IsMember d table.drops → (d.own < own) ⊎ ((d.own ≡ own) × (d.port < port))

-- The copies at each port, with the contents that they carry.
abbrev pub carried_copies : {A : Type 0} → (ℕ → List (Copy (Item (QueuedFrame A)))) → ℕ → List (Copy CarriedFrame)
carried_copies lists q = map_copies carried_frame (lists q)

-- Holds if exactly the frames `left` have left port `s`, one for each start. Each transmission ends before the link is
-- free, or at that time.
pub record HasLeft {A : Type 0} (s : PortState A) (copies : List (Copy CarriedFrame)) (left : List CapturedFrame) : Type 0 where
  pub output : IsOutput s.speed copies left
  pub before : (d : CapturedFrame) → IsMember d left → d.time ≤ s.port.free
  pub many : s.port.started ≡ length left

-- The verdicts and the origins of the filter's frames in a recorder, for contracts that leave out departures.
abbrev pub recorded_frames : RecorderState → List Verdict × List Origin
recorded_frames t = (t.verdicts, t.origins)

-- The verdicts and the origins that events `es` give filter `n`.
abbrev pub event_frames : {A : Type 0} → Plan A → ℕ → List Event → List Verdict × List Origin
event_frames p n es = (filter_verdicts n (police_steps p es), filter_origins p n es)

-- Holds if relay `b` stands for events `es` and departures `left` under plan `p`. Filters, ports, recorders and counts have exactly the state that these events
-- give.
pub record RelayStandsFor {G A : Type 0} (p : Plan A) (b : RelayState G A) (es : List Event) (left : ℕ → List CapturedFrame) : Type 0 where
  pub plan : b.plan ≡ p
  pub police : filter.StandsFor (plan_police p) b.police (filter_inputs p es)
  pub lists : ℕ → List (Copy (Item (QueuedFrame A)))
  pub others : (q : ℕ) → find_port p.ports q ≡ None → lists q ≡ []
  pub each : (q : ℕ) (s : PortState A) → 1 ≤ q → port_state b.ports q ≡ Some s → StandsFor s.port (lists q)
  pub offers : (q : ℕ) (out : PortPlan A) → find_port p.ports q ≡ Some out → copy_offers (carried_copies lists q) ≡ port_offers p out es
  pub verdicts : (n : ℕ) (t : RecorderState) → lookup (nat_eq n) b.tables ≡ Some t → recorded_frames t ≡ event_frames p n es
  pub told : (n : ℕ) (t : RecorderState) → lookup (nat_eq n) b.tables ≡ Some t → HasCopyRecord p n (IsPortCopy (carried_copies lists)) t.departures t.drops t.delay
  pub counts : (q : ℕ) (s : PortState A) → 1 ≤ q → port_state b.ports q ≡ Some s → IsPortCount p es q (carried_copies lists q) s.count
  pub leaves : (q : ℕ) (s : PortState A) → 1 ≤ q → port_state b.ports q ≡ Some s → HasLeft s (carried_copies lists q) (left q)
  pub arrived : b.arrived ≡ length (arrivals es)

-- Holds if `sent` is the departure of the next start, the head of a queue.
pub record IsSent {G A : Type 0} (old new : RelayState G A) (sent : Sent A) : Type 0 where
  pub slot : PortState A
  pub item : Item (QueuedFrame A)
  pub there : port_state old.ports sent.port ≡ Some slot
  pub next : IsNextStart slot.port sent.start sent.class item
  pub len : sent.len ≡ item.len
  pub octets : sent.octets ≡ item.load.octets
  pub done : sent.done ≡ sent.start + transmission_time item.len slot.speed
  pub bounded : sent.done < time_limit (slot.port.started + 1)
  pub earliest : new.earliest ≡ max old.earliest (sent.start + 1)

-- The captured frame of a departure: its time is the end of transmission.
abbrev pub sent_record : {A : Type 0} → Sent A → CapturedFrame
sent_record sent = record { time = sent.done; len = sent.len; octets = sent.octets.items }

-- The departures of each port, with `sent` appended to its port's list.
abbrev pub with_sent_frame : {A : Type 0} → (ℕ → List CapturedFrame) → Sent A → ℕ → List CapturedFrame
with_sent_frame left sent q = if nat_eq q sent.port then left q ++ sent_record sent ∷ [] else left q
