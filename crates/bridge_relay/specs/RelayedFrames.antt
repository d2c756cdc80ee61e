-- How the relay handles a frame: forwarding, verdict, and offered copies.
use Rattle.std.specs.Prelude.{◌≡◌, ℕ, Bool, false, not, ◌+◌, ◌-◌, ◌<◌, ◌≤◌, ◌&&◌, ◌⊎◌, Option, Some, None, IfSome, is_none, List, [], ◌∷◌, length, count_by, nat_eq, nat_lt, slice_set, slice_index, if◌then◌else◌, Vec, max}
use Rattle.std.specs.Map.{lookup}
use Rattle.bridge_limits.specs.Members.{IsMember}
use Rattle.bridge_limits.specs.declared.TheConstants.{END_OF_TIME, LONGEST_FRAME, MAX_ARRIVALS}
use Rattle.std.specs.Option.{option_map}
use Rattle.bridge_filter.specs.declared.FilterInput.{FilterInput}
use Rattle.bridge_filter.specs.declared.Ruling.{Ruling}
use Rattle.bridge_filter.specs.declared.route.Route.{Route}
use Rattle.bridge_filter.specs.Routes.{IsFoundRoute}
use Rattle.bridge_filter.specs.Plans.{KeepsNumbers}
use Rattle.bridge_filter.specs.StandsFor as filter
use Rattle.bridge_filter.specs.Verdicts as verdicts
use Rattle.bridge_capture.specs.declared.packet.Packet.{Packet}
use Rattle.bridge_capture.specs.Grammar.{CapturedFrame}
use Rattle.bridge_forward.specs.Ports.{has_port}
use Rattle.bridge_frame.specs.declared.Tag.{Tag}
use Rattle.bridge_port.specs.Schedule.{is_accepted}
use Rattle.bridge_config.specs.declared.ports.PortPlan.{PortPlan}
use Rattle.bridge_config.specs.Model.{Plan}
use Rattle.bridge_config.specs.Rules.{find_port}
use Rattle.bridge_semantics.specs.Offers.{CarriedFrame, Offer, copy_offers, leaving_octets}
use Rattle.bridge_semantics.specs.Runs.{HasCopyRecord, IsPortCopy}
use Rattle.bridge_port.specs.declared.item.Item.{Item}
use Rattle.bridge_port.specs.Schedule.{Copy}
use Rattle.bridge_port.specs.StandsFor.{StandsFor, offer_refusal, offered_copy}
use Rattle.bridge_semantics.specs.declared.queued_frame.QueuedFrame.{QueuedFrame}
use Rattle.bridge_semantics.specs.declared.outcome.Dropped.{Dropped}
use Rattle.bridge_semantics.specs.declared.outcome.Origin.{Origin}
use Rattle.bridge_semantics.specs.declared.outcome.PortCount.{PortCount}
use Rattle.bridge_semantics.specs.declared.destination.Destination.{Destination}
use Rattle.bridge_semantics.specs.declared.destination.Destination.TheVariants.{Malformed, Nowhere, Forwarded}
use Rattle.bridge_relay.specs.declared.port_state.Ingress.{Ingress}
use Rattle.bridge_relay.specs.declared.port_state.Ingress.TheVariants as came
use Rattle.bridge_relay.specs.declared.port_state.PortState.{PortState}
use Rattle.bridge_relay.specs.PortStates.{offered_port, offer_result, count_ingress}
use Rattle.bridge_relay.specs.Recorders.{AwaitsVerdict, RecorderState, recorders_with_answer, update_number, with_verdict, without_room}
use Rattle.bridge_relay.specs.Ports.{port_state, count_outputs, is_present, StartsNoEarlier}
use Rattle.bridge_relay.specs.RelayState.{RelayState, HasLeft, OwesSpareCopies, IsSound, recorded_frames, count_all_items, is_filter_item, is_filter_unknown, carried_copies}

-- Holds if a forwarded frame has a priority from 0 to 7.
abbrev pub HasDestinationPriority : Destination → Type 0
HasDestinationPriority (Forwarded set c) = c.priority ≤ 7
HasDestinationPriority w = Unit {0}

-- Holds if the frame is forwarded: it has egress ports.
abbrev pub IsForwarded : Destination → Type 0
IsForwarded (Forwarded set c) = Unit {0}
IsForwarded w = ⊥

-- Holds if port `q` was offered item `x`, and, if it dropped the item, the recorder of the item's filter has the drop.
pub record HasOfferedCopy {G A : Type 0} (old new : RelayState G A) (q : ℕ) (s : PortState A) (c : ℕ) (x : Item (QueuedFrame A)) : Type 0 where
  pub slots : new.ports.slots ≡ slice_set old.ports.slots (q - 1) (Some (offered_port s x.load.at c x))
  pub tables : new.tables ≡ recorders_with_answer old.tables x.load.flow x.load.own q (offer_result s c x)
  pub plan : new.plan ≡ old.plan
  pub police : new.police ≡ old.police
  pub arrived : new.arrived ≡ old.arrived
  pub earliest : new.earliest ≡ x.load.at
  pub stands : (xs : List (Copy (Item (QueuedFrame A)))) → StandsFor s.port xs → StandsFor (offered_port s x.load.at c x).port (offered_copy s.port x.load.at c x ∷ xs)
  pub counts : (f : Item (QueuedFrame A) → Bool) → count_all_items f new.ports ≡ (if is_none (offer_refusal s.port c x) && f x then 1 else 0) + count_all_items f old.ports

-- Holds if the ports carry exactly the offers `os`, and recorders, counts and departures match these copies.
pub record CarriesOffers {G A : Type 0} (p : Plan A) (b : RelayState G A) (os : ℕ → PortPlan A → List Offer) (left : ℕ → List CapturedFrame) : Type 0 where
  pub lists : ℕ → List (Copy (Item (QueuedFrame A)))
  pub others : (q : ℕ) → find_port p.ports q ≡ None → lists q ≡ []
  pub each : (q : ℕ) (s : PortState A) → 1 ≤ q → port_state b.ports q ≡ Some s → StandsFor s.port (lists q)
  pub offers : (q : ℕ) (out : PortPlan A) → find_port p.ports q ≡ Some out → copy_offers (carried_copies lists q) ≡ os q out
  pub told : (n : ℕ) (t : RecorderState) → lookup (nat_eq n) b.tables ≡ Some t → HasCopyRecord p n (IsPortCopy (carried_copies lists)) t.departures t.drops t.delay
  pub sent : (q : ℕ) (s : PortState A) → 1 ≤ q → port_state b.ports q ≡ Some s → s.count.sent ≡ count_by (λ x. is_accepted x.fate) (carried_copies lists q)
  pub dropped : (q : ℕ) (s : PortState A) → 1 ≤ q → port_state b.ports q ≡ Some s → s.count.dropped ≡ count_by (λ x. not (is_accepted x.fate)) (carried_copies lists q)
  pub leaves : (q : ℕ) (s : PortState A) → 1 ≤ q → port_state b.ports q ≡ Some s → HasLeft s (carried_copies lists q) (left q)

-- The contents of a copy as it leaves: marked drop eligible if the flag is true.
abbrev pub leaving_frame : {A : Type 0} → QueuedFrame A → ℕ → Bool → CarriedFrame
leaving_frame load len eligible = record { at = load.at; flow = load.flow; own = load.own; len = len; octets = leaving_octets eligible load.octets.items }

-- The contents `x` as an offer to port `out`, in the class of `priority`.
abbrev pub priority_offer : {A : Type 0} → PortPlan A → ℕ → CarriedFrame → Offer
priority_offer out priority x = record { at = x.at; class = slice_index out.classes priority; item = x }

-- The offers `os`, with one more offer to each port of `set` below `k`.
abbrev pub offers_to_lower_ports : {A : Type 0} → ℕ → ℕ → ℕ → CarriedFrame → (ℕ → PortPlan A → List Offer) → ℕ → PortPlan A → List Offer
offers_to_lower_ports set k priority x os q out = if has_port set q && nat_lt q k then priority_offer out priority x ∷ os q out else os q out

-- The offers `os`, with one more offer to each port of `set`.
abbrev pub offers_to_set : {A : Type 0} → ℕ → ℕ → CarriedFrame → (ℕ → PortPlan A → List Offer) → ℕ → PortPlan A → List Offer
offers_to_set set priority x os q out = if has_port set q then priority_offer out priority x ∷ os q out else os q out

-- Holds if the recorder of filter `n` owes entries for `left` copies of frame `own` at ports from `k`, and all its drops are earlier.
pub record AwaitsCopies {G A : Type 0} (b : RelayState G A) (left own k n : ℕ) : Type 0 where
  pub table : RecorderState
  pub there : lookup (nat_eq n) b.tables ≡ Some table
  pub spare : count_all_items (is_filter_item n) b.ports + left ≤ table.owed
  pub heard : own ≤ length table.verdicts
  pub later : (d : Dropped) → IsMember d table.drops → (d.own < own) ⊎ ((d.own ≡ own) × (d.port < k))

-- Holds if a relay can offer contents `x` to its ports. The frame is already counted, its filter exists, and its length and time are in range.
pub record CanRelay {G A : Type 0} (b : RelayState G A) (x : CarriedFrame) : Type 0 where
  pub fresh : (q : ℕ) (s : PortState A) → 1 ≤ q → port_state b.ports q ≡ Some s → s.port.offered < b.arrived
  pub right : is_filter_unknown b.plan.filters x.flow ≡ false
  pub short : (x.len ≤ LONGEST_FRAME) × (length x.octets ≤ x.len)
  pub range : x.at < END_OF_TIME
  pub few : b.arrived ≤ MAX_ARRIVALS

-- Holds if two counts of a port count equal numbers of frames.
pub record AreSameFrameCounts (c d : PortCount) : Type 0 where
  pub frames : c.frames ≡ d.frames
  pub malformed : c.malformed ≡ d.malformed
  pub nowhere : c.nowhere ≡ d.nowhere
  pub unfiltered : c.unfiltered ≡ d.unfiltered

-- Holds if relay `now` has offered contents `x` to exactly the ports of `set` below `k`, starting from relay `first`.
pub record IsOfferingSet {G A : Type 0} (held : G → ℕ → Option ℕ) (first now : RelayState G A) (set priority : ℕ) (x : CarriedFrame) (k : ℕ) : Type 0 where
  pub sound : IsSound held now
  pub due : StartsNoEarlier (held now.ports.agenda) x.at
  pub plan : now.plan ≡ first.plan
  pub police : now.police ≡ first.police
  pub arrived : now.arrived ≡ first.arrived
  pub early : now.earliest ≤ x.at
  pub left : ℕ
  pub rest : left + count_outputs first.ports.slots set (k - 1) ≡ count_outputs first.ports.slots set 16
  pub pending : IfSome x.flow (AwaitsCopies now left x.own k)
  pub ahead : (q : ℕ) → k ≤ q → port_state now.ports q ≡ port_state first.ports q
  pub there : (q : ℕ) → 1 ≤ q → is_present (port_state now.ports q) ≡ is_present (port_state first.ports q)
  pub verdicts : (n : ℕ) (t : RecorderState) → lookup (nat_eq n) now.tables ≡ Some t → (w : RecorderState) × (lookup (nat_eq n) first.tables ≡ Some w) × (recorded_frames t ≡ recorded_frames w)
  pub counted : (q : ℕ) (s : PortState A) → 1 ≤ q → port_state now.ports q ≡ Some s → (w : PortState A) × (port_state first.ports q ≡ Some w) × AreSameFrameCounts s.count w.count
  pub carries : (os : ℕ → PortPlan A → List Offer) (left : ℕ → List CapturedFrame) → CarriesOffers first.plan first os left → CarriesOffers first.plan now (offers_to_lower_ports set k priority x os) left

-- Holds if `copies` has one copy of the octets for each port of `set` from `k` except the last.
pub record HasCopies {A : Type 0} (slots : List (Option (PortState A))) (set k : ℕ) (octets : List ℕ) (copies : List (Vec ℕ A)) : Type 0 where
  pub count : length copies + count_outputs slots set (k - 1) + 1 ≡ max 1 (count_outputs slots set 16)
  pub alike : (v : Vec ℕ A) → IsMember v copies → v.items ≡ octets

-- The relay without the frame that it has just counted.
abbrev pub relay_before_frame : {G A : Type 0} → RelayState G A → RelayState G A
relay_before_frame b = record b { arrived = b.arrived - 1 }

-- The VLAN, the priority and the drop eligible indication of a frame, by its tag or by the ingress port's defaults
-- `vid` and `priority`.
abbrev pub classify : Option Tag → ℕ → ℕ → (ℕ × ℕ × Bool)
classify None vid priority = (vid, priority, false)
classify (Some tag) vid priority = ((if nat_eq tag.vid 0 then vid else tag.vid), tag.pcp, tag.dei)

-- The number of the filter that matches a frame's filter data. `None` if no filter matches.
abbrev pub input_filter_number : {A : Type 0} → Plan A → FilterInput → Option ℕ
input_filter_number p c = option_map (λ f. f.0) (verdicts.frame_filter p.filters c)

-- How the port counts a frame: unfiltered without a ruling, otherwise policed.
abbrev pub ruling_ingress : Option Ruling → Ingress
ruling_ingress None = came.Unfiltered
ruling_ingress (Some r) = came.Policed

-- The origin of a frame: ingress port and arrival time in ns.
abbrev pub ingress_origin : ℕ → ℕ → Origin
ingress_origin port at = record { port = port; at = at }

-- The recorders after a frame with origin `o` was policed: the filter's recorder has its verdict.
abbrev pub recorders_with_ruling : Origin → Option Ruling → List (ℕ × RecorderState) → List (ℕ × RecorderState)
recorders_with_ruling o None tables = tables
recorders_with_ruling o (Some r) tables = update_number r.filter (λ t. with_verdict t r.verdict o) tables

-- Holds if the optional pair has the ruling and the frame's number among its filter's frames, from 1. `None` without a ruling.
abbrev pub HasSequence : List (ℕ × RecorderState) → Option Ruling → Option (Ruling × ℕ) → Type 0
HasSequence tables None None = Unit {0}
HasSequence tables (Some r) (Some j) = (j.0 ≡ r) × ((t : RecorderState) → lookup (nat_eq r.filter) tables ≡ Some t → j.1 ≡ length t.verdicts + 1)
HasSequence tables r j = ⊥

-- Holds if the relay has counted more frames than its police has judged, and more than any port has counted or was
-- offered.
pub record HasUncountedFrame {G A : Type 0} (b : RelayState G A) : Type 0 where
  pub calls : b.police.calls < b.arrived
  pub frames : (q : ℕ) (s : PortState A) → 1 ≤ q → port_state b.ports q ≡ Some s → s.count.frames < b.arrived
  pub offered : (q : ℕ) (s : PortState A) → 1 ≤ q → port_state b.ports q ≡ Some s → s.port.offered < b.arrived

-- Holds if a frame was policed: its port counted it, its filter judged it, and the filter's recorder has the verdict.
pub record HasPoliced {G A : Type 0} (old new : RelayState G A) (q : ℕ) (s : PortState A) (c : FilterInput) (r : Option Ruling) : Type 0 where
  pub slots : new.ports.slots ≡ slice_set old.ports.slots (q - 1) (Some (record s { count = count_ingress s.count (ruling_ingress r) }))
  pub agenda : new.ports.agenda ≡ old.ports.agenda
  pub tables : new.tables ≡ recorders_with_ruling (ingress_origin q c.at) r old.tables
  pub plan : new.plan ≡ old.plan
  pub streams : new.streams ≡ old.streams
  pub police : (p : verdicts.PolicePlans) (es : List verdicts.FilterEvent) → filter.StandsFor p old.police es → filter.StandsFor p new.police (verdicts.Arrived c ∷ es)
  pub answer : (p : verdicts.PolicePlans) (es : List verdicts.FilterEvent) → filter.StandsFor p old.police es → r ≡ verdicts.step_ruling (verdicts.input_step p (verdicts.filter_steps p es) c (verdicts.frame_filter p.filters c))
  pub number : option_map (λ x. x.filter) r ≡ input_filter_number old.plan c
  pub filters : new.police.filters ≡ old.police.filters
  pub gates : KeepsNumbers old.police.gates new.police.gates
  pub meters : KeepsNumbers old.police.meters new.police.meters
  pub calls : new.police.calls ≡ old.police.calls + 1
  pub asked : new.police.earliest ≡ c.at
  pub arrived : new.arrived ≡ old.arrived
  pub earliest : new.earliest ≡ c.at

-- Holds if a frame can be policed and offered to the ports `set`. It is counted, its filter is found, and copies and recorder capacity are ready.
pub record IsPrepared {G A : Type 0} (held : G → ℕ → Option ℕ) (b : RelayState G A) (port : ℕ) (packet : Packet A) (set : ℕ) (c : FilterInput) (route : Option Route) (made : List (Vec ℕ A)) : Type 0 where
  pub known : (slot : PortState A) × (port_state b.ports port ≡ Some slot)
  pub from : 1 ≤ port
  pub at : c.at ≡ packet.time
  pub time : (b.earliest ≤ packet.time) × (packet.time < END_OF_TIME)
  pub due : StartsNoEarlier (held b.ports.agenda) packet.time
  pub sound : IsSound held b
  pub fresh : HasUncountedFrame b
  pub awaited : IfSome (input_filter_number b.plan c) (AwaitsVerdict b.tables)
  pub spare : IfSome (input_filter_number b.plan c) (OwesSpareCopies b (count_outputs b.ports.slots set 16))
  pub right : is_filter_unknown b.plan.filters (input_filter_number b.plan c) ≡ false
  pub short : (packet.len ≤ LONGEST_FRAME) × (length packet.octets.items ≤ packet.len)
  pub priority : c.priority ≤ 7
  pub found : IsFoundRoute b.police c.handle c.priority route
  pub copies : HasCopies b.ports.slots set 1 packet.octets.items made

-- The relay after the recorder of filter `n` released `k` reserved copies.
abbrev pub relay_with_release : {G A : Type 0} → RelayState G A → ℕ → ℕ → RelayState G A
relay_with_release b n k = record b { tables = update_number n (λ t. without_room t k) b.tables }

-- Holds if a port counts a frame as `Malformed` or `Nowhere`, and the frame's destination `w` agrees with this count.
abbrev pub IsUnforwarded : Ingress → Destination → Type 0
IsUnforwarded came.Malformed w = w ≡ Malformed
IsUnforwarded came.Nowhere w = w ≡ Nowhere
IsUnforwarded came.Unfiltered w = ⊥
IsUnforwarded came.Policed w = ⊥

-- Holds if port `q` has counted a frame that isn't forwarded, and nothing else changed.
pub record HasCountedFrame {G A : Type 0} (old new : RelayState G A) (q : ℕ) (s : PortState A) (t : ℕ) (v : Ingress) : Type 0 where
  pub slots : new.ports.slots ≡ slice_set old.ports.slots (q - 1) (Some (record s { count = count_ingress s.count v }))
  pub agenda : new.ports.agenda ≡ old.ports.agenda
  pub tables : new.tables ≡ old.tables
  pub plan : new.plan ≡ old.plan
  pub streams : new.streams ≡ old.streams
  pub police : new.police ≡ old.police
  pub arrived : new.arrived ≡ old.arrived + 1
  pub earliest : new.earliest ≡ t
