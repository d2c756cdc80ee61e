-- Events of a bridge, and the data of each frame that its stream filters use.
use Rattle.std.specs.Prelude.{ℕ, Bool, ◌+◌, ◌++◌, max, nat_eq, Option, Some, None, List, [], ◌∷◌, Result, Ok, Err, if◌then◌else◌}
use Rattle.bridge_frame.specs.declared.Head.{Head}
use Rattle.bridge_frame.specs.declared.FrameFault.{FrameFault}
use Rattle.bridge_frame.specs.Frames.{parsed_head}
use Rattle.bridge_filter.specs.declared.FilterInput.{FilterInput}
use Rattle.bridge_filter.specs.declared.Clear.{Clear}
use Rattle.bridge_filter.specs.declared.FilterPlan.{FilterPlan}
use Rattle.bridge_filter.specs.Plans.{police_plans}
use Rattle.bridge_filter.specs.Verdicts as verdicts
use Rattle.bridge_filter.specs.OwnEvents.{is_filter_number, is_own_command}
use Rattle.bridge_forward.specs.Forward.{forward}
use Rattle.bridge_config.specs.declared.ports.PortPlan.{PortPlan}
use Rattle.bridge_config.specs.Model.{Plan}
use Rattle.bridge_config.specs.Rules.{find_port}
use Rattle.bridge_check.specs.FrameInput as sending
use Rattle.bridge_semantics.specs.declared.outcome.Origin.{Origin}
use Rattle.bridge_semantics.specs.declared.destination.Destination.{Destination}
use Rattle.bridge_semantics.specs.declared.destination.Destination.TheVariants.{Malformed, Nowhere, Forwarded}

-- A received frame: its arrival time in ns, its ingress port, its captured octets, and its length on the link in
-- octets.
pub record Arrival : Type 0 where
  pub at : ℕ
  pub port : ℕ
  pub octets : List ℕ
  pub len : ℕ

-- Builds a received frame from its arrival time in ns, ingress port, captured octets, and length on the link in octets.
abbrev pub arrival : ℕ → ℕ → List ℕ → ℕ → Arrival
arrival at port octets len = record { at = at; port = port; octets = octets; len = len }

-- An event is a received frame, or a command that clears a flag of the numbered filter, gate or meter. Event lists are
-- newest first.
pub data Event : Type 0 where
  Arrived : Arrival → Event
  Cleared : Clear → ℕ → Event

-- The octets that a flow meter counts for a frame of `len` octets: padded to at least 60, plus 4 for the frame check
-- sequence.
abbrev pub metered_octets : ℕ → ℕ
metered_octets len = max len 60 + 4

-- The forwarding result for the set `set` of egress ports: `Nowhere` if the set is empty, otherwise these ports and the
-- frame's filter data.
abbrev pub destination_by_set : {A : Type 0} → Plan A → PortPlan A → Arrival → Head → ℕ → Destination
destination_by_set p port a h set = if nat_eq set 0 then Nowhere else Forwarded set (sending.frame_input p port a.at h (metered_octets a.len))

-- The forwarding result of frame `a` on the existing port `port`: malformed if its header can't be read, otherwise by
-- the filtering database.
abbrev pub port_destination : {A : Type 0} → Plan A → PortPlan A → Arrival → Result Head FrameFault → Destination
port_destination p port a (Err e) = Malformed
port_destination p port a (Ok h) = destination_by_set p port a h (forward p.database port.number (sending.frame_vid port h.tag) h.da)

-- The forwarding result of frame `a` by its optional ingress port and its header, if readable; `Nowhere` if the ingress
-- port is missing.
abbrev pub optional_port_destination : {A : Type 0} → Plan A → Option (PortPlan A) → Arrival → Result Head FrameFault → Destination
optional_port_destination p None a h = Nowhere
optional_port_destination p (Some port) a h = port_destination p port a h

-- The forwarding result of received frame `a`, by the plan and this frame only: malformed, not forwarded, or egress
-- ports with the filter data.
abbrev pub frame_destination : {A : Type 0} → Plan A → Arrival → Destination
frame_destination p a = optional_port_destination p (find_port p.ports a.port) a (parsed_head a.octets a.len)

-- The filter data that a forwarding result (`Destination`) contains; `None` if the frame is malformed or isn't forwarded.
abbrev pub destination_input : Destination → Option FilterInput
destination_input (Forwarded set c) = Some c
destination_input w = None

-- The data of received frame `a` that the stream filters use; `None` if the frame is malformed or isn't forwarded.
abbrev pub arrival_input : {A : Type 0} → Plan A → Arrival → Option FilterInput
arrival_input p a = destination_input (frame_destination p a)

-- The list `es` of filter events, with a frame's filter data, if present, in front as the newest event.
abbrev pub with_input : Option FilterInput → List verdicts.FilterEvent → List verdicts.FilterEvent
with_input None es = es
with_input (Some c) es = verdicts.Arrived c ∷ es

-- The events of `es` that the stream filters handle, newest first: the filter data of every forwarded frame, and every
-- command.
abbrev pub filter_inputs : {A : Type 0} → Plan A → List Event → List verdicts.FilterEvent
filter_inputs p [] = []
filter_inputs p (Arrived a ∷ es) = with_input (arrival_input p a) (filter_inputs p es)
filter_inputs p (Cleared clear n ∷ es) = verdicts.Cleared clear n ∷ filter_inputs p es

-- The stream filters of plan `p`, and its stream gates and flow meters by number, in the form that the verdicts use.
abbrev pub plan_police : {A : Type 0} → Plan A → verdicts.PolicePlans
plan_police p = police_plans p.filters p.gates p.meters

-- One result for each event that the stream filters handle, newest first: a frame with its verdict, an unfiltered
-- frame, or a command.
abbrev pub police_steps : {A : Type 0} → Plan A → List Event → List verdicts.FilterStep
police_steps p es = verdicts.filter_steps (plan_police p) (filter_inputs p es)

-- The lowest-numbered stream filter that matches a frame's optional filter data; `None` if the data or a matching
-- filter is missing.
abbrev pub input_filter : {A : Type 0} → Plan A → Option FilterInput → Option (ℕ × FilterPlan)
input_filter p None = None
input_filter p (Some c) = verdicts.frame_filter p.filters c

-- The stream filter of received frame `a`, by the plan and this frame only; `None` for a malformed, unforwarded or
-- unmatched frame.
abbrev pub arrival_filter : {A : Type 0} → Plan A → Arrival → Option (ℕ × FilterPlan)
arrival_filter p a = input_filter p (arrival_input p a)

-- True if the event is a frame of filter `s`, or a command that clears a flag of this filter, its gate or its meter.
abbrev pub is_own_event : {A : Type 0} → Plan A → ℕ → FilterPlan → Event → Bool
is_own_event p s f (Arrived a) = is_filter_number s (arrival_filter p a)
is_own_event p s f (Cleared clear n) = is_own_command s f clear n

-- The own events of filter `s`, in list order: its frames, and commands that clear a flag of the filter, its gate or
-- meter.
abbrev pub own_events : {A : Type 0} → Plan A → ℕ → FilterPlan → List Event → List Event
own_events p s f [] = []
own_events p s f (Arrived a ∷ es) = if is_filter_number s (arrival_filter p a) then Arrived a ∷ own_events p s f es else own_events p s f es
own_events p s f (Cleared clear n ∷ es) = if is_own_command s f clear n then Cleared clear n ∷ own_events p s f es else own_events p s f es

-- The number of received frames among the events `es` whose filter is `n`; commands aren't counted.
abbrev pub count_filter_frames : {A : Type 0} → Plan A → ℕ → List Event → ℕ
count_filter_frames p n [] = 0
count_filter_frames p n (Arrived a ∷ es) = (if is_filter_number n (arrival_filter p a) then 1 else 0) + count_filter_frames p n es
count_filter_frames p n (Cleared clear m ∷ es) = count_filter_frames p n es

-- The ingress port and the arrival time in ns of received frame `a`, as its record stores them.
abbrev pub arrival_origin : Arrival → Origin
arrival_origin a = record { port = a.port; at = a.at }

-- The ingress port and the arrival time in ns of every frame of filter `n`, oldest first. The list of events has the
-- newest first.
abbrev pub filter_origins : {A : Type 0} → Plan A → ℕ → List Event → List Origin
filter_origins p n [] = []
filter_origins p n (Arrived a ∷ es) = filter_origins p n es ++ (if is_filter_number n (arrival_filter p a) then arrival_origin a ∷ [] else [])
filter_origins p n (Cleared clear m ∷ es) = filter_origins p n es

-- The received frames among the events, newest first; commands are left out.
abbrev pub arrivals : List Event → List Arrival
arrivals [] = []
arrivals (Arrived a ∷ es) = a ∷ arrivals es
arrivals (Cleared clear n ∷ es) = arrivals es
