-- Copies of frames that events offer to an egress port.
use Rattle.std.specs.Prelude.{ℕ, Bool, true, false, ◌+◌, nat_eq, Option, Some, None, List, [], ◌∷◌, ◌++◌, map, slice_index_or, if◌then◌else◌}
use Rattle.bridge_frame.specs.Frames.{drop_eligible_frame}
use Rattle.bridge_frame.specs.Link.{transmission_time}
use Rattle.bridge_filter.specs.declared.FilterInput.{FilterInput}
use Rattle.bridge_filter.specs.declared.Verdict.{Verdict}
use Rattle.bridge_filter.specs.declared.Verdict.TheVariants as verdict
use Rattle.bridge_filter.specs.Verdicts as verdicts
use Rattle.bridge_forward.specs.Ports.{has_port}
use Rattle.bridge_port.specs.declared.item.Item.{Item}
use Rattle.bridge_port.specs.GateSchedule.{lists_open, lists_can_fit}
use Rattle.bridge_port.specs.Schedule.{Copy, PortRules}
use Rattle.bridge_config.specs.declared.ports.PortPlan.{PortPlan}
use Rattle.bridge_config.specs.Model.{Plan}
use Rattle.bridge_check.specs.FrameInput.{frame_class}
use Rattle.bridge_semantics.specs.declared.queued_frame.QueuedFrame.{QueuedFrame}
use Rattle.bridge_semantics.specs.declared.destination.Destination.{Destination}
use Rattle.bridge_semantics.specs.declared.destination.Destination.TheVariants.{Forwarded}
use Rattle.bridge_semantics.specs.Events.{Arrival, Event, Arrived, Cleared, frame_destination, plan_police, police_steps, count_filter_frames}

-- Contents of a frame's copy: arrival time in ns, filter number, frame number within the filter, length, and octets to
-- send. Frame numbers start at 1. An unfiltered frame has frame number 0.
pub record CarriedFrame : Type 0 where
  pub at : ℕ
  pub flow : Option ℕ
  pub own : ℕ
  pub len : ℕ
  pub octets : List ℕ

-- Turns a queued item of a port into the contents of a frame's copy.
abbrev pub carried_frame : {A : Type 0} → Item (QueuedFrame A) → CarriedFrame
carried_frame x = record { at = x.load.at; flow = x.load.flow; own = x.load.own; len = x.len; octets = x.load.octets.items }

-- The rules of egress port `out`: classes open by time, durations that fit a window, queue capacities in frames, and
-- transmission times in ns.
abbrev pub egress_rules : {A : Type 0} → PortPlan A → PortRules CarriedFrame
egress_rules out = record { opens = lists_open out.list; ever = lists_can_fit out.list; room = λ c. slice_index_or out.rooms c 0; occ = λ x. transmission_time x.len out.speed }

-- A copy as offered to an egress port, before it is queued or dropped: its time in ns, its traffic class and its
-- contents.
pub record Offer : Type 0 where
  pub at : ℕ
  pub class : ℕ
  pub item : CarriedFrame

-- The octets of a departing frame: with the tag's drop eligible indicator set if the flag is true, otherwise unchanged.
abbrev pub leaving_octets : Bool → List ℕ → List ℕ
leaving_octets true octets = drop_eligible_frame octets
leaving_octets false octets = octets

-- Builds the copy of frame `a`, which is number `own` of filter `flow`, for egress port `out`. The internal priority
-- value `ipv`, or, without it, `priority`, gives its class; `eligible` marks its tag drop eligible.
abbrev pub make_offer : {A : Type 0} → PortPlan A → Arrival → ℕ → Option ℕ → ℕ → Option ℕ → Bool → Offer
make_offer out a priority flow own ipv eligible = record { at = a.at; class = frame_class out ipv priority; item = record { at = a.at; flow = flow; own = own; len = a.len; octets = leaving_octets eligible a.octets } }

-- A list with the copy of frame `a`, which is number `own` of filter `n`, if the verdict is pass; otherwise the empty
-- list.
abbrev pub verdict_offer : {A : Type 0} → PortPlan A → Arrival → ℕ → ℕ → ℕ → Verdict → List Offer
verdict_offer out a priority n own (verdict.Pass ipv eligible) = make_offer out a priority (Some n) own ipv eligible ∷ []
verdict_offer out a priority n own v = []

-- A list with the copy of frame `a` for port `out`, or the empty list if the frame's filter refused the frame.
abbrev pub step_offer : {A : Type 0} → Plan A → PortPlan A → Arrival → List Event → ℕ → verdicts.FilterStep → List Offer
step_offer p out a es priority (verdicts.Unfiltered c) = make_offer out a priority None 0 None false ∷ []
step_offer p out a es priority (verdicts.Judged c n f v) = verdict_offer out a priority n (count_filter_frames p n es + 1) v
step_offer p out a es priority (verdicts.Commanded v m) = []

-- The result of a forwarded frame with filter data `c` after the older events `es`: Unfiltered, or its filter and its
-- verdict.
abbrev pub frame_step : {A : Type 0} → Plan A → List Event → FilterInput → verdicts.FilterStep
frame_step p es c = verdicts.input_step (plan_police p) (police_steps p es) c (verdicts.frame_filter p.filters c)

-- A list with the copy of frame `a` for port `out`; empty if the frame isn't forwarded to this port or its filter
-- refused it.
abbrev pub destination_offer : {A : Type 0} → Plan A → PortPlan A → Arrival → List Event → Destination → List Offer
destination_offer p out a es (Forwarded set c) = if has_port set out.number then step_offer p out a es c.priority (frame_step p es c) else []
destination_offer p out a es w = []

-- A list with the copy that received frame `a` offers to egress port `out` after the older events `es`; empty if it
-- offers none.
abbrev pub arrival_offer : {A : Type 0} → Plan A → PortPlan A → Arrival → List Event → List Offer
arrival_offer p out a es = destination_offer p out a es (frame_destination p a)

-- The copies that the events `es` offer to egress port `out`, newest first; each frame offers at most one copy to the
-- port.
abbrev pub port_offers : {A : Type 0} → Plan A → PortPlan A → List Event → List Offer
port_offers p out [] = []
port_offers p out (Arrived a ∷ es) = arrival_offer p out a es ++ port_offers p out es
port_offers p out (Cleared clear n ∷ es) = port_offers p out es

-- The offers in the list `os` whose traffic class is `c`, in list order.
abbrev pub class_offers : ℕ → List Offer → List Offer
class_offers c [] = []
class_offers c (o ∷ os) = if nat_eq o.class c then o ∷ class_offers c os else class_offers c os

-- The copies in list `xs` as offers, in list order: time, class and contents of each copy, without its fate.
abbrev pub copy_offers : List (Copy CarriedFrame) → List Offer
copy_offers xs = map (λ x. record { at = x.at; class = x.class; item = x.item }) xs
