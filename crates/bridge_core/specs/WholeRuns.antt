-- Complete runs over the contents of captures.
use Rattle.std.specs.Prelude.{◌≡◌, ℕ, Bool, true, ◌<◌, ◌≤◌, ◌⊎◌, length, nat_eq, Option, Some, None, List, [], map, vec_capacity}
use Rattle.std.specs.Map.{lookup}
use Rattle.bridge_limits.specs.declared.TheConstants.{MAX_ARRIVALS}
use Rattle.bridge_limits.specs.Members.{IsMember, IsOrdered}
use Rattle.bridge_capture.specs.declared.capture_fault.CaptureFault.{CaptureFault}
use Rattle.bridge_capture.specs.Grammar.{CapturedFrame, IsCapture, AtEnd}
use Rattle.bridge_config.specs.declared.command.Command.{Command}
use Rattle.bridge_config.specs.declared.ports.PortPlan.{PortPlan}
use Rattle.bridge_config.specs.Model.{Plan}
use Rattle.bridge_config.specs.Rules.{find_port, IsSortedCopy, IsPlan}
use Rattle.bridge_filter.specs.declared.FilterPlan.{FilterPlan}
use Rattle.bridge_capture.specs.declared.fault.RunFault.{RunFault}
use Rattle.bridge_capture.specs.declared.fault.RunFault.TheVariants as run
use Rattle.bridge_semantics.specs.declared.outcome.Outcome.{Outcome}
use Rattle.bridge_semantics.specs.declared.outcome.View.{View}
use Rattle.bridge_semantics.specs.Events.{arrivals, own_events}
use Rattle.bridge_semantics.specs.Merge.{Input, IsMerged, input_events, own_inputs, commands_of, input_streams}
use Rattle.bridge_semantics.specs.Groups.{IsGroupMember, IsPoliceRecord, HaveSamePoliceRecords, group_events, group_inputs}
use Rattle.bridge_semantics.specs.Outputs.{EndsRun}
use Rattle.bridge_semantics.specs.Runs.{IsSoloView, AreSameViews}
use Rattle.bridge_core.specs.declared.simulation.RunLists.{RunLists}
use Rattle.bridge_capture.specs.declared.capture_reader.CaptureReader.{CaptureReader}
use Rattle.bridge_capture.specs.CaptureReaders.{AreReaders, HasSoundStart, FailsToBegin, FailsAtPort, port_numbers, total_frames_left}
use Rattle.bridge_relay.specs.RelayState.{RelayState, RelayStandsFor}
use Rattle.bridge_core.specs.CaptureWriters.{AreWritten, StopsAtHeader}
use Rattle.bridge_core.specs.Running.{IsCaptureFault, StopsInCommands}

-- Holds if the list `ports` contains exactly the port numbers of plan `p`, in rising order.
abbrev pub ArePortNumbers : {A : Type 0} → Plan A → List ℕ → Type 0
ArePortNumbers p ports = IsSortedCopy (map (λ q. q.number) p.ports) ports

-- Holds if the lists have the plan's port numbers and filters in order, and empty lists with capacity for writers, records and counts.
pub record AreRunLists {A : Type 0} (p : Plan A) (l : RunLists A) : Type 0 where
  pub ports : ArePortNumbers p l.ports.items
  pub rises : IsOrdered (λ x y. x.0 < y.0) l.order.items
  pub same : (n : ℕ) → lookup (nat_eq n) l.order.items ≡ lookup (nat_eq n) p.filters
  pub no_lines : l.lines.items ≡ []
  pub lines_room : length l.ports.items ≤ vec_capacity l.lines
  pub no_views : l.views.items ≡ []
  pub views_room : length l.order.items ≤ vec_capacity l.views
  pub no_counts : l.counts.items ≡ []
  pub counts_room : 16 ≤ vec_capacity l.counts

-- Holds if a run is prepared: a relay before any event, the lists that it needs, and a reader for each port.
pub record IsReadyToRun {G A : Type 0} (p : Plan A) (b : RelayState G A) (l : RunLists A) (all : List (CaptureReader A)) : Type 0 where
  pub rules : IsPlan p
  pub plan : b.plan ≡ p
  pub arrived : b.arrived ≡ 0
  pub earliest : b.earliest ≡ 0
  pub stands : RelayStandsFor p b [] (λ _. [])
  pub lists : AreRunLists p l
  pub named : port_numbers all ≡ l.ports.items
  pub lanes : AreReaders all
  pub room : total_frames_left all ≤ MAX_ARRIVALS

-- Holds if the captures `texts` are valid, `o` is the result of all frames and commands, and the sinks have all
-- departures. `frames` are the captured frames, `inputs` all inputs in order.
pub record IsWholeRun {A W : Type 0} (p : Plan A) (ports : List ℕ) (commands : List Command) (texts : ℕ → List ℕ) (contents : W → Option (List ℕ)) (olds news : List W) (o : Outcome A) : Type 0 where
  pub frames : ℕ → List CapturedFrame
  pub inputs : List Input
  pub left : ℕ → List CapturedFrame
  pub reads : (q : ℕ) (out : PortPlan A) → find_port p.ports q ≡ Some out → IsCapture (texts q) (frames q) AtEnd
  pub others : (q : ℕ) → find_port p.ports q ≡ None → frames q ≡ []
  pub merged : IsMerged (input_streams (commands_of commands) frames) inputs
  pub ends : EndsRun p (input_events inputs) left o
  pub written : AreWritten contents ports olds news left

-- Holds if the start of the capture of port `port` is faulty, the captures before it have valid starts, and nothing is written.
pub record FailsAtStart {W : Type 0} (ports : List ℕ) (texts : ℕ → List ℕ) (rests : ℕ → Option (List ℕ)) (olds news : List W) (port : ℕ) (fault : CaptureFault) : Type 0 where
  pub own : IsCaptureFault fault
  pub looks : FailsAtPort texts rests ports port fault
  pub untouched : news ≡ olds

-- Holds if the capture of every port has a valid start: its header and its first record.
abbrev pub HaveSoundStarts : {A : Type 0} → Plan A → (ℕ → List ℕ) → Type 0
HaveSoundStarts {A} p texts = (q : ℕ) (out : PortPlan A) → find_port p.ports q ≡ Some out → HasSoundStart (texts q)

-- Holds if memory ran out before, during or directly after reading the starts of the captures, and nothing is written.
pub record LacksMemory {A W : Type 0} (p : Plan A) (ports : List ℕ) (texts : ℕ → List ℕ) (rests : ℕ → Option (List ℕ)) (olds news : List W) : Type 0 where
  pub looks : FailsToBegin texts rests ports run.NoMemory ⊎ HaveSoundStarts p texts
  pub untouched : news ≡ olds

-- Holds if all captures have valid starts, and the sink of port `port` failed at the header of its output.
pub record StopsAtFirstHeader {A W : Type 0} (p : Plan A) (ports : List ℕ) (texts : ℕ → List ℕ) (contents : W → Option (List ℕ)) (has_failed : W → Bool) (olds news : List W) (port : ℕ) : Type 0 where
  pub begins : HaveSoundStarts p texts
  pub headers : StopsAtHeader contents has_failed ports port olds news

-- Holds if the run stopped with this fault: before any output, at a header, or under way. Each source has the rest `rests` of its capture.
abbrev pub StopsRun : {A W : Type 0} → Plan A → List ℕ → List Command → (ℕ → List ℕ) → (ℕ → Option (List ℕ)) → (W → Option (List ℕ)) → (W → Bool) → List W → List W → RunFault → Type 0
StopsRun p ports commands texts rests contents has_failed olds news (run.Capture port fault) = FailsAtStart ports texts rests olds news port fault ⊎ StopsInCommands p texts rests commands contents ports olds news (run.Capture port fault)
StopsRun p ports commands texts rests contents has_failed olds news (run.Write port) = StopsAtFirstHeader p ports texts contents has_failed olds news port ⊎ StopsInCommands p texts rests commands contents ports olds news (run.Write port)
StopsRun p ports commands texts rests contents has_failed olds news run.NoMemory = LacksMemory p ports texts rests olds news ⊎ StopsInCommands p texts rests commands contents ports olds news run.NoMemory

-- Holds if plan `p` has the protected filter `f` with number `n`, and `v` is the record of this filter in the result
-- `o`.
pub record HasProtectedView {A : Type 0} (p : Plan A) (n : ℕ) (f : FilterPlan) (o : Outcome A) (v : View A) : Type 0 where
  pub listed : IsMember (n, f) p.filters
  pub protected : f.protected ≡ true
  pub told : lookup (nat_eq n) o.filters.items ≡ Some v

-- Holds if each protected filter's record in `o` results from the filter's own frames and commands only, as if queues
-- shared no port. The statement covers each run (`IsWholeRun`) with the result `o`.
abbrev pub IsolatesFilters : {A W : Type 0} → Plan A → List ℕ → List Command → (ℕ → List ℕ) → (W → Option (List ℕ)) → List W → List W → Outcome A → Type 0
IsolatesFilters {A} p ports commands texts contents olds news o =
    (ran : IsWholeRun p ports commands texts contents olds news o) (n : ℕ) (f : FilterPlan) (v : View A)
    → HasProtectedView p n f o v → IsSoloView p n f (own_events p n f (input_events ran.inputs)) v

-- Holds if each port's output has at most as many records as frames arrived at the bridge.
abbrev pub WritesFew : {A W : Type 0} → Plan A → List ℕ → List Command → (ℕ → List ℕ) → (W → Option (List ℕ)) → List W → List W → Outcome A → Type 0
WritesFew {A} p ports commands texts contents olds news o =
    (ran : IsWholeRun p ports commands texts contents olds news o) (q : ℕ) (out : PortPlan A)
    → find_port p.ports q ≡ Some out → length (ran.left q) ≤ length (arrivals (input_events ran.inputs))

-- Holds if the own frames of filter `n` on each port, and the own commands, are equal in `input_streams` and in `others`.
abbrev pub HaveSameOwnInputs : {A : Type 0} → Plan A → ℕ → FilterPlan → (ℕ → List Input) → (ℕ → List Input) → Type 0
HaveSameOwnInputs p n f input_streams others = (q : ℕ) → own_inputs p n f (input_streams q) ≡ own_inputs p n f (others q)

-- Holds if a protected filter has equal records in any two runs of the plan that have equal own frames and commands of
-- this filter. All other frames and commands may differ.
abbrev pub OthersChangeNothing : {A W : Type 0} → Plan A → List ℕ → List Command → (ℕ → List ℕ) → (W → Option (List ℕ)) → List W → List W → Outcome A → Type 0
OthersChangeNothing {A} {W} p ports commands texts contents olds news o =
    (ran : IsWholeRun p ports commands texts contents olds news o)
    (other_commands : List Command) (other_texts : ℕ → List ℕ) (other_olds other_news : List W) (other : Outcome A)
    (also : IsWholeRun p ports other_commands other_texts contents other_olds other_news other)
    (n : ℕ) (f : FilterPlan) (u v : View A)
    → HasProtectedView p n f o u → HasProtectedView p n f other v
    → HaveSameOwnInputs p n f (input_streams (commands_of commands) ran.frames) (input_streams (commands_of other_commands) also.frames)
    → AreSameViews u v

-- Holds if group `group` of plan `p` has the filter `f` with number `n`, and `v` is this filter's record in the result `o`.
pub record HasGroupedView {A : Type 0} (p : Plan A) (group n : ℕ) (f : FilterPlan) (o : Outcome A) (v : View A) : Type 0 where
  pub member : IsGroupMember p group n f
  pub told : lookup (nat_eq n) o.filters.items ≡ Some v

-- Holds if the group's own frames on each port, and its own commands, are equal in `input_streams` and in `others`.
abbrev pub HaveSameGroupInputs : {A : Type 0} → Plan A → ℕ → (ℕ → List Input) → (ℕ → List Input) → Type 0
HaveSameGroupInputs p group input_streams others = (q : ℕ) → group_inputs p group (input_streams q) ≡ group_inputs p group (others q)

-- Holds if each grouped filter's record in `o` results only from its group's own frames and commands, as if queues had their ports to
-- themselves.
--
-- The filter's verdicts, counters, flags and buckets result from its own frames and commands only.
abbrev pub IsolatesMembers : {A W : Type 0} → Plan A → List ℕ → List Command → (ℕ → List ℕ) → (W → Option (List ℕ)) → List W → List W → Outcome A → Type 0
IsolatesMembers {A} p ports commands texts contents olds news o =
    (ran : IsWholeRun p ports commands texts contents olds news o) (group n : ℕ) (f : FilterPlan) (v : View A)
    → HasGroupedView p group n f o v
    → IsSoloView p n f (group_events p group (input_events ran.inputs)) v × IsPoliceRecord p n f (own_events p n f (input_events ran.inputs)) v

-- Holds if a grouped filter has equal records in any two runs of the plan that have equal own frames and commands of its
-- group. All other frames and commands may differ.
abbrev pub OutsidersChangeNothing : {A W : Type 0} → Plan A → List ℕ → List Command → (ℕ → List ℕ) → (W → Option (List ℕ)) → List W → List W → Outcome A → Type 0
OutsidersChangeNothing {A} {W} p ports commands texts contents olds news o =
    (ran : IsWholeRun p ports commands texts contents olds news o)
    (other_commands : List Command) (other_texts : ℕ → List ℕ) (other_olds other_news : List W) (other : Outcome A)
    (also : IsWholeRun p ports other_commands other_texts contents other_olds other_news other)
    (group n : ℕ) (f : FilterPlan) (u v : View A)
    → HasGroupedView p group n f o u → HasGroupedView p group n f other v
    → HaveSameGroupInputs p group (input_streams (commands_of commands) ran.frames) (input_streams (commands_of other_commands) also.frames)
    → AreSameViews u v

-- Holds if a grouped filter's own frames and commands decide its verdicts, counters, flags and buckets. These are equal in each run of the
-- plan that has the same own frames and commands.
abbrev pub MembersChangeNoVerdict : {A W : Type 0} → Plan A → List ℕ → List Command → (ℕ → List ℕ) → (W → Option (List ℕ)) → List W → List W → Outcome A → Type 0
MembersChangeNoVerdict {A} {W} p ports commands texts contents olds news o =
    (ran : IsWholeRun p ports commands texts contents olds news o)
    (other_commands : List Command) (other_texts : ℕ → List ℕ) (other_olds other_news : List W) (other : Outcome A)
    (also : IsWholeRun p ports other_commands other_texts contents other_olds other_news other)
    (group n : ℕ) (f : FilterPlan) (u v : View A)
    → HasGroupedView p group n f o u → HasGroupedView p group n f other v
    → HaveSameOwnInputs p n f (input_streams (commands_of commands) ran.frames) (input_streams (commands_of other_commands) also.frames)
    → HaveSamePoliceRecords u v

-- Holds if the run isolates each group: the group's own frames and commands decide the records of its filters. Each
-- filter's own frames and commands decide the filter's verdicts.
pub record IsolatesGroups {A W : Type 0} (p : Plan A) (ports : List ℕ) (commands : List Command) (texts : ℕ → List ℕ) (contents : W → Option (List ℕ)) (olds news : List W) (o : Outcome A) : Type 0 where
  pub members : IsolatesMembers p ports commands texts contents olds news o
  pub outsiders : OutsidersChangeNothing p ports commands texts contents olds news o
  pub verdicts : MembersChangeNoVerdict p ports commands texts contents olds news o
