-- Complete runs of networks: rounds until no input changes.
use Rattle.std.specs.Prelude.{◌≡◌, ◌≢◌, ◌<◌, ◌≤◌, ℕ, zero, suc, Some, None, List, [], ◌∷◌, length, map, slice_get, Vec, nat_eq}
use Rattle.std.specs.Map.{lookup}
use Rattle.bridge_limits.specs.Members.{IsMember}
use Rattle.bridge_capture.specs.Grammar.{CapturedFrame, IsCapture, AtEnd}
use Rattle.bridge_capture.specs.Memory.{MemoryDevice}
use Rattle.bridge_capture.specs.WrittenCapture.{written_text}
use Rattle.bridge_config.specs.Model.{Plan}
use Rattle.bridge_config.specs.Rules.{find_port}
use Rattle.bridge_semantics.specs.declared.outcome.Outcome.{Outcome}
use Rattle.bridge_semantics.specs.declared.outcome.View.{View}
use Rattle.bridge_semantics.specs.Events.{Arrived, Cleared, Event}
use Rattle.bridge_semantics.specs.Merge.{Input, commands_of}
use Rattle.bridge_semantics.specs.Runs.{AreSameViews}
use Rattle.bridge_core.specs.WholeRuns.{ArePortNumbers}
use Rattle.net_model.specs.declared.links.StreamHop.{StreamHop}
use Rattle.net_model.specs.Alone.{HaveSameExternalInputs, IsAlone}
use Rattle.net_model.specs.Networks.{Hop, IsHop, IsNetworkRun, sender}
use Rattle.net_model.specs.NetworkParts.{NetworkParts, link_value, network_value, stream_value}
use Rattle.bridge_capture.specs.declared.fault.RunFault.{RunFault}
use Rattle.bridge_capture.specs.declared.fault.RunFault.TheVariants as run
use Rattle.net_run.specs.declared.rounds.RoundsFault.{RoundsFault}
use Rattle.net_run.specs.declared.rounds.RoundsFault.TheVariants as fault
use Rattle.net_run.specs.declared.rounds.BridgeResult.{BridgeResult}
use Rattle.net_run.specs.declared.bridge_run.BridgeInput.{BridgeInput}
use Rattle.net_run.specs.BridgeRuns.{AreUpToDate, AreGiven, HasCompleteRun, HaveRun, IsInitialRun, IsFirstOutdated, IsBridgeInput, BridgeRunState, StopsBridge, sink_octets}

-- Holds if the inputs from outside suit each of these plans.
pub record AreBridgeInputs {A : Type 0} (plans : List (Plan A)) (came : List (BridgeInput A)) : Type 0 where
  pub many : length came ≡ length plans
  pub each : (b : ℕ) (p : Plan A) (c : BridgeInput A) → slice_get plans b ≡ Some p → slice_get came b ≡ Some c → IsBridgeInput p c

-- Holds if `xs` has the bridges of network `n` before the first round, with the inputs `came` from outside.
pub record AreInitialRuns {A : Type 0} (n : NetworkParts A) (came : List (BridgeInput A)) (xs : List (BridgeRunState A)) : Type 0 where
  pub many : length xs ≡ length n.plans
  pub each : (b : ℕ) (p : Plan A) (c : BridgeInput A) (x : BridgeRunState A) → slice_get n.plans b ≡ Some p → slice_get came b ≡ Some c → slice_get xs b ≡ Some x → IsInitialRun p n.links b c x

-- The commands of the bridge with index `b` as inputs, newest first; the empty list if `came` lacks this bridge.
abbrev pub commands_of_bridge : {A : Type 0} → List (BridgeInput A) → ℕ → List Input
commands_of_bridge [] b = []
commands_of_bridge (c ∷ came) zero = commands_of c.commands.items
commands_of_bridge (c ∷ came) (suc b) = commands_of_bridge came b

-- Holds if `o b` is the result of the run of each bridge `b`, an index from 0 in the list `settled`.
abbrev pub AreOutcomes : {A : Type 0} → List (BridgeResult A) → (ℕ → Outcome A) → Type 0
AreOutcomes {A} settled o = (b : ℕ) (s : BridgeResult A) → slice_get settled b ≡ Some s → o b ≡ s.outcome

-- Holds if a received frame has at most as many captured octets as its length.
abbrev pub IsWithinLength : Event → Type 0
IsWithinLength (Arrived a) = length a.octets ≤ a.len
IsWithinLength (Cleared clear n) = Unit {0}

-- Holds if `settled` is the result of a complete run of the network. Open ports read their captures in `came` to the end, and all outputs
-- are written.
--
-- No received frame has more captured octets than its length. Field `frames` has the captured frames by bridge and port.
pub record RunsNetwork {A : Type 0} (n : NetworkParts A) (came : List (BridgeInput A)) (settled : List (BridgeResult A)) : Type 0 where
  pub many : length settled ≡ length n.plans
  pub frames : ℕ → ℕ → List CapturedFrame
  pub reads : (b i q : ℕ) (p : Plan A) (ports : List ℕ) (c : BridgeInput A) (text : Vec ℕ A) → slice_get n.plans b ≡ Some p → ArePortNumbers p ports → slice_get ports i ≡ Some q
      → sender (map link_value n.links) b q ≡ None → slice_get came b ≡ Some c → slice_get c.captures.items i ≡ Some text → IsCapture text.items (frames b q) AtEnd
  pub others : (b q : ℕ) (p : Plan A) → slice_get n.plans b ≡ Some p → find_port p.ports q ≡ None → frames b q ≡ []
  pub run : (o : ℕ → Outcome A) → AreOutcomes settled o → IsNetworkRun (network_value n) (commands_of_bridge came) frames o
  pub lengths : (o : ℕ → Outcome A) (are : AreOutcomes settled o) (b : ℕ) (p : Plan A) (x : Input) → slice_get n.plans b ≡ Some p → IsMember x ((run o are).inputs b) → IsWithinLength x.event
  pub taps : (o : ℕ → Outcome A) (are : AreOutcomes settled o) (b i q : ℕ) (p : Plan A) (ports : List ℕ) (s : BridgeResult A) (tap : MemoryDevice) → slice_get n.plans b ≡ Some p → ArePortNumbers p ports → slice_get ports i ≡ Some q
      → slice_get settled b ≡ Some s → slice_get s.taps.items i ≡ Some tap → tap.octets ≡ written_text ((run o are).left b q)

-- Holds if the hops of every stream have the records that the stream's own inputs produce on an otherwise idle network.
-- The statement covers each complete run (RunsNetwork) with the results `settled`.
abbrev pub IsolatesStreams : {A : Type 0} → NetworkParts A → List (BridgeInput A) → List (BridgeResult A) → Type 0
IsolatesStreams {A} n came settled =
    (ran : RunsNetwork n came settled) (o : ℕ → Outcome A) (stream : Vec StreamHop A) → AreOutcomes settled o → IsMember stream n.streams
    → IsAlone (network_value n) (commands_of_bridge came) ran.frames (stream_value stream.items) (λ (h : Hop A). lookup (nat_eq h.number) (o h.bridge).filters.items)

-- Holds if a stream's hops have equal records in any two complete network runs whose outside inputs for this stream are
-- equal. All other frames and commands may differ.
abbrev pub OthersChangeNothing : {A : Type 0} → NetworkParts A → List (BridgeInput A) → List (BridgeResult A) → Type 0
OthersChangeNothing {A} n came settled =
    (ran : RunsNetwork n came settled) (o : ℕ → Outcome A) → AreOutcomes settled o
    → (other_came : List (BridgeInput A)) (other : List (BridgeResult A)) (also : RunsNetwork n other_came other) (r : ℕ → Outcome A) → AreOutcomes other r
    → (stream : Vec StreamHop A) (h : Hop A) (u v : View A) → IsMember stream n.streams
    → HaveSameExternalInputs (network_value n) (stream_value stream.items) (commands_of_bridge came) ran.frames (commands_of_bridge other_came) also.frames
    → IsHop (network_value n) (stream_value stream.items) h
    → lookup (nat_eq h.number) (o h.bridge).filters.items ≡ Some u → lookup (nat_eq h.number) (r h.bridge).filters.items ≡ Some v
    → AreSameViews u v

-- Holds if `settled` has the results of the bridges `xs`: each bridge's outcome, and the captures of the frames that the bridge sent.
pub record AreBridgeResults {A : Type 0} (xs : List (BridgeRunState A)) (settled : List (BridgeResult A)) : Type 0 where
  pub outcomes : map (λ (s : BridgeResult A). Some s.outcome) settled ≡ map (λ x. x.outcome) xs
  pub taps : map (λ (s : BridgeResult A). sink_octets s.taps.items) settled ≡ map (λ x. x.taps) xs

-- Holds if the result of each bridge has as many captures of sent frames as the bridge's plan has ports.
abbrev pub HaveTaps : {A : Type 0} → List (Plan A) → List (BridgeResult A) → Type 0
HaveTaps {A} plans settled = (b : ℕ) (p : Plan A) (s : BridgeResult A) → slice_get plans b ≡ Some p → slice_get settled b ≡ Some s → length s.taps.items ≡ length p.ports

-- Holds if each bridge of `xs` with an index below `b` has a complete run over its input captures.
abbrev pub HaveCompleteRunsBefore : {A : Type 0} → List (BridgeRunState A) → ℕ → Type 0
HaveCompleteRunsBefore {A} xs b = (c : ℕ) → c < b → (y : BridgeRunState A) × (slice_get xs c ≡ Some y) × HasCompleteRun y

-- Holds if the fault of a network run names bridge `b`, which stopped with fault `e`. If memory ran out for the bridge,
-- both faults are `NoMemory`.
abbrev pub IsFaultAt : ℕ → RunFault → RoundsFault → Type 0
IsFaultAt b e (fault.Bridge c f) = (c ≡ b) × (f ≡ e) × (f ≢ run.NoMemory)
IsFaultAt b e (fault.NotSettled c q) = ⊥
IsFaultAt b e fault.NoMemory = e ≡ run.NoMemory

-- Holds if a round of the bridges `xs` stops with this fault. The named bridge is the first that stops over its captures, or memory runs out.
abbrev pub StopsRound : {A : Type 0} → List (BridgeRunState A) → RoundsFault → Type 0
StopsRound {A} xs (fault.Bridge b e) = (x : BridgeRunState A) × (slice_get xs b ≡ Some x) × StopsBridge x.plan x.ports x.commands x.texts e × (e ≢ run.NoMemory) × HaveCompleteRunsBefore xs b
StopsRound xs (fault.NotSettled b q) = ⊥
StopsRound xs fault.NoMemory = Unit {0}

-- Holds if `xs` has the bridges before round `k`, counted from 0. Before round 0, no frame has arrived over a link;
-- later, linked ports have the frames of the round before.
abbrev pub AreRunsBeforeRound : {A : Type 0} → NetworkParts A → List (BridgeInput A) → ℕ → List (BridgeRunState A) → Type 0
AreRunsBeforeRound n came zero xs = AreInitialRuns n came xs
AreRunsBeforeRound {A} n came (suc k) xs = (before : List (BridgeRunState A)) × (ran : List (BridgeRunState A)) × AreRunsBeforeRound n came k before × HaveRun before ran × AreGiven ran xs

-- Holds if after the round with index `k`, port `q` of bridge `b` is the first whose input changed.
abbrev pub IsUnsettledPort : {A : Type 0} → NetworkParts A → List (BridgeInput A) → ℕ → ℕ → ℕ → Type 0
IsUnsettledPort {A} n came k b q = (before : List (BridgeRunState A)) × (ran : List (BridgeRunState A)) × AreRunsBeforeRound n came k before × HaveRun before ran × IsFirstOutdated ran b q

-- Holds if each round with an index below `k` changed the input of some port, so that another round was needed.
abbrev pub AreUnsettledBefore : {A : Type 0} → NetworkParts A → List (BridgeInput A) → ℕ → Type 0
AreUnsettledBefore n came k = (j : ℕ) → j < k → (b : ℕ) × (q : ℕ) × IsUnsettledPort n came j b q

-- Holds if round `rounds`, counted from 1, is the first after which each link delivers exactly the frames that its sender sent.
pub record SettlesIn {A : Type 0} (n : NetworkParts A) (came : List (BridgeInput A)) (rounds : ℕ) : Type 0 where
  pub last : ℕ
  pub number : rounds ≡ suc last
  pub before : List (BridgeRunState A)
  pub ran : List (BridgeRunState A)
  pub begins : AreRunsBeforeRound n came last before
  pub runs : HaveRun before ran
  pub fed : AreUpToDate ran
  pub earlier : AreUnsettledBefore n came last

-- Holds if a network run of at most `rounds` rounds stops with this fault. A bridge stopped, an input still changed after the last round, or memory ran out.
abbrev pub StopsNetworkRun : {A : Type 0} → NetworkParts A → List (BridgeInput A) → ℕ → RoundsFault → Type 0
StopsNetworkRun {A} n came rounds (fault.Bridge b e) = (k : ℕ) × (xs : List (BridgeRunState A)) × (k < rounds) × AreRunsBeforeRound n came k xs × StopsRound xs (fault.Bridge b e)
StopsNetworkRun n came zero (fault.NotSettled b q) = (b ≡ 0) × (q ≡ 0)
StopsNetworkRun n came (suc k) (fault.NotSettled b q) = IsUnsettledPort n came k b q
StopsNetworkRun n came rounds fault.NoMemory = Unit {0}
