-- Bridges of a network between two rounds: their inputs, sent frames and results, and the changes of a round.
use Rattle.std.specs.Prelude.{◌≡◌, ◌≢◌, ◌<◌, ℕ, All, Option, Some, None, is_some, option_map, nat_eq, List, [], ◌∷◌, length, map, slice_get, Vec, if◌then◌else◌}
use Rattle.bridge_capture.specs.declared.capture_fault.CaptureFault.TheVariants as faults
use Rattle.bridge_capture.specs.Grammar.{CapturedFrame, IsCapture, AtEnd}
use Rattle.bridge_capture.specs.Memory.{MemoryDevice}
use Rattle.bridge_capture.specs.WrittenCapture.{written_text}
use Rattle.bridge_config.specs.declared.command.Command.{Command}
use Rattle.bridge_config.specs.Commands.{AreCommands}
use Rattle.bridge_config.specs.Model.{Plan}
use Rattle.bridge_config.specs.Rules.{find_port}
use Rattle.bridge_capture.specs.declared.fault.RunFault.{RunFault}
use Rattle.bridge_capture.specs.declared.fault.RunFault.TheVariants as run
use Rattle.bridge_semantics.specs.declared.outcome.Outcome.{Outcome}
use Rattle.bridge_semantics.specs.Merge.{Input, IsMerged, input_events, commands_of, input_streams}
use Rattle.bridge_semantics.specs.Outputs.{EndsRun}
use Rattle.bridge_core.specs.CaptureWriters.{FitsRecord}
use Rattle.bridge_core.specs.WholeRuns.{ArePortNumbers, StopsRun}
use Rattle.net_model.specs.Networks as networks
use Rattle.net_model.specs.NetworkParts.{link_value, sender_value}
use Rattle.net_model.specs.declared.links.Link.{Link}
use Rattle.net_run.specs.declared.bridge_run.BridgeInput.{BridgeInput}
use Rattle.net_model.specs.declared.sender.Sender.{Sender}
use Rattle.net_run.specs.DelayedCapture.{delayed}

-- Holds if the octets `tap` are the capture of these frames, and each frame fits its record.
pub record IsCaptureOfFrames (frames : List CapturedFrame) (tap : List ℕ) : Type 0 where
  pub is : tap ≡ written_text frames
  pub fits : All FitsRecord frames

-- Holds if a bridge has a complete run over these captures, one for each port, with sent captures `taps` and result `o`.
pub record RunsBridge {A : Type 0} (p : Plan A) (ports : List ℕ) (commands : List Command) (texts taps : List (List ℕ)) (o : Outcome A) : Type 0 where
  pub frames : ℕ → List CapturedFrame
  pub inputs : List Input
  pub left : ℕ → List CapturedFrame
  pub reads : (i q : ℕ) (text : List ℕ) → slice_get ports i ≡ Some q → slice_get texts i ≡ Some text → IsCapture text (frames q) AtEnd
  pub others : (q : ℕ) → find_port p.ports q ≡ None → frames q ≡ []
  pub merged : IsMerged (input_streams (commands_of commands) frames) inputs
  pub ends : EndsRun p (input_events inputs) left o
  pub written : (i q : ℕ) (tap : List ℕ) → slice_get ports i ≡ Some q → slice_get taps i ≡ Some tap → IsCaptureOfFrames (left q) tap

-- The capture of port `q` in `texts`: it has the index that `q` has in the list of ports. Empty if one of the lists lacks the port.
abbrev pub text_of_port : List ℕ → List (List ℕ) → ℕ → List ℕ
text_of_port [] texts q = []
text_of_port (p ∷ ports) [] q = []
text_of_port (p ∷ ports) (t ∷ texts) q = if nat_eq p q then t else text_of_port ports texts q

-- Holds if a run over captures of `ports` in memory stops with this fault. A capture is refused for another cause than a failed read, or
-- memory runs out.
abbrev pub StopsBridge : {A : Type 0} → Plan A → List ℕ → List Command → List (List ℕ) → RunFault → Type 0
StopsBridge p ports commands texts (run.Capture port fault) =
    (fault ≢ faults.Read) × (rests : ℕ → Option (List ℕ)) × (olds : List MemoryDevice) × (news : List MemoryDevice)
    × StopsRun p ports commands (text_of_port ports texts) rests (λ d. Some d.octets) (λ d. d.is_broken) olds news (run.Capture port fault)
StopsBridge p ports commands texts (run.Write port) = ⊥
StopsBridge p ports commands texts run.NoMemory = Unit {0}

-- The fault of a run whose outputs are sinks in memory. A write fault becomes `NoMemory`, because such a sink fails
-- only if memory runs out.
abbrev pub as_memory_fault : RunFault → RunFault
as_memory_fault (run.Write port) = run.NoMemory
as_memory_fault (run.Capture port fault) = run.Capture port fault
as_memory_fault run.NoMemory = run.NoMemory

-- The octets of captures in memory, one list for each capture.
abbrev pub text_octets : {A : Type 0} → List (Vec ℕ A) → List (List ℕ)
text_octets {A} texts = map (λ (v : Vec ℕ A). v.items) texts

-- The octets of sinks in memory, one list for each sink.
abbrev pub sink_octets : List MemoryDevice → List (List ℕ)
sink_octets taps = map (λ (d : MemoryDevice). d.octets) taps

-- Converts the senders of a bridge's ports from the form of the program to the form of these definitions.
abbrev pub sender_values : List (Option Sender) → List (Option networks.Sender)
sender_values senders = map (option_map sender_value) senders

-- A bridge in a network run: plan, commands and ports. Each port has its sender, its input capture and its sent capture. The result exists if the bridge has
-- run.
pub record BridgeRunState (A : Type 0) : Type 0 where
  pub plan : Plan A
  pub commands : List Command
  pub ports : List ℕ
  pub senders : List (Option networks.Sender)
  pub texts : List (List ℕ)
  pub taps : List (List ℕ)
  pub outcome : Option (Outcome A)

-- Holds if the bridge has a complete run over the input captures of its ports.
abbrev pub HasCompleteRun : {A : Type 0} → BridgeRunState A → Type 0
HasCompleteRun {A} x = (taps : List (List ℕ)) × (o : Outcome A) × RunsBridge x.plan x.ports x.commands x.texts taps o

-- Holds if a bridge has one input capture for each port, and its result, if any, is the result of a run over these captures.
pub record IsBridgeRun {A : Type 0} (s : BridgeRunState A) : Type 0 where
  pub numbers : ArePortNumbers s.plan s.ports
  pub commands : AreCommands s.plan s.commands
  pub sent : length s.senders ≡ length s.ports
  pub texts : length s.texts ≡ length s.ports
  pub tapped : (o : Outcome A) → s.outcome ≡ Some o → length s.taps ≡ length s.ports
  pub runs : (o : Outcome A) → s.outcome ≡ Some o → RunsBridge s.plan s.ports s.commands s.texts s.taps o

-- The input captures of the open ports, and no octets for each linked port.
abbrev pub open_texts : List (Option networks.Sender) → List (List ℕ) → List (List ℕ)
open_texts [] texts = []
open_texts (s ∷ senders) [] = []
open_texts (s ∷ senders) (t ∷ texts) = (if is_some s then [] else t) ∷ open_texts senders texts

-- The part of a bridge that no round changes. Invariants of the rounds compare bridges by it.
pub record ConstantPart (A : Type 0) : Type 0 where
  pub plan : Plan A
  pub commands : List Command
  pub ports : List ℕ
  pub senders : List (Option networks.Sender)
  pub outside : List (List ℕ)

-- Returns the part of a bridge that no round changes.
abbrev pub constant_part : {A : Type 0} → BridgeRunState A → ConstantPart A
constant_part s = record { plan = s.plan; commands = s.commands; ports = s.ports; senders = s.senders; outside = open_texts s.senders s.texts }

-- Holds if the inputs of a bridge from outside suit its plan: commands in order, and one capture for each port.
pub record IsBridgeInput {A : Type 0} (p : Plan A) (c : BridgeInput A) : Type 0 where
  pub commands : AreCommands p c.commands.items
  pub captures : length c.captures.items ≡ length p.ports

-- Holds if each linked port with an index below `n` has a capture without frames.
abbrev pub NoInputBeforeIndex : ℕ → List (Option networks.Sender) → List (List ℕ) → Type 0
NoInputBeforeIndex n senders texts = (i : ℕ) (s : networks.Sender) (text : List ℕ) → i < n → slice_get senders i ≡ Some (Some s) → slice_get texts i ≡ Some text → text ≡ written_text []

-- Holds if each linked port has a capture without frames.
abbrev pub NoInput : List (Option networks.Sender) → List (List ℕ) → Type 0
NoInput senders texts = (i : ℕ) (s : networks.Sender) (text : List ℕ) → slice_get senders i ≡ Some (Some s) → slice_get texts i ≡ Some text → text ≡ written_text []

-- Holds if `x` is bridge `b` before the first round: its linked ports have captures without frames, and it hasn't run.
pub record IsInitialRun {A : Type 0} (p : Plan A) (links : List Link) (b : ℕ) (c : BridgeInput A) (x : BridgeRunState A) : Type 0 where
  pub plan : x.plan ≡ p
  pub commands : x.commands ≡ c.commands.items
  pub numbers : ArePortNumbers p x.ports
  pub senders : x.senders ≡ map (networks.sender (map link_value links) b) x.ports
  pub many : length x.texts ≡ length x.ports
  pub from_outside : open_texts x.senders x.texts ≡ open_texts x.senders (text_octets c.captures.items)
  pub over_links : NoInput x.senders x.texts
  pub idle : x.outcome ≡ None

-- ARRIVALS OVER LINKS

-- Holds if `text` has the frames of the sent capture `tap`, each delayed by `delay` ns, but at most to the end of time.
abbrev pub IsDelayedCapture : ℕ → List ℕ → List ℕ → Type 0
IsDelayedCapture delay tap text = (frames : List CapturedFrame) → IsCaptureOfFrames frames tap → text ≡ written_text (map (delayed delay) frames)

-- The capture of the frames that port `q` of an optional bridge sent; empty without a bridge.
abbrev pub sent_capture : {A : Type 0} → Option (BridgeRunState A) → ℕ → List ℕ
sent_capture None q = []
sent_capture (Some s) q = text_of_port s.ports s.taps q

-- Holds if the input of the port with index `i` is the delayed capture of its sender, or the port is open.
abbrev pub IsPortUpToDate : {A : Type 0} → List (BridgeRunState A) → BridgeRunState A → ℕ → Type 0
IsPortUpToDate {A} xs x i = (s : networks.Sender) (text : List ℕ) → slice_get x.senders i ≡ Some (Some s) → slice_get x.texts i ≡ Some text
    → IsDelayedCapture s.delay (sent_capture (slice_get xs s.from.bridge) s.from.port) text

-- Holds if all ports of bridge `b` are up to date: each is open, or has the frames that its sender sent last.
abbrev pub IsBridgeUpToDate : {A : Type 0} → List (BridgeRunState A) → ℕ → Type 0
IsBridgeUpToDate {A} xs b = (i : ℕ) (x : BridgeRunState A) → slice_get xs b ≡ Some x → i < length x.ports → IsPortUpToDate xs x i

-- Holds if the ports of all bridges are up to date.
abbrev pub AreUpToDate : {A : Type 0} → List (BridgeRunState A) → Type 0
AreUpToDate {A} xs = (b : ℕ) → IsBridgeUpToDate xs b

-- Holds if a bridge has a result: it has run over its inputs.
abbrev pub HasRun : {A : Type 0} → BridgeRunState A → Type 0
HasRun {A} x = (o : Outcome A) × (x.outcome ≡ Some o)

-- ROUNDS

-- The input captures of a bridge's ports, by rising number.
abbrev pub run_texts : {A : Type 0} → BridgeRunState A → List (List ℕ)
run_texts x = x.texts

-- The captures of the frames that a bridge's ports sent, by rising number.
abbrev pub run_captures : {A : Type 0} → BridgeRunState A → List (List ℕ)
run_captures x = x.taps

-- Holds if the bridges `after` are the bridges `before` after they ran: each has a result. Plans, commands, ports and inputs are unchanged.
pub record HaveRun {A : Type 0} (before after : List (BridgeRunState A)) : Type 0 where
  pub same : map constant_part after ≡ map constant_part before
  pub texts : map run_texts after ≡ map run_texts before
  pub kept : All IsBridgeRun after
  pub runs : All HasRun after

-- Holds if the bridges `given` are the bridges `ran` after delivery: each linked port has the frames that its sender in
-- `ran` sent.
pub record AreGiven {A : Type 0} (ran given : List (BridgeRunState A)) : Type 0 where
  pub same : map constant_part given ≡ map constant_part ran
  pub each : (b i : ℕ) (x : BridgeRunState A) → slice_get given b ≡ Some x → i < length x.ports → IsPortUpToDate ran x i

-- Holds if delivery has reached port index `i` of bridge `b`: earlier bridges, and earlier ports of `b`, have the frames sent to them.
pub record AreGivenBeforePort {A : Type 0} (ran given : List (BridgeRunState A)) (b i : ℕ) : Type 0 where
  pub same : map constant_part given ≡ map constant_part ran
  pub taps : map run_captures given ≡ map run_captures ran
  pub bridges : (c j : ℕ) (x : BridgeRunState A) → c < b → slice_get given c ≡ Some x → j < length x.ports → IsPortUpToDate ran x j
  pub ports : (j : ℕ) (x : BridgeRunState A) → j < i → slice_get given b ≡ Some x → IsPortUpToDate ran x j

-- Holds if the port with index `i` of a bridge has other frames than were sent to it.
pub record IsPortOutdated {A : Type 0} (xs : List (BridgeRunState A)) (x : BridgeRunState A) (i : ℕ) : Type 0 where
  pub sender : networks.Sender
  pub linked : slice_get x.senders i ≡ Some (Some sender)
  pub text : List ℕ
  pub came : slice_get x.texts i ≡ Some text
  pub sent : List ℕ
  pub later : IsDelayedCapture sender.delay (sent_capture (slice_get xs sender.from.bridge) sender.from.port) sent
  pub other : text ≢ sent

-- Holds if port `q` is the first outdated port of bridge `b`: all earlier ports are up to date.
pub record IsFirstOutdatedPort {A : Type 0} (xs : List (BridgeRunState A)) (b q : ℕ) : Type 0 where
  pub bridge : BridgeRunState A
  pub there : slice_get xs b ≡ Some bridge
  pub place : ℕ
  pub port : slice_get bridge.ports place ≡ Some q
  pub unfed : IsPortOutdated xs bridge place
  pub before : (i : ℕ) → i < place → IsPortUpToDate xs bridge i

-- Holds if bridge `b` is the first with an outdated port, and `q` is its first one.
pub record IsFirstOutdated {A : Type 0} (xs : List (BridgeRunState A)) (b q : ℕ) : Type 0 where
  pub port : IsFirstOutdatedPort xs b q
  pub before : (c : ℕ) → c < b → IsBridgeUpToDate xs c

-- Holds if a round changed an input. Each bridge has run, port `q` of bridge `b` was the first outdated one, and each linked port got its frames.
pub record NeedsRound {A : Type 0} (before after : List (BridgeRunState A)) (b q : ℕ) : Type 0 where
  pub between : List (BridgeRunState A)
  pub ran : HaveRun before between
  pub first : IsFirstOutdated between b q
  pub given : AreGiven between after
