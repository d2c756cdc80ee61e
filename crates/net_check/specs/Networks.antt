-- Networks of files: their parts, and their output.
use Rattle.std.specs.Prelude.{◌≡◌, ◌≢◌, ◌⊎◌, ◌==◌, ℕ, Bool, List, [], ◌∷◌, ◌++◌, if◌then◌else◌, map, slice_get, slice_index, length, sum_by, take, Option, Some, None, Result, Ok, Err, Vec, codes, decimal, string_bytes}
use Rattle.app_files.specs.declared.failed_file.Access.TheVariants.{Reading}
use Rattle.app_files.specs.FailedFiles.{IsErrorOf}
use Rattle.app_files.specs.Paths.{folder_of}
use Rattle.bridge_limits.specs.Members.{IsMember}
use Rattle.bridge_config.specs.Model.{Plan}
use Rattle.app_failure.specs.declared.fault.Failure.{Failure}
use Rattle.app_failure.specs.declared.fault.Failure.TheVariants as fault
use Rattle.app_failure.specs.Jobs.{Accepts, RefusesPlan}
use Rattle.app_failure.specs.Lines.{fault_line}
use Rattle.app_failure.specs.Status.{fault_status}
use Rattle.net_file.specs.declared.fault.NetFault.{NetFault}
use Rattle.net_file.specs.declared.fault.NetFault.TheVariants as net
use Rattle.net_file.specs.Document.{network_of_text}
use Rattle.net_file.specs.declared.link_row.LinkRow.{LinkRow}
use Rattle.net_file.specs.Lines.{fault_line as text_line}
use Rattle.net_file.specs.Model.{Bridge, Stream}
use Rattle.net_file.specs.Model as file
use Rattle.net_model.specs.declared.fault.NetworkFault.{NetworkFault}
use Rattle.net_model.specs.declared.fault.NetworkFault.TheVariants as network
use Rattle.net_model.specs.declared.links.Link.{Link}
use Rattle.net_model.specs.declared.links.StreamHop.{StreamHop}
use Rattle.net_model.specs.NetworkParts.{NetworkParts}
use Rattle.net_model.specs.Faults.{first_fault}
use Rattle.net_latency.specs.declared.bounds.QueueBound.{QueueBound}
use Rattle.net_check.specs.Naming.{bridge_name}
use Rattle.net_latency.specs.DeliveredStreams.{DeliversStreams}
use Rattle.net_latency.specs.Streams.{AreQueueBoundsOfPlans, stream_hop_value}
use Rattle.net_latency.specs.Talkers.{AreStreamLines, first_misfit}
use Rattle.net_check.specs.Warnings.{AreWarnings}

-- A NETWORK OF A TEXT

-- The link of a network file as a link of `net_model`.
abbrev pub link_row_value : LinkRow → Link
link_row_value r = record { one = record { bridge = r.one.0; port = r.one.1 }; other = record { bridge = r.other.0; port = r.other.1 }; delay = r.delay }

-- Holds if a network has these plans, one for each bridge of a file, and the file's links and streams.
pub record IsNetworkOfFile {A : Type 0} (f : file.Network) (plans : List (Plan A)) (n : NetworkParts A) : Type 0 where
  pub plans_are : n.plans ≡ plans
  pub each : length plans ≡ length f.bridges
  pub links : n.links ≡ map link_row_value f.links
  pub streams : map (λ (v : Vec StreamHop A). v.items) n.streams ≡ map (λ (s : Stream). map stream_hop_value s.hops) f.streams

-- OUTPUT

-- Number of hops of all streams, for the line of an accepted network.
abbrev pub count_hops : List Stream → ℕ
count_hops streams = sum_by (λ (s : Stream). length s.hops) streams

-- The line of an accepted network, with its line feed.
unfoldable pub accepted_line : file.Network → List ℕ
accepted_line f = codes "accepted: " ++ (decimal (length f.bridges) ++ (codes " bridges " ++ (decimal (length f.links) ++ (codes " links " ++ (decimal (length f.streams) ++ (codes " streams " ++ (decimal (count_hops f.streams) ++ codes " hops\n")))))))

-- Port `q` of bridge `b` as network files write it: the bridge's name, a dot, and the port's number.
abbrev pub port_text : List Bridge → ℕ → ℕ → List ℕ
port_text bridges b q = bridge_name bridges b ++ (codes "." ++ decimal q)

-- The number of the filter of stray frames, or `none` for frames without filter.
abbrev pub filter_text : Option ℕ → List ℕ
filter_text None = codes "none"
filter_text (Some n) = decimal n

-- The number of the filter that sends stray frames, or `none`, and `from`, the sending bridge's port on which the frames arrive.
abbrev pub sender_text : Option ℕ → ℕ → List ℕ
sender_text filter from = codes " sends " ++ (filter_text filter ++ (codes " from " ++ decimal from))

-- The start of the fault line for a link: fault name and link number.
abbrev pub link_fault_text : List ℕ → ℕ → List ℕ
link_fault_text name link = codes "network refused: " ++ (name ++ (codes " link " ++ decimal link))

-- The start of the fault line for a hop: fault name, stream number and hop number.
abbrev pub hop_fault_text : List ℕ → ℕ → ℕ → List ℕ
hop_fault_text name stream hop = codes "network refused: " ++ (name ++ (codes " stream " ++ (decimal stream ++ (codes " hop " ++ decimal hop))))

-- The fault line of a network, in which bridges have their names. It has no line feed.
unfoldable pub network_fault_line : List Bridge → NetworkFault → List ℕ
network_fault_line bridges (network.Unresolved link) = link_fault_text (codes "Unresolved") link
network_fault_line bridges (network.LinkTwice link end) = link_fault_text (codes "LinkTwice") link ++ (codes " " ++ port_text bridges end.bridge end.port)
network_fault_line bridges (network.SpeedsDiffer link) = link_fault_text (codes "SpeedsDiffer") link
network_fault_line bridges (network.NotProtected stream hop) = hop_fault_text (codes "NotProtected") stream hop
network_fault_line bridges (network.HopTwice stream hop) = hop_fault_text (codes "HopTwice") stream hop
network_fault_line bridges (network.NotClosed stream hop bridge port filter from) =
    hop_fault_text (codes "NotClosed") stream hop ++ (codes " " ++ (port_text bridges bridge port ++ sender_text filter from))
network_fault_line bridges (network.NotFed stream hop) = hop_fault_text (codes "NotFed") stream hop

-- Holds if the command's failure is `NoMemory`, or has the fault line of the first stream whose talker's period doesn't suit the plans.
abbrev pub RefusesPeriods : {A : Type 0} → file.Network → List (Plan A) → Failure → Type 0
RefusesPeriods f plans (fault.Network line) = (e : NetFault) × (first_misfit plans 1 f.streams ≡ Some e) × (string_bytes line ≡ text_line e)
RefusesPeriods f plans fault.NoMemory = Unit {0}
RefusesPeriods f plans e = ⊥

-- Holds if the failure is `NoMemory`, or its line names the network's first fault. If the network has no fault, the
-- line names the first talker's period that doesn't suit the plans.
abbrev pub RefusesNetwork : {A : Type 0} → file.Network → List (Plan A) → Failure → Type 0
RefusesNetwork {A} f plans (fault.Network line) = (n : NetworkParts A) × IsNetworkOfFile f plans n
    × (((e : NetworkFault) × (first_fault n ≡ Some e) × (string_bytes line ≡ network_fault_line f.bridges e))
    ⊎ ((first_fault n ≡ None) × RefusesPeriods f n.plans (fault.Network line)))
RefusesNetwork f plans fault.NoMemory = Unit {0}
RefusesNetwork f plans e = ⊥

-- Holds if `lines` are the lines of an accepted network: the numbers of its parts, then a line for each stream. `kept`
-- is true if all streams pass and meet their deadlines.
pub record AreLinesOfNetwork {A : Type 0} (f : file.Network) (n : NetworkParts A) (lines : List ℕ) (kept : Bool) : Type 0 where
  pub bounds : List (Vec QueueBound A)
  pub are_bounds : AreQueueBoundsOfPlans n.plans bounds
  pub streams : List ℕ
  pub are_lines : AreStreamLines n.plans n.links bounds f.links f.streams streams kept
  pub lines_are : lines ≡ accepted_line f ++ streams

-- Holds if `lines`, the warnings `told` and `kept` are the output of an accepted network. Its streams are closed, its talkers' periods
-- suit its plans, and each stream whose line has `arrives` is delivered.
pub record PrintsNetwork (A : Type 0) (lines told : List ℕ) (kept : Bool) : Type 0 where
  pub file : file.Network
  pub plans : List (Plan A)
  pub network : NetworkParts A
  pub is_made : IsNetworkOfFile file plans network
  pub accepted : first_fault network ≡ None
  pub suit : first_misfit network.plans 1 file.streams ≡ None
  pub are_lines : AreLinesOfNetwork file network lines kept
  pub delivered : DeliversStreams network are_lines.bounds file.streams
  pub are_told : AreWarnings file network told

-- THE FILES OF A NETWORK

-- The path of `file` in an optional folder; `file` itself without a folder.
abbrev pub in_folder : Option (List ℕ) → List ℕ → List ℕ
in_folder None file = file
in_folder (Some folder) file = folder ++ (codes "/" ++ file)

-- Holds if a path is absolute: its first octet is `/`.
abbrev pub is_absolute : List ℕ → Bool
is_absolute path = slice_index path 0 == 47

-- The path of `file`. A relative path counts from the folder of the file at `path`; an absolute path stays the same.
abbrev pub beside : List ℕ → List ℕ → List ℕ
beside path file = if is_absolute file then file else in_folder (folder_of path) file

-- Holds if network `f` is described by the first 1,048,577 octets of the file at `path`. `octets_at` gives the octets of a file; if it
-- gives `None`, any network is allowed.
abbrev pub IsNetworkAt : (List ℕ → Option (List ℕ)) → List ℕ → file.Network → Type 0
IsNetworkAt octets_at path f = (text : List ℕ) → octets_at path ≡ Some text → network_of_text (take 1048577 text) ≡ Ok f

-- Holds if `plan` is the accepted plan of the first 1,048,577 octets of the file at `path`. If `octets_at` gives no octets of the file,
-- any plan is allowed.
abbrev pub IsPlanAt : {A : Type 0} → (List ℕ → Option (List ℕ)) → List ℕ → Plan A → Type 0
IsPlanAt octets_at path plan = (text : List ℕ) → octets_at path ≡ Some text → Accepts (take 1048577 text) plan

-- Holds if `new` has the plans `old`, followed by an accepted plan. It is the plan of the file at `path`. If `octets_at` gives no octets
-- of this file, any plan is allowed.
abbrev pub AddsPlanAt : {A : Type 0} → (List ℕ → Option (List ℕ)) → List ℕ → List (Plan A) → List (Plan A) → Type 0
AddsPlanAt {A} octets_at path old new = (p : Plan A) × (new ≡ old ++ p ∷ []) × IsPlanAt octets_at path p

-- Holds if each plan is the plan of the bridge with its index (`IsPlanAt`). The network file at `path` names the plan's file.
abbrev pub ArePlansAt : {A : Type 0} → (List ℕ → Option (List ℕ)) → List ℕ → List Bridge → List (Plan A) → Type 0
ArePlansAt {A} octets_at path bridges plans =
    (i : ℕ) (b : Bridge) (p : Plan A) → slice_get bridges i ≡ Some b → slice_get plans i ≡ Some p → IsPlanAt octets_at (beside path b.plan) p

-- The paths of a network's files: the network file and the bridges' plans.
abbrev pub paths_of : List ℕ → List Bridge → List (List ℕ)
paths_of path bridges = path ∷ map (λ (b : Bridge). beside path b.plan) bridges

-- THE FAILURES OF A COMMAND

-- Holds if the command's failure is `NoMemory`, or has the fault line of the text fault `e`, which isn't `NoMemory`.
abbrev pub SaysText : NetFault → Failure → Type 0
SaysText e (fault.Network line) = (e ≢ net.NoMemory) × (string_bytes line ≡ text_line e)
SaysText e fault.NoMemory = Unit {0}
SaysText e f = ⊥

-- Holds if `line` is the fault line of some text that describes no network.
abbrev pub RefusesText : List ℕ → Type 0
RefusesText line = (text : List ℕ) × (e : NetFault) × (network_of_text text ≡ Err e) × (line ≡ text_line e)

-- Holds if the command's failure is `NoMemory`, or `reading` is a fault and the command's failure has its fault line.
abbrev pub RefusesTextBy : Result file.Network NetFault → Failure → Type 0
RefusesTextBy reading (fault.Network line) = (e : NetFault) × (reading ≡ Err e) × (string_bytes line ≡ text_line e)
RefusesTextBy reading fault.NoMemory = Unit {0}
RefusesTextBy reading f = ⊥

-- Holds if the failure is why the file at `path` gives no network. It is a file error with this path, the fault line of a refused text, or
-- `NoMemory`.
abbrev pub EndsText : List ℕ → Failure → Type 0
EndsText path (fault.File e) = IsErrorOf Reading path e
EndsText path (fault.Network line) = RefusesText (string_bytes line)
EndsText path fault.NoMemory = Unit {0}
EndsText path f = ⊥

-- The lines for a refused plan: a line with the bridge's name, then the plan's own fault line, `line`.
unfoldable pub plan_lines : List ℕ → List ℕ → List ℕ
plan_lines name line = codes "network refused: Plan " ++ (name ++ (codes "\n" ++ line))

-- Holds if the command's failure is `NoMemory`, or has the lines for a plan of bridge `name` whose failure `e` has exit status 1.
abbrev pub SaysPlan : List ℕ → Failure → Failure → Type 0
SaysPlan name e (fault.Network line) = (fault_status e ≡ 1) × (string_bytes line ≡ plan_lines name (fault_line e))
SaysPlan name e fault.NoMemory = Unit {0}
SaysPlan name e f = ⊥

-- Holds if `lines` are the lines for some refused plan of bridge `b`. The plan's text has a fault, or the plan doesn't isolate each of its
-- protected filters.
abbrev pub RefusesPlanOf : (A : Type 0) → Bridge → List ℕ → Type 0
RefusesPlanOf A b lines = (text : List ℕ) × (e : Failure) × RefusesPlan A text e × (fault_status e ≡ 1) × (lines ≡ plan_lines b.name (fault_line e))

-- Holds if the command's failure is `NoMemory`, or has the lines for the plan of bridge `name`, whose text `text` is refused.
abbrev pub RefusesPlanBy : (A : Type 0) → List ℕ → List ℕ → Failure → Type 0
RefusesPlanBy A name text (fault.Network line) = (e : Failure) × RefusesPlan A text e × (fault_status e ≡ 1) × (string_bytes line ≡ plan_lines name (fault_line e))
RefusesPlanBy A name text fault.NoMemory = Unit {0}
RefusesPlanBy A name text f = ⊥

-- Holds if the failure is why bridge `b` of the network file at `path` has no accepted plan. It is an error of the plan's file, a refused
-- plan's lines, or `NoMemory`.
abbrev pub EndsPlanOf : (A : Type 0) → List ℕ → Bridge → Failure → Type 0
EndsPlanOf A path b (fault.File e) = IsErrorOf Reading (beside path b.plan) e
EndsPlanOf A path b (fault.Network line) = RefusesPlanOf A b (string_bytes line)
EndsPlanOf A path b fault.NoMemory = Unit {0}
EndsPlanOf A path b f = ⊥

-- Holds if failure `f` is why one of these bridges has no accepted plan. `path` is the network file's path.
abbrev pub EndsPlans : (A : Type 0) → List ℕ → List Bridge → Failure → Type 0
EndsPlans A path bridges f = (b : Bridge) × IsMember b bridges × EndsPlanOf A path b f

-- Holds if failure `f` can end a command over the network file at `path`. It is a failure of the network file, of a bridge's plan, of the
-- network, or `NoMemory`.
abbrev pub EndsNetwork : (A : Type 0) → List ℕ → Failure → Type 0
EndsNetwork A path f =
    (f ≡ fault.NoMemory)
    ⊎ (EndsText path f
    ⊎ ((n : file.Network) × (EndsPlans A path n.bridges f ⊎ ((plans : List (Plan A)) × RefusesNetwork n plans f))))
