-- Network runs in which warnings and losses are errors: names of hops, lines of lost and late streams, and the exit status.
use Rattle.std.specs.Prelude.{◌≡◌, ℕ, Bool, true, false, ◌||◌, not, nat_eq, List, [], ◌∷◌, ◌++◌, None, Option, length, codes, decimal, string_bytes, if◌then◌else◌}
use Rattle.bridge_text.specs.Growth.{HasGrown}
use Rattle.bridge_config.specs.Model.{Plan}
use Rattle.net_file.specs.Model.{Bridge, Stream}
use Rattle.net_file.specs.Model as file
use Rattle.net_model.specs.declared.links.Link.{Link}
use Rattle.net_model.specs.Faults.{first_fault}
use Rattle.net_model.specs.NetworkParts.{NetworkParts}
use Rattle.net_check.specs.Naming.{bridge_name}
use Rattle.net_check.specs.Networks.{IsNetworkOfFile}
use Rattle.net_latency.specs.Talkers.{first_misfit}
use Rattle.net_check.specs.Warnings.{AreWarnings}
use Rattle.net_run.specs.declared.rounds.BridgeResult.{BridgeResult}
use Rattle.net_run.specs.declared.bridge_run.BridgeInput.{BridgeInput}
use Rattle.net_run.specs.Rounds.{SettlesIn}
use Rattle.net_report.specs.declared.copy_counting.HopRun.{HopRun}
use Rattle.net_report.specs.declared.losing.HopLosses.{HopLosses}
use Rattle.net_report.specs.Hops.{AreOnwardPorts}
use Rattle.net_report.specs.Losing.{fault_lines}
use Rattle.net_report.specs.Tables.{AreDelays}
use Rattle.net_report.specs.HopCounts.{counts_by_ports}
use Rattle.app_networks.specs.Counted.{IsStreamCount}
use Rattle.app_networks.specs.Folders.{IsLine, IsIsolatedRun}

-- True if a text of warnings or of losses isn't empty.
abbrev pub has_lines : List ℕ → Bool
has_lines text = not (nat_eq (length text) 0)

-- The name of a hop (bridge and filter), followed by a space, as lines about losses begin.
abbrev pub place_words : List Bridge → ℕ × ℕ → List ℕ
place_words bridges hop = bridge_name bridges hop.0 ++ (codes "." ++ (decimal hop.1 ++ codes " "))

-- The exit status of a run that doesn't fail: 1 if a warning or a loss is an error, otherwise 0.
abbrev pub status_of : Bool → Bool → ℕ
status_of warned lossy = if warned || lossy then 1 else 0

-- Holds if `l` has the losses of hop `h`, which is bridge and filter `x` in the network's file.
pub record IsLossOf {A : Type 0} (links : List Link) (hops : List (HopRun A)) (bridges : List Bridge) (x : ℕ × ℕ) (h : HopRun A) (l : HopLosses A) : Type 0 where
  pub ways : List Bool
  pub are_ways : AreOnwardPorts links hops h.bridge ways
  pub place_is : string_bytes l.place ≡ place_words bridges x
  pub counts_are : l.counts ≡ counts_by_ports ways h.view.now

-- Holds if `losses` has the losses of each hop in the list, in list order.
abbrev pub AreLosses : {A : Type 0} → List Link → List (HopRun A) → List Bridge → List (ℕ × ℕ) → List (HopRun A) → List (HopLosses A) → Type 0
AreLosses links hops bridges [] [] [] = Unit {0}
AreLosses links hops bridges (x ∷ xs) (h ∷ hs) (l ∷ losses) = IsLossOf links hops bridges x h l × AreLosses links hops bridges xs hs losses
AreLosses links hops bridges xs hs losses = ⊥

-- Holds if `lines` are the lines of a stream in a complete run. They are a `lost:` line if it lost frames, and a
-- `late:` line if a copy missed the deadline.
pub record AreLinesOf {A : Type 0} (links : List Link) (settled : List (BridgeResult A)) (bridges : List Bridge) (s : Stream) (lines : List ℕ) : Type 0 where
  pub frames : ℕ
  pub delivered : ℕ
  pub count : IsStreamCount links settled s.hops frames delivered
  pub losses : List (HopLosses A)
  pub are_losses : AreLosses links count.hops bridges s.hops count.hops losses
  pub delays : List ℕ
  pub are_delays : AreDelays links count.hops count.hops count.known delays
  pub lines_are : lines ≡ fault_lines s.name count.tallies losses delays s.deadline

-- Holds if the text `old` grew to `new` by the `lost:` and `late:` lines of a stream.
abbrev pub PutsLines : {A : Type 0} → List Link → List (BridgeResult A) → List Bridge → Stream → Option (List ℕ) → Option (List ℕ) → Type 0
PutsLines links settled bridges s old new = (lines : List ℕ) × AreLinesOf links settled bridges s lines × HasGrown old lines new

-- Holds if `lines` are the `lost:` and `late:` lines of all streams in the list, in list order.
abbrev pub AreFaultLines : {A : Type 0} → List Link → List (BridgeResult A) → List Bridge → List Stream → List ℕ → Type 0
AreFaultLines links settled bridges [] lines = lines ≡ []
AreFaultLines links settled bridges (s ∷ ss) lines =
    (line : List ℕ) × (rest : List ℕ) × AreLinesOf links settled bridges s line × AreFaultLines links settled bridges ss rest × (lines ≡ line ++ rest)

-- Holds if `lines` are the `lost:` and `late:` lines of all streams in a complete run, in file order. If losses aren't
-- errors, `lines` is empty.
abbrev pub AreToldLines : {A : Type 0} → List Link → List (BridgeResult A) → file.Network → Bool → List ℕ → Type 0
AreToldLines links settled f true lines = AreFaultLines links settled f.bridges f.streams lines
AreToldLines links settled f false lines = lines ≡ []

-- Holds if `line` is the line of a complete network run in `rounds` rounds, and `told` has its lines of lost and late streams.
abbrev pub TellsRunLosses : {A : Type 0} → NetworkParts A → file.Network → Bool → List ℕ → ℕ → List ℕ → Type 0
TellsRunLosses {A} n f strict line rounds told =
    (came : List (BridgeInput A)) × (settled : List (BridgeResult A)) × IsIsolatedRun n came settled × IsLine n.links settled f line × SettlesIn n came rounds
    × AreToldLines n.links settled f strict told

-- Holds if some accepted network has a complete run in `rounds` rounds with this line, and `told` has its lines of lost and late streams.
abbrev pub PrintsRunLosses : (A : Type 0) → Bool → List ℕ → ℕ → List ℕ → Type 0
PrintsRunLosses A strict line rounds told =
    (f : file.Network) × (plans : List (Plan A)) × (n : NetworkParts A) × IsNetworkOfFile f plans n × (first_fault n ≡ None) × (first_misfit n.plans 1 f.streams ≡ None)
    × TellsRunLosses n f strict line rounds told

-- Holds if `text` has the warnings of `net check` if warnings are errors; otherwise it is empty.
abbrev pub AreWarningsIf : {A : Type 0} → Bool → file.Network → NetworkParts A → List ℕ → Type 0
AreWarningsIf true f n text = AreWarnings f n text
AreWarningsIf false f n text = text ≡ []

-- Holds if `text` has the warnings of `net check` on a network, and isn't empty.
abbrev pub TellsWarnings : {A : Type 0} → NetworkParts A → file.Network → List ℕ → Type 0
TellsWarnings n f text = AreWarnings f n text × (has_lines text ≡ true)

-- Holds if `text` has the warnings of some accepted network, and isn't empty.
abbrev pub PrintsWarnings : (A : Type 0) → List ℕ → Type 0
PrintsWarnings A text =
    (f : file.Network) × (plans : List (Plan A)) × (n : NetworkParts A) × IsNetworkOfFile f plans n × (first_fault n ≡ None) × (first_misfit n.plans 1 f.streams ≡ None) × TellsWarnings n f text
