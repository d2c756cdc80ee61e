-- The files of a network run. A failure of a file names one of them.
use Rattle.std.specs.Prelude.{◌≡◌, ◌⊎◌, ◌++◌, ℕ, false, List, Option, None, Some, codes, is_some, map, slice_get, string_bytes}
use Rattle.bridge_limits.specs.Members.{IsMember}
use Rattle.bridge_config.specs.Model.{Plan}
use Rattle.bridge_core.specs.WholeRuns.{ArePortNumbers}
use Rattle.net_file.specs.Model.{Bridge}
use Rattle.net_model.specs.declared.links.Link.{Link}
use Rattle.net_model.specs.Networks.{sender}
use Rattle.net_model.specs.NetworkParts.{NetworkParts, link_value}
use Rattle.net_check.specs.Naming.{bridge_name}
use Rattle.app_files.specs.declared.failed_file.Access.{Access}
use Rattle.app_files.specs.declared.failed_file.Access.TheVariants.{Reading, Writing}
use Rattle.app_failure.specs.declared.fault.Failure.{Failure}
use Rattle.app_failure.specs.declared.fault.Failure.TheVariants as fault
use Rattle.app_failure.specs.Reading.{LacksPath}
use Rattle.app_files.specs.FailedFiles.{IsCapture}
use Rattle.app_files.specs.Paths.{capture_path, report_path}
use Rattle.app_networks.specs.OutputFiles.{folder_path}

-- Holds if the failure names one of these files, with this access, or memory ran out.
abbrev pub NamesFile : Access → (List ℕ → Type 0) → Failure → Type 0
NamesFile access files (fault.File e) = (e.access ≡ access) × files (string_bytes e.path)
NamesFile access files fault.NoMemory = Unit {0}
NamesFile access files f = ⊥

-- INPUTS

-- The path of the file of commands in a bridge's folder `folder`.
abbrev pub commands_path : List ℕ → List ℕ
commands_path folder = folder ++ codes "/commands.toml"

-- Holds if `path` is the capture of an open port in the folder of the bridge with index `b`. Its ports have these numbers.
abbrev pub IsOpenCapture : List Link → ℕ → List ℕ → List ℕ → List ℕ → Type 0
IsOpenCapture links b ports folder path =
    (port : ℕ) × IsMember port ports × (is_some (sender (map link_value links) b port) ≡ false) × (path ≡ capture_path folder port)

-- Holds if `path` is an input of the bridge with index `b` and plan `p`. The inputs are the captures of open ports and the commands, in the
-- bridge's folder.
abbrev pub IsBridgeInputFile : {A : Type 0} → List Link → ℕ → Plan A → List ℕ → List ℕ → Type 0
IsBridgeInputFile links b p folder path = ((ports : List ℕ) × ArePortNumbers p ports × IsOpenCapture links b ports folder path) ⊎ (path ≡ commands_path folder)

-- Holds if `path` is an input of one of the bridges, in its folder of the input folder.
abbrev pub IsInputFile : {A : Type 0} → List Link → List (Plan A) → List Bridge → List ℕ → List ℕ → Type 0
IsInputFile {A} links plans bridges input path =
    (b : ℕ) × (p : Plan A) × (slice_get plans b ≡ Some p) × IsBridgeInputFile links b p (folder_path input (bridge_name bridges b)) path

-- OUTPUTS

-- Holds if `path` is the folder of a bridge with plan `p`, or an output in it: the capture of a port, or the report.
abbrev pub IsBridgeOutputFile : {A : Type 0} → Plan A → List ℕ → List ℕ → Type 0
IsBridgeOutputFile p folder path = ((ports : List ℕ) × ArePortNumbers p ports × IsCapture folder ports path) ⊎ ((path ≡ report_path folder) ⊎ (path ≡ folder))

-- Holds if `path` is an output of one of the bridges, in its folder of the output folder.
abbrev pub IsOutputOfBridges : {A : Type 0} → List (Plan A) → List Bridge → List ℕ → List ℕ → Type 0
IsOutputOfBridges {A} plans bridges output path =
    (b : ℕ) × (p : Plan A) × (slice_get plans b ≡ Some p) × IsBridgeOutputFile p (folder_path output (bridge_name bridges b)) path

-- The path of the table `name` in the output folder `folder`: `FOLDER/NAME.csv`.
abbrev pub table_path : List ℕ → List ℕ → List ℕ
table_path folder name = folder ++ (codes "/" ++ (name ++ codes ".csv"))

-- Holds if `path` is one of the two tables in the output folder.
abbrev pub IsTableFile : List ℕ → List ℕ → Type 0
IsTableFile output path = (path ≡ table_path output (codes "streams")) ⊎ (path ≡ table_path output (codes "frames"))

-- Holds if `path` is the output folder or an output in it.
abbrev pub IsOutputFile : {A : Type 0} → List (Plan A) → List Bridge → List ℕ → List ℕ → Type 0
IsOutputFile plans bridges output path = IsOutputOfBridges plans bridges output path ⊎ (IsTableFile output path ⊎ (path ≡ output))

-- Holds if `path` is the file of the requested picture.
abbrev pub IsPictureFile : Option (List ℕ) → List ℕ → Type 0
IsPictureFile None path = ⊥
IsPictureFile (Some file) path = path ≡ file

-- Holds if `path` is written by the run: an output, or the requested picture.
abbrev pub IsWrittenFile : {A : Type 0} → List (Plan A) → List Bridge → List ℕ → Option (List ℕ) → List ℕ → Type 0
IsWrittenFile plans bridges output picture path = IsOutputFile plans bridges output path ⊎ IsPictureFile picture path

-- THE RUN

-- Holds if a failed file can end the run of a network between two folders. One folder has an empty path, an input wasn't read, or an output
-- or the picture wasn't written.
abbrev pub FailsRunFiles : {A : Type 0} → NetworkParts A → List Bridge → List ℕ → List ℕ → Option (List ℕ) → Failure → Type 0
FailsRunFiles n bridges input output picture f =
    LacksPath input output f ⊎ (NamesFile Reading (IsInputFile n.links n.plans bridges input) f ⊎ NamesFile Writing (IsWrittenFile n.plans bridges output picture) f)
