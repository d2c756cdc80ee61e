-- The files that a fault of a network run names.
use Rattle.std.proofs.Common.{◌≡◌, ℕ, zero, suc, List, [], ◌∷◌, ap, Global, Option, Some, String, inl, inr, option_map, refl, subst, sym, string_bytes, ◌∙◌}
use Rattle.std.specs.Prelude.{codes, false, is_some, map, slice_get}
use Rattle.std.proofs.lemmas.Option.{same_Some}
use Rattle.bridge_limits.specs.Members.{IsMember}
use Rattle.bridge_config.specs.Model.{Plan}
use Rattle.bridge_core.specs.WholeRuns.{ArePortNumbers}
use Rattle.net_file.specs.Model.{Bridge}
use Rattle.net_model.specs.declared.links.Link.{Link}
use Rattle.net_model.specs.Networks.{sender}
use Rattle.net_model.specs.NetworkParts.{NetworkParts, link_value}
use Rattle.net_check.specs.Naming.{bridge_name}
use Rattle.app_failure.specs.declared.fault.Failure.{Failure}
use Rattle.app_failure.specs.declared.fault.Failure.TheVariants as fault
use Rattle.app_failure.specs.Reading.{FailsCaptures, IsFileFault, LacksPath}
use Rattle.app_files.specs.declared.failed_file.Access.{Access}
use Rattle.app_files.specs.declared.failed_file.Access.TheVariants.{Reading, Writing}
use Rattle.app_files.specs.FailedFiles.{IsCapture}
use Rattle.app_files.specs.Paths.{capture_path, report_path}
use Rattle.app_networks.specs.OutputFiles.{folder_path}
use Rattle.app_networks.specs.Folders.{EndsBridge, EndsCommands, EndsReading, EndsRun}
use Rattle.app_networks.specs.RunFiles.{IsBridgeOutputFile, IsOpenCapture, IsOutputFile, IsOutputOfBridges, IsPictureFile, IsTableFile, IsWrittenFile, NamesFile, commands_path, table_path}

-- A fault names one of more files.
pub wider : (P Q : List ℕ → Type 0) (f : Failure) → ((path : List ℕ) → P path → Q path) → NamesFile Writing P f → NamesFile Writing Q f
wider P Q (fault.File e) more h = (h.0, more (string_bytes e.path) h.1)
wider P Q fault.NoMemory more h = tt
wider P Q f more h = absurd h

-- The fault of one file names this file.
pub names_one : (access : Access) (P : List ℕ → Type 0) (path : List ℕ) (f : Failure) → P path → IsFileFault access path f → NamesFile access P f
names_one access P path (fault.File e) here h = (h.0, subst P (sym h.1) here)
names_one access P path fault.NoMemory here h = tt
names_one access P path f here h = absurd h

-- INPUTS

-- The fault of an open port's capture.
pub open_capture : (links : List Link) (b port : ℕ) (ports listed folder : List ℕ) (f : Failure) → listed ≡ ports → IsMember port listed → is_some (sender (map link_value links) b port) ≡ false
    → IsFileFault Reading (capture_path folder port) f → NamesFile Reading (IsOpenCapture links b ports folder) f
open_capture links b port ports listed folder f same here alone h =
    names_one Reading (IsOpenCapture links b ports folder) (capture_path folder port) f (port, subst (IsMember port) same here, alone, refl) h

-- The fault of a capture ends the reading of a bridge's input.
pub capture_ends : {A : Type 0} (links : List Link) (b : ℕ) (p : Plan A) (ports listed name folder : List ℕ) (f : Failure) → ArePortNumbers p ports → listed ≡ ports
    → NamesFile Reading (IsOpenCapture links b listed folder) f → EndsBridge links b p name folder f
capture_ends links b p ports listed name folder (fault.File e) own same h = (h.0, inl (ports, own, subst (λ l. IsOpenCapture links b l folder (string_bytes e.path)) same h.1))
capture_ends links b p ports listed name folder fault.NoMemory own same h = tt
capture_ends links b p ports listed name folder f own same h = absurd h

-- The fault of the commands ends the reading of a bridge's input.
pub commands_end : {A : Type 0} (links : List Link) (b : ℕ) (p : Plan A) (name folder : List ℕ) (f : Failure) → EndsCommands p name folder f → EndsBridge links b p name folder f
commands_end links b p name folder (fault.File e) h = (h.0, inr h.1)
commands_end links b p name folder (fault.Network lines) h = h
commands_end links b p name folder fault.NoMemory h = tt
commands_end links b p name folder f h = absurd h

-- The fault of the file of commands.
pub commands_fail : {A : Type 0} (p : Plan A) (name folder path : List ℕ) (f : Failure) → path ≡ commands_path folder → IsFileFault Reading path f → EndsCommands p name folder f
commands_fail p name folder path (fault.File e) same h = (h.0, h.1 ∙ same)
commands_fail p name folder path fault.NoMemory same h = tt
commands_fail p name folder path f same h = absurd h

-- OUTPUTS

-- The fault of the capture of one of these ports.
pub one_capture : (folder ports : List ℕ) (port : ℕ) (f : Failure) → IsMember port ports → IsFileFault Writing (capture_path folder port) f → FailsCaptures Writing folder ports f
one_capture folder ports port (fault.File e) here h = (h.0, (port, here, h.1))
one_capture folder ports port fault.NoMemory here h = tt
one_capture folder ports port f here h = absurd h

-- The fault of a table names a table.
pub streams_table : (folder : List ℕ) (f : Failure) → IsFileFault Writing (table_path folder (codes "streams")) f → NamesFile Writing (IsTableFile folder) f
streams_table folder f h = names_one Writing (IsTableFile folder) (table_path folder (codes "streams")) f (inl refl) h

pub frames_table : (folder : List ℕ) (f : Failure) → IsFileFault Writing (table_path folder (codes "frames")) f → NamesFile Writing (IsTableFile folder) f
frames_table folder f h = names_one Writing (IsTableFile folder) (table_path folder (codes "frames")) f (inr refl) h

-- The fault of the requested picture.
pub picture_file : (asked : Option (String Global)) (named : String Global) (path : List ℕ) (f : Failure) → asked ≡ Some named → path ≡ string_bytes named → IsFileFault Writing path f
    → NamesFile Writing (IsPictureFile (option_map string_bytes asked)) f
picture_file asked named path f is same h =
    subst (λ (o : Option (String Global)). NamesFile Writing (IsPictureFile (option_map string_bytes o)) f) (sym is) (names_one Writing (λ x. x ≡ string_bytes named) path f same h)

-- The fault of a capture is a fault of an output of a bridge.
pub capture_of_bridge : {A : Type 0} (p : Plan A) (folder ports listed : List ℕ) (f : Failure) → ArePortNumbers p ports → listed ≡ ports → FailsCaptures Writing folder listed f → NamesFile Writing (IsBridgeOutputFile p folder) f
capture_of_bridge p folder ports listed (fault.File e) own same h = (h.0, inl (ports, own, subst (λ l. IsCapture folder l (string_bytes e.path)) same h.1))
capture_of_bridge p folder ports listed fault.NoMemory own same h = tt
capture_of_bridge p folder ports listed f own same h = absurd h

-- The fault of the report is a fault of an output of a bridge.
pub report_of_bridge : {A : Type 0} (p : Plan A) (folder path : List ℕ) (f : Failure) → path ≡ report_path folder → IsFileFault Writing path f → NamesFile Writing (IsBridgeOutputFile p folder) f
report_of_bridge p folder path f same h = names_one Writing (IsBridgeOutputFile p folder) path f (inr (inl same)) h

-- The name of the bridge at an index.
pub name_at : (bridges : List Bridge) (i : ℕ) (x : Bridge) → slice_get bridges i ≡ Some x → bridge_name bridges i ≡ x.name
name_at [] i x is = absurd (cc)
name_at (y ∷ ys) zero x is = ap (λ (b : Bridge). b.name) (same_Some y x is)
name_at (y ∷ ys) (suc i) x is = name_at ys i x is

-- A bridge's output is an output of the bridges.
pub output_at : {A : Type 0} (plans : List (Plan A)) (bridges : List Bridge) (output folder : List ℕ) (b : ℕ) (p : Plan A) (f : Failure)
    → slice_get plans b ≡ Some p → folder ≡ folder_path output (bridge_name bridges b) → NamesFile Writing (IsBridgeOutputFile p folder) f → NamesFile Writing (IsOutputOfBridges plans bridges output) f
output_at plans bridges output folder b p f there same h =
    wider (IsBridgeOutputFile p folder) (IsOutputOfBridges plans bridges output) f (λ path is. (b, p, there, subst (λ x. IsBridgeOutputFile p x path) same is)) h

-- Outputs of bridges and tables are outputs.
pub of_bridges : {A : Type 0} (plans : List (Plan A)) (bridges : List Bridge) (output : List ℕ) (f : Failure) → NamesFile Writing (IsOutputOfBridges plans bridges output) f → NamesFile Writing (IsOutputFile plans bridges output) f
of_bridges plans bridges output f h = wider (IsOutputOfBridges plans bridges output) (IsOutputFile plans bridges output) f (λ path is. inl is) h

pub of_tables : {A : Type 0} (plans : List (Plan A)) (bridges : List Bridge) (output : List ℕ) (f : Failure) → NamesFile Writing (IsTableFile output) f → NamesFile Writing (IsOutputFile plans bridges output) f
of_tables plans bridges output f h = wider (IsTableFile output) (IsOutputFile plans bridges output) f (λ path is. inr (inl is)) h

pub of_output : {A : Type 0} (plans : List (Plan A)) (bridges : List Bridge) (output : List ℕ) (f : Failure) → IsFileFault Writing output f → NamesFile Writing (IsOutputFile plans bridges output) f
of_output plans bridges output f h = names_one Writing (IsOutputFile plans bridges output) output f (inr (inr refl)) h

-- The folder of a bridge is an output.
pub of_folder : {A : Type 0} (plans : List (Plan A)) (bridges : List Bridge) (output folder : List ℕ) (b : ℕ) (p : Plan A) (f : Failure)
    → slice_get plans b ≡ Some p → folder ≡ folder_path output (bridge_name bridges b) → IsFileFault Writing folder f → NamesFile Writing (IsOutputFile plans bridges output) f
of_folder plans bridges output folder b p f there same h =
    of_bridges plans bridges output f (output_at plans bridges output folder b p f there same (names_one Writing (IsBridgeOutputFile p folder) folder f (inr (inr refl)) h))

-- Outputs and the picture are written files.
pub written_output : {A : Type 0} (plans : List (Plan A)) (bridges : List Bridge) (output : List ℕ) (picture : Option (List ℕ)) (f : Failure)
    → NamesFile Writing (IsOutputFile plans bridges output) f → NamesFile Writing (IsWrittenFile plans bridges output picture) f
written_output plans bridges output picture f h = wider (IsOutputFile plans bridges output) (IsWrittenFile plans bridges output picture) f (λ path is. inl is) h

pub written_picture : {A : Type 0} (plans : List (Plan A)) (bridges : List Bridge) (output : List ℕ) (picture : Option (List ℕ)) (f : Failure)
    → NamesFile Writing (IsPictureFile picture) f → NamesFile Writing (IsWrittenFile plans bridges output picture) f
written_picture plans bridges output picture f h = wider (IsPictureFile picture) (IsWrittenFile plans bridges output picture) f (λ path is. inr is) h

-- THE RUN

-- A folder without path ends the run.
pub lack_ends : {A : Type 0} (n : NetworkParts A) (bridges : List Bridge) (input output : List ℕ) (picture : Option (List ℕ)) (f : Failure) → LacksPath input output f → EndsRun n bridges input output picture f
lack_ends n bridges input output picture (fault.File e) h = inl h
lack_ends n bridges input output picture fault.NoMemory h = tt
lack_ends n bridges input output picture f h = absurd h

-- A fault of a written file ends the run.
pub written_ends : {A : Type 0} (n : NetworkParts A) (bridges : List Bridge) (input output : List ℕ) (picture : Option (List ℕ)) (f : Failure)
    → NamesFile Writing (IsWrittenFile n.plans bridges output picture) f → EndsRun n bridges input output picture f
written_ends n bridges input output picture (fault.File e) h = inr (inr h)
written_ends n bridges input output picture fault.NoMemory h = tt
written_ends n bridges input output picture f h = absurd h

-- A fault of reading ends the run.
pub reading_ends : {A : Type 0} (n : NetworkParts A) (bridges : List Bridge) (input output : List ℕ) (picture : Option (List ℕ)) (f : Failure)
    → EndsReading n.links n.plans bridges input f → EndsRun n bridges input output picture f
reading_ends n bridges input output picture (fault.Text t) (b, p, there, e) = absurd e
reading_ends n bridges input output picture fault.NoMemory (b, p, there, e) = tt
reading_ends n bridges input output picture (fault.Run r) (b, p, there, e) = absurd e
reading_ends n bridges input output picture (fault.Plan t) (b, p, there, e) = absurd e
reading_ends n bridges input output picture (fault.Check t) (b, p, there, e) = absurd e
reading_ends n bridges input output picture (fault.Commands t) (b, p, there, e) = absurd e
reading_ends n bridges input output picture (fault.Network lines) e = e
reading_ends n bridges input output picture (fault.Rounds line) (b, p, there, e) = absurd e
reading_ends n bridges input output picture fault.Words (b, p, there, e) = absurd e
reading_ends n bridges input output picture (fault.File x) (b, p, there, e) = inr (inl (e.0, (b, p, there, e.1)))

-- A fault of reading ends the run, by the list of bridges.
pub inputs_end : {A : Type 0} (n : NetworkParts A) (bridges listed : List Bridge) (input output : List ℕ) (picture : Option (List ℕ)) (f : Failure) → listed ≡ bridges
    → EndsReading n.links n.plans listed input f → EndsRun n bridges input output picture f
inputs_end n bridges listed input output picture f same h =
    reading_ends n bridges input output picture f (subst (λ (l : List Bridge). EndsReading n.links n.plans l input f) same h)

-- A fault of an output ends the run, by the lists of plans and bridges.
pub outputs_end : {A : Type 0} (n : NetworkParts A) (bridges listed : List Bridge) (plans : List (Plan A)) (input output : List ℕ) (picture : Option (List ℕ)) (f : Failure) → plans ≡ n.plans → listed ≡ bridges
    → NamesFile Writing (IsOutputFile plans listed output) f → EndsRun n bridges input output picture f
outputs_end n bridges listed plans input output picture f are same h =
    written_ends n bridges input output picture f (written_output n.plans bridges output picture f
    (subst (λ (l : List Bridge). NamesFile Writing (IsOutputFile n.plans l output) f) same (subst (λ (ps : List (Plan _)). NamesFile Writing (IsOutputFile ps listed output) f) are h)))
