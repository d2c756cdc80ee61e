-- The tables of streams and of frames of a network run.
use Rattle.std.specs.Prelude.{◌≡◌, ℕ, List, [], ◌∷◌, ◌++◌, Option, codes, decimal, map}
use Rattle.std.specs.Io.KnownBytes.{Appends}
use Rattle.net_report.specs.declared.frame_table.TheConstants.{FRAMES_HEADER}
use Rattle.net_report.specs.declared.stream_table.TheConstants.{STREAMS_HEADER}
use Rattle.net_report.specs.Tables.{AreRowsOfStream, Heading}
use Rattle.net_file.specs.Model.{Bridge, Stream}
use Rattle.net_file.specs.Model as file
use Rattle.net_model.specs.declared.links.Link.{Link}
use Rattle.net_check.specs.Naming.{bridge_name}
use Rattle.net_run.specs.declared.rounds.BridgeResult.{BridgeResult}
use Rattle.app_networks.specs.Counted.{IsStreamCount}
use Rattle.app_networks.specs.declared.figures.StreamFigures.{StreamFigures}

-- The name of a hop, as in the network's file.
abbrev pub hop_text : List Bridge → ℕ × ℕ → List ℕ
hop_text bridges hop = bridge_name bridges hop.0 ++ (codes "." ++ decimal hop.1)

-- The heading of a stream in the tables: its name, its hops, its figures and its deadline.
abbrev pub heading : List Bridge → Stream → StreamFigures → Heading
heading bridges s x = record { name = s.name; hops = map (hop_text bridges) s.hops; bound = x.bound; worst = x.worst; deadline = s.deadline }

-- Holds if a stream had `frames` frames, `delivered` of them delivered, and `rows` and `lines` are its rows in the two tables.
pub record IsTabled {A : Type 0} (links : List Link) (settled : List (BridgeResult A)) (bridges : List Bridge) (s : Stream) (x : StreamFigures) (frames delivered : ℕ) (rows lines : List ℕ) : Type 0 where
  pub count : IsStreamCount links settled s.hops frames delivered
  pub are_rows : AreRowsOfStream links count.hops count.known count.tallies (heading bridges s x) rows lines

-- Holds if the rows of a stream were written to both tables.
abbrev pub TablesStream : {A : Type 0} → List Link → List (BridgeResult A) → List Bridge → Stream → StreamFigures → ℕ → ℕ → Option (List ℕ) → Option (List ℕ) → Option (List ℕ) → Option (List ℕ) → Type 0
TablesStream links settled bridges s x frames delivered streams more_streams texts more_texts =
    (rows : List ℕ) × (lines : List ℕ) × IsTabled links settled bridges s x frames delivered rows lines
    × Appends streams more_streams rows × Appends texts more_texts lines

-- Holds if `rows` and `lines` are the rows of all streams in the two tables, in list order, each stream with its figures.
abbrev pub AreRows : {A : Type 0} → List Link → List (BridgeResult A) → List Bridge → List Stream → List StreamFigures → List ℕ → List ℕ → Type 0
AreRows links settled bridges (s ∷ ss) (x ∷ xs) rows lines =
    (frames : ℕ) × (delivered : ℕ) × (row : List ℕ) × (line : List ℕ) × (more : List ℕ) × (rest : List ℕ)
    × IsTabled links settled bridges s x frames delivered row line × AreRows links settled bridges ss xs more rest
    × (rows ≡ row ++ more) × (lines ≡ line ++ rest)
AreRows links settled bridges ss xs rows lines = (rows ≡ []) × (lines ≡ [])

-- Holds if the rows of all streams were written to both tables.
abbrev pub WriteStreams : {A : Type 0} → List Link → List (BridgeResult A) → List Bridge → List Stream → List StreamFigures → Option (List ℕ) → Option (List ℕ) → Option (List ℕ) → Option (List ℕ) → Type 0
WriteStreams links settled bridges ss figures streams more_streams texts more_texts =
    (rows : List ℕ) × (lines : List ℕ) × AreRows links settled bridges ss figures rows lines × Appends streams more_streams rows × Appends texts more_texts lines

-- Holds if `streams` and `frames` are the two tables of a network run. Each begins with its header, followed by the rows of all streams in
-- file order.
pub record AreTables {A : Type 0} (links : List Link) (settled : List (BridgeResult A)) (f : file.Network) (figures : List StreamFigures) (streams frames : List ℕ) : Type 0 where
  pub rows : List ℕ
  pub lines : List ℕ
  pub are_rows : AreRows links settled f.bridges f.streams figures rows lines
  pub streams_are : streams ≡ STREAMS_HEADER.now ++ rows
  pub frames_are : frames ≡ FRAMES_HEADER.now ++ lines

-- Holds if the table of streams and the table of frames were written completely.
abbrev pub WriteTables : {A : Type 0} → List Link → List (BridgeResult A) → file.Network → List StreamFigures → Option (List ℕ) → Option (List ℕ) → Option (List ℕ) → Option (List ℕ) → Type 0
WriteTables links settled f figures streams more_streams texts more_texts =
    (rows : List ℕ) × (lines : List ℕ) × AreTables links settled f figures rows lines × Appends streams more_streams rows × Appends texts more_texts lines
