-- The rows of a stream in the table of streams and in the table of frames.
use Rattle.std.specs.Prelude.{◌≡◌, ℕ, Bool, List, [], ◌∷◌, ◌++◌, Option, Vec, map, string_bytes}
use Rattle.std.specs.Io.KnownBytes.{Appends}
use Rattle.net_model.specs.declared.links.Link.{Link}
use Rattle.net_report.specs.declared.copy_counting.HopRun.{HopRun}
use Rattle.net_report.specs.declared.copy_counting.CopyCounts.{CopyCounts}
use Rattle.net_report.specs.declared.sources.SourceFrame.{SourceFrame}
use Rattle.net_report.specs.declared.tables.Heading.{Heading as Named}
use Rattle.net_report.specs.Statistics.{delay_statistics}
use Rattle.net_report.specs.FrameTable.{view_lines}
use Rattle.net_report.specs.Hops.{AreOnwardPorts}
use Rattle.net_report.specs.StreamTable.{hop_line, stream_line}
use Rattle.net_report.specs.HopCounts.{counts_by_ports, delays_at_hop, departure_delays}

-- Holds if `row` is the row of hop `h` in the table of streams, and `lines` are its rows in the table of frames. `roots` has the source of
-- each frame.
pub record AreRowsOfHop {A : Type 0} (links : List Link) (hops : List (HopRun A)) (stream name : List ℕ) (h : HopRun A) (roots : List (Option SourceFrame)) (row lines : List ℕ) : Type 0 where
  pub ways : List Bool
  pub are_ways : AreOnwardPorts links hops h.bridge ways
  pub row_is : row ≡ hop_line stream name (counts_by_ports ways h.view.now) (delay_statistics (departure_delays ways roots h.view.now.departures.items))
      (delay_statistics (delays_at_hop h.view.now.origins.items h.view.now.departures.items))
  pub lines_are : lines ≡ view_lines stream name roots ways h.view.now

-- Holds if `rows` and `lines` are the rows of these hops of `stream` in the two tables, hop by hop.
abbrev pub AreRowsOfHops : {A : Type 0} → List Link → List (HopRun A) → List ℕ → List (List ℕ) → List (HopRun A) → List (Vec (Option SourceFrame) A) → List ℕ → List ℕ → Type 0
AreRowsOfHops links hops stream (n ∷ ns) (h ∷ hs) (k ∷ ks) rows lines =
    (row : List ℕ) × (line : List ℕ) × (more : List ℕ) × (rest : List ℕ)
    × AreRowsOfHop links hops stream n h k.items row line × AreRowsOfHops links hops stream ns hs ks more rest
    × (rows ≡ row ++ more) × (lines ≡ line ++ rest)
AreRowsOfHops links hops stream ns hs ks rows lines = (rows ≡ []) × (lines ≡ [])

-- Holds if `delays` has the delays of the copies that these hops delivered, hop by hop.
abbrev pub AreDelays : {A : Type 0} → List Link → List (HopRun A) → List (HopRun A) → List (Vec (Option SourceFrame) A) → List ℕ → Type 0
AreDelays links hops (h ∷ hs) (k ∷ ks) delays =
    (ways : List Bool) × (rest : List ℕ) × AreOnwardPorts links hops h.bridge ways × AreDelays links hops hs ks rest
    × (delays ≡ departure_delays ways k.items h.view.now.departures.items ++ rest)
AreDelays links hops hs ks delays = delays ≡ []

-- Heading of a stream in the tables: name, names of its hops, bound, worst delay if it is known, and deadline if there is one.
pub record Heading : Type 0 where
  pub name : List ℕ
  pub hops : List (List ℕ)
  pub bound : ℕ
  pub worst : Option ℕ
  pub deadline : Option ℕ

-- Converts the heading of a stream to the form of these definitions.
abbrev pub heading_of : {A : Type 0} → Named A → Heading
heading_of x = record { name = x.name.now; hops = map string_bytes x.hops.now; bound = x.bound; worst = x.worst; deadline = x.deadline }

-- Holds if `rows` and `lines` are the rows of a stream in both tables. The table of streams begins with the row of the whole stream.
pub record AreRowsOfStream {A : Type 0} (links : List Link) (hops : List (HopRun A)) (known : List (Vec (Option SourceFrame) A)) (tallies : List CopyCounts) (s : Heading) (rows lines : List ℕ) : Type 0 where
  pub delays : List ℕ
  pub are_delays : AreDelays links hops hops known delays
  pub hop_rows : List ℕ
  pub are_hops : AreRowsOfHops links hops s.name s.hops hops known hop_rows lines
  pub rows_are : rows ≡ stream_line s.name tallies (delay_statistics delays) s.bound s.deadline s.worst ++ hop_rows

-- Holds if `new` has the delays `old`, followed by the delays of the copies that hop `h` delivered.
abbrev pub AddDelays : {A : Type 0} → List Link → List (HopRun A) → HopRun A → List (Option SourceFrame) → List ℕ → List ℕ → Type 0
AddDelays links hops h roots old new = (ways : List Bool) × AreOnwardPorts links hops h.bridge ways × (new ≡ old ++ departure_delays ways roots h.view.now.departures.items)

-- Holds if the rows of a hop with name `name` of `stream` were written to both tables. `more_streams` and `more_frames` are the contents
-- afterwards.
abbrev pub WritesHop : {A : Type 0} → List Link → List (HopRun A) → List ℕ → List ℕ → HopRun A → List (Option SourceFrame)
    → Option (List ℕ) → Option (List ℕ) → Option (List ℕ) → Option (List ℕ) → Type 0
WritesHop links hops stream name h roots streams more_streams frames more_frames =
    (row : List ℕ) × (lines : List ℕ) × AreRowsOfHop links hops stream name h roots row lines × Appends streams more_streams row × Appends frames more_frames lines

-- Holds if the rows of these hops of `stream` were written to both tables. `more_streams` and `more_frames` are the contents afterwards.
abbrev pub WriteHops : {A : Type 0} → List Link → List (HopRun A) → List ℕ → List (List ℕ) → List (HopRun A) → List (Vec (Option SourceFrame) A)
    → Option (List ℕ) → Option (List ℕ) → Option (List ℕ) → Option (List ℕ) → Type 0
WriteHops links hops stream names hs known streams more_streams frames more_frames =
    (rows : List ℕ) × (lines : List ℕ) × AreRowsOfHops links hops stream names hs known rows lines × Appends streams more_streams rows × Appends frames more_frames lines

-- Holds if the rows of a stream were written to both tables: `more_streams` and `more_frames` are the contents
-- afterwards.
abbrev pub WriteStream : {A : Type 0} → List Link → List (HopRun A) → List (Vec (Option SourceFrame) A) → List CopyCounts → Heading
    → Option (List ℕ) → Option (List ℕ) → Option (List ℕ) → Option (List ℕ) → Type 0
WriteStream links hops known tallies s streams more_streams frames more_frames =
    (rows : List ℕ) × (lines : List ℕ) × AreRowsOfStream links hops known tallies s rows lines × Appends streams more_streams rows × Appends frames more_frames lines
