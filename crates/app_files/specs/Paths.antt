-- Paths of the captures and the report of a run.
use Rattle.std.specs.Prelude.{ℕ, List, ◌++◌, Option, codes, decimal, option_map}
use Rattle.std.specs.Path.{rsplit_once}

-- The path of the capture of port `port` in the folder `folder`: `FOLDER/PORT.pcap`.
abbrev pub capture_path : List ℕ → ℕ → List ℕ
capture_path folder port = folder ++ (codes "/" ++ (decimal port ++ codes ".pcap"))

-- The path of a run's report in the folder `folder`: `FOLDER/report.txt`.
abbrev pub report_path : List ℕ → List ℕ
report_path folder = folder ++ codes "/report.txt"

-- The folder of the file at `path`: the path before its last `/`, if it has one.
abbrev pub folder_of : List ℕ → Option (List ℕ)
folder_of path = option_map (λ (parts : List ℕ × List ℕ). parts.0) (rsplit_once 47 path)
