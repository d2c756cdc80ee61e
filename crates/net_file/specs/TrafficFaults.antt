-- Faults of a traffic file, by itself or compared with its plan, and their fault lines.
use Rattle.std.specs.Prelude.{ℕ, List, ◌++◌, codes, decimal}
use Rattle.net_file.specs.Lines.{refusal_line}
use Rattle.net_file.specs.declared.traffic_fault.TrafficFault.{TrafficFault}
use Rattle.net_file.specs.declared.traffic_fault.TrafficFault.TheVariants as fault

-- The fault line of a traffic file, without line feed.
abbrev pub traffic_line : TrafficFault → List ℕ
traffic_line (fault.Text e) = refusal_line (codes "traffic") e
traffic_line (fault.NotProtected index) = codes "traffic refused: NotProtected traffic " ++ decimal index
traffic_line (fault.NotGrouped index) = codes "traffic refused: NotGrouped traffic " ++ decimal index
