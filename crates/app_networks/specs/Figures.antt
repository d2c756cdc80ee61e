-- Figures of streams that `net check` prints and the table of streams repeats.
use Rattle.std.specs.Prelude.{◌≡◌, ℕ, List, Option, None, Some, Vec, map}
use Rattle.bridge_config.specs.Model.{Plan}
use Rattle.net_file.specs.declared.link_row.LinkRow.{LinkRow}
use Rattle.net_file.specs.Model.{Stream}
use Rattle.net_model.specs.declared.links.Link.{Link}
use Rattle.net_latency.specs.declared.bounds.QueueBound.{QueueBound}
use Rattle.net_latency.specs.declared.latency.StreamLatency.{StreamLatency}
use Rattle.net_latency.specs.Streams.{stream_bound}
use Rattle.net_latency.specs.Talkers.{AreStreamLatencies}
use Rattle.app_networks.specs.declared.figures.StreamFigures.{StreamFigures}

-- The worst delay of a stream, if its delays are known.
abbrev pub worst_if_known : Option StreamLatency → Option ℕ
worst_if_known None = None
worst_if_known (Some x) = Some x.worst

-- The figures of a stream: its bound, and its worst delay if this delay is known.
abbrev pub figures_of_stream : {A : Type 0} → List (Vec QueueBound A) → List LinkRow → Stream × Option StreamLatency → StreamFigures
figures_of_stream bounds links r = record { bound = stream_bound bounds links r.0.hops; worst = worst_if_known r.1 }

-- Holds if `figures` has the figures of the streams, from the delays that `net check` prints.
pub record AreFigures {A : Type 0} (plans : List (Plan A)) (links : List Link) (bounds : List (Vec QueueBound A)) (rows : List LinkRow) (streams : List Stream) (figures : List StreamFigures) : Type 0 where
  pub latencies : List (Stream × Option StreamLatency)
  pub are_latencies : AreStreamLatencies plans links bounds streams latencies
  pub figures_are : figures ≡ map (figures_of_stream bounds rows) latencies
