-- Figures of streams, one stream after another.
use Rattle.std.proofs.Common.{◌≡◌, ◌+◌, ◌<◌, ℕ, List, [], ◌∷◌, ◌++◌, Option, Vec, refl, ap, sym, ◌∙◌, map, get_or, length, take}
use Rattle.std.proofs.lemmas.List.{length-map, map-append, take_more}
use Rattle.std.proofs.lemmas.List.Elements.{All-append, All-cons, All-nil}
use Rattle.bridge_config.specs.Model.{Plan}
use Rattle.net_file.specs.declared.link_row.LinkRow.{LinkRow}
use Rattle.net_file.specs.Model.{Stream}
use Rattle.net_model.specs.declared.links.Link.{Link}
use Rattle.net_latency.specs.declared.bounds.QueueBound.{QueueBound}
use Rattle.net_latency.specs.declared.latency.StreamLatency.{StreamLatency}
use Rattle.net_latency.specs.Streams.{stream_hop_value}
use Rattle.net_latency.specs.Talkers.{IsTalkerLatency}
use Rattle.app_networks.specs.declared.figures.StreamFigures.{StreamFigures}
use Rattle.app_networks.specs.Figures.{AreFigures, figures_of_stream}

-- No streams have no figures.
pub no_figures : {A : Type 0} (plans : List (Plan A)) (links : List Link) (bounds : List (Vec QueueBound A)) (rows : List LinkRow) → AreFigures plans links bounds rows [] []
no_figures plans links bounds rows = record {
  latencies = [];
  are_latencies = record { are_streams = refl; courses = All-nil _ };
  figures_are = refl;
}

-- The figures of one stream more.
figures_more : {A : Type 0} (plans : List (Plan A)) (links : List Link) (bounds : List (Vec QueueBound A)) (rows : List LinkRow) (streams : List Stream) (figures : List StreamFigures) (s : Stream) (x : Option StreamLatency)
    → AreFigures plans links bounds rows streams figures → IsTalkerLatency plans links bounds s.talker (map stream_hop_value s.hops) x
    → AreFigures plans links bounds rows (streams ++ s ∷ []) (figures ++ figures_of_stream bounds rows (s, x) ∷ [])
figures_more {A} plans links bounds rows streams figures s x before is =
    let Of : Stream × Option StreamLatency → Type 0 = λ r. IsTalkerLatency plans links bounds r.0.talker (map stream_hop_value r.0.hops) r.1 in
    record {
      latencies = before.latencies ++ (s, x) ∷ [];
      are_latencies = record {
        are_streams = map-append (λ (r : Stream × Option StreamLatency). r.0) before.latencies ((s, x) ∷ []) ∙ ap (λ (zs : List Stream). zs ++ s ∷ []) before.are_latencies.are_streams;
        courses = All-append Of before.latencies ((s, x) ∷ []) before.are_latencies.courses (All-cons Of (s, x) [] is (All-nil Of));
      };
      figures_are = ap (λ (zs : List StreamFigures). zs ++ figures_of_stream bounds rows (s, x) ∷ []) before.figures_are
          ∙ sym (map-append (figures_of_stream bounds rows) before.latencies ((s, x) ∷ []));
    }

-- The figures of the streams up to index `k`, and of the stream there.
pub next_figures : {A : Type 0} (plans : List (Plan A)) (links : List Link) (bounds : List (Vec QueueBound A)) (rows : List LinkRow) (streams : List Stream) (k : ℕ) (d s : Stream) (figures new : List StreamFigures) (x : Option StreamLatency)
    → k < length streams → s ≡ get_or streams k d → AreFigures plans links bounds rows (take k streams) figures → IsTalkerLatency plans links bounds s.talker (map stream_hop_value s.hops) x
    → new ≡ figures ++ figures_of_stream bounds rows (s, x) ∷ [] → AreFigures plans links bounds rows (take (k + 1) streams) new
next_figures plans links bounds rows streams k d s figures new x before at so_far is grown =
    let cut : take (k + 1) streams ≡ take k streams ++ s ∷ [] = take_more streams k d before ∙ ap (λ (z : Stream). take k streams ++ z ∷ []) (sym at) in
    rw (cut, grown) (figures_more plans links bounds rows (take k streams) figures s x so_far is)

-- As many figures as streams.
pub figures_many : {A : Type 0} (plans : List (Plan A)) (links : List Link) (bounds : List (Vec QueueBound A)) (rows : List LinkRow) (streams : List Stream) (figures : List StreamFigures)
    → AreFigures plans links bounds rows streams figures → length figures ≡ length streams
figures_many plans links bounds rows streams figures are =
    ap length are.figures_are
    ∙ (length-map are.latencies (figures_of_stream bounds rows)
    ∙ (sym (length-map are.latencies (λ (r : Stream × Option StreamLatency). r.0)) ∙ ap length are.are_latencies.are_streams))
