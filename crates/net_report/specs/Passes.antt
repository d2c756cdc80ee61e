-- The search for source frames, which runs over all hops until it finds no more. Its result depends only on the links
-- and on each hop's frames and copies.
use Rattle.std.specs.Prelude.{◌≡◌, ℕ, zero, suc, ◌+◌, nat_eq, Option, Some, None, List, [], ◌∷◌, length, map, slice_get, slice_set, Vec, if◌then◌else◌}
use Rattle.std.specs.Fn.{iterate}
use Rattle.net_model.specs.Networks.{Sender, sender}
use Rattle.net_model.specs.NetworkParts.{link_value}
use Rattle.net_model.specs.declared.links.Link.{Link}
use Rattle.bridge_semantics.specs.declared.outcome.Departure.{Departure}
use Rattle.bridge_semantics.specs.declared.outcome.Origin.{Origin}
use Rattle.net_report.specs.declared.copy_counting.HopRun.{HopRun}
use Rattle.net_report.specs.declared.sources.SourceFrame.{SourceFrame}
use Rattle.net_report.specs.SourceFrames.{source_after_tracing}

-- The part of a hop that the search uses: its bridge, the frames that arrived, and the copies that left.
pub record Trace : Type 0 where
  pub bridge : ℕ
  pub origins : List Origin
  pub departures : List Departure

-- The part of hop `h` that the search for sources uses.
abbrev pub trace_of : {A : Type 0} → HopRun A → Trace
trace_of h = record { bridge = h.bridge; origins = h.view.now.origins.items; departures = h.view.now.departures.items }

-- The parts of all hops that the search for sources uses.
abbrev pub traces : {A : Type 0} → List (HopRun A) → List Trace
traces hops = map trace_of hops

-- The items of the vectors, one list for each hop.
abbrev pub contents : {A : Type 0} → List (Vec (Option SourceFrame) A) → List (List (Option SourceFrame))
contents {A} all = map (λ (v : Vec (Option SourceFrame) A). v.items) all

-- The value `a` after `f` was applied for each number below a bound, from 0 on.
abbrev pub upto : {X : Type 0} → (ℕ → X → X) → ℕ → X → X
upto f zero a = a
upto f (suc n) a = f n (upto f n a)

-- The sources of a hop's frames after tracing arrivals on port `q` from the copies `sent`.
abbrev pub traced_list : Sender → List Departure → List (Option SourceFrame) → ℕ → List Origin → List (Option SourceFrame) → List (Option SourceFrame)
traced_list s sent sent_roots q [] xs = []
traced_list s sent sent_roots q (o ∷ os) [] = []
traced_list s sent sent_roots q (o ∷ os) (x ∷ xs) = source_after_tracing s sent sent_roots q o x ∷ traced_list s sent sent_roots q os xs

-- The sources after tracing frames of hop `h`, index `i`, on port `q` to copies of hop `g`, if `g` is at the sending bridge. `mine` has the
-- sources of `h`, `others` of `g`.
abbrev pub paired : Sender → ℕ → ℕ → List (List (Option SourceFrame)) → Option Trace → Option Trace → Option (List (Option SourceFrame)) → Option (List (Option SourceFrame)) → List (List (Option SourceFrame))
paired s i q all (Some h) (Some g) (Some mine) (Some others) = if nat_eq g.bridge s.from.bridge then slice_set all i (traced_list s g.departures others q h.origins mine) else all
paired s i q all _ _ _ _ = all

-- The sources after tracing frames of hop `i` on port `q`, whose sender is `s`, to copies of hop `j`.
unfoldable pub pair_step : List Trace → Sender → ℕ → ℕ → ℕ → List (List (Option SourceFrame)) → List (List (Option SourceFrame))
pair_step ts s i q j all = paired s i q all (slice_get ts i) (slice_get ts j) (slice_get all i) (slice_get all j)

-- The sources after tracing frames of hop `i` on port `q`, whose sender is `s`, to copies of each hop.
abbrev pub sender_step : List Trace → Sender → ℕ → ℕ → List (List (Option SourceFrame)) → List (List (Option SourceFrame))
sender_step ts s i q all = upto (pair_step ts s i q) (length ts) all

-- The sender of port `q` of an optional hop; `None` without a hop or a link.
abbrev pub sender_at : List Link → ℕ → Option Trace → Option Sender
sender_at links q None = None
sender_at links q (Some t) = sender (map link_value links) t.bridge q

-- The sources after tracing arrivals on port `q` of hop `i` from an optional sender. Without a sender they stay the same.
abbrev pub sent_step : List Trace → ℕ → ℕ → List (List (Option SourceFrame)) → Option Sender → List (List (Option SourceFrame))
sent_step ts i q all None = all
sent_step ts i q all (Some s) = sender_step ts s i q all

-- The sources after tracing the arrivals on port `q` of hop `i`.
unfoldable pub port_step : List Link → List Trace → ℕ → ℕ → List (List (Option SourceFrame)) → List (List (Option SourceFrame))
port_step links ts i q all = sent_step ts i q all (sender_at links q (slice_get ts i))

-- The sources after tracing the arrivals on ports 1 to 16 of hop `i`.
unfoldable pub hop_step : List Link → List Trace → ℕ → List (List (Option SourceFrame)) → List (List (Option SourceFrame))
hop_step links ts i all = upto (λ k. port_step links ts i (k + 1)) 16 all

-- The sources of each hop's frames after one more pass, from the sources `all` that earlier passes found.
abbrev pub pass : List Link → List Trace → List (List (Option SourceFrame)) → List (List (Option SourceFrame))
pass links ts all = upto (hop_step links ts) (length ts) all

-- First-hop frame `o` with number `n` as its own source.
abbrev pub own_root : ℕ → Origin → SourceFrame
own_root n o = record { number = n; came = o.at }

-- The sources of these first-hop frames: each frame is its own source, with numbers from `n` on.
abbrev pub own_from : ℕ → List Origin → List (Option SourceFrame)
own_from n [] = []
own_from n (o ∷ os) = Some (own_root n o) ∷ own_from (n + 1) os

-- A list of unknown sources, one for each of these frames.
abbrev pub unknown : List Origin → List (Option SourceFrame)
unknown [] = []
unknown (o ∷ os) = None ∷ unknown os

-- The initial sources: first-hop frames are known, all others unknown.
abbrev pub begun_of : List Trace → List (List (Option SourceFrame))
begun_of [] = []
begun_of (t ∷ ts) = own_from 1 t.origins ∷ map (λ (u : Trace). unknown u.origins) ts

-- Holds if `all` has the sources after some number of passes, and one more pass finds nothing.
pub record IsTraced (links : List Link) (ts : List Trace) (all : List (List (Option SourceFrame))) : Type 0 where
  pub passes : ℕ
  pub reached : all ≡ iterate (pass links ts) passes (begun_of ts)
  pub still : pass links ts all ≡ all
