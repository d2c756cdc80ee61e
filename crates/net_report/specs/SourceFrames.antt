-- Source frames: for each frame of each hop, the frame of the first hop of which it is a copy.
use Rattle.std.specs.Prelude.{◌≡◌, ℕ, zero, suc, ◌+◌, ◌-◌, ◌<◌, ◌≤◌, Bool, true, false, ◌&&◌, nat_eq, nat_le, Option, Some, None, List, [], ◌∷◌, length, map, slice_get, Vec, if◌then◌else◌}
use Rattle.bridge_limits.specs.Members.{IsMember}
use Rattle.net_model.specs.Networks.{Sender, sender}
use Rattle.net_model.specs.NetworkParts.{link_value}
use Rattle.net_model.specs.declared.links.Link.{Link}
use Rattle.bridge_semantics.specs.declared.outcome.Origin.{Origin}
use Rattle.net_report.specs.declared.copy_counting.HopRun.{HopRun}
use Rattle.bridge_semantics.specs.declared.outcome.Departure.{Departure}
use Rattle.net_report.specs.declared.sources.SourceFrame.{SourceFrame}

-- True if a copy left by port `q` and arrives over its link, after `delay` ns, at time `at` or later.
abbrev pub is_due : ℕ → ℕ → ℕ → Departure → Bool
is_due q delay at d = nat_eq d.port q && nat_le at (d.done + delay)

-- The list of copies from the first copy on that left by port `q` and arrives at time `at` or later. The link's delay is `delay` ns.
abbrev pub due_departures : ℕ → ℕ → ℕ → List Departure → List Departure
due_departures q delay at [] = []
due_departures q delay at (d ∷ ds) = if is_due q delay at d then d ∷ ds else due_departures q delay at ds

-- The source in a nested option; `None` if either level is missing.
abbrev pub flatten : Option (Option SourceFrame) → Option SourceFrame
flatten None = None
flatten (Some r) = r

-- The source of the frame with number `n`, from 1. `None` if the list lacks this number, or if the source is unknown.
abbrev pub source_frame : List (Option SourceFrame) → ℕ → Option SourceFrame
source_frame roots n = if nat_eq n 0 then None else flatten (slice_get roots (n - 1))

-- The source of the first copy in the list if the copy arrives, `delay` ns after its end, exactly at time `at`; otherwise `None`.
abbrev pub source_over_link : List (Option SourceFrame) → ℕ → ℕ → List Departure → Option SourceFrame
source_over_link roots delay at [] = None
source_over_link roots delay at (d ∷ ds) = if nat_eq (d.done + delay) at then source_frame roots d.own else None

-- The source of the sender's first copy that arrives at the frame's arrival time or later, if this copy arrives exactly then. Otherwise
-- `None`.
abbrev pub source_by_copy : Sender → List Departure → List (Option SourceFrame) → Origin → Option SourceFrame
source_by_copy s sent roots o = source_over_link roots s.delay o.at (due_departures s.from.port s.delay o.at sent)

-- The first optional source if it is known, otherwise the second.
abbrev pub or_else : Option SourceFrame → Option SourceFrame → Option SourceFrame
or_else None r = r
or_else (Some x) r = Some x

-- The source of a frame after tracing: `x` if it is known. Otherwise, if the frame arrived on port `q`, the source of the matching copy in
-- `sent`.
abbrev pub source_after_tracing : Sender → List Departure → List (Option SourceFrame) → ℕ → Origin → Option SourceFrame → Option SourceFrame
source_after_tracing s sent roots q o x = if nat_eq o.port q then or_else x (source_by_copy s sent roots o) else x

-- Holds if the copies `left` give the same search results as all copies, for every time from `since` on.
abbrev pub IsRestEnough : Sender → List Departure → List Departure → ℕ → Type 0
IsRestEnough s sent left since = (at : ℕ) → since ≤ at → due_departures s.from.port s.delay at left ≡ due_departures s.from.port s.delay at sent

-- Holds if copy `d` of a frame of hop `g` arrived over a link as frame `o` of hop `h`.
pub record ArrivedOverLink {A : Type 0} (links : List Link) (h g : HopRun A) (o : Origin) (d : Departure) : Type 0 where
  pub from : Sender
  pub linked : sender (map link_value links) h.bridge o.port ≡ Some from
  pub bridge : g.bridge ≡ from.from.bridge
  pub listed : IsMember d g.view.now.departures.items
  pub port : d.port ≡ from.from.port
  pub moment : d.done + from.delay ≡ o.at

-- Holds if frame `k` of hop `i` is a first-hop frame and `r` is the frame itself.
pub record IsFirstHopFrame {A : Type 0} (hops : List (HopRun A)) (i k : ℕ) (r : SourceFrame) : Type 0 where
  pub hop : HopRun A
  pub origin : Origin
  pub place : i ≡ 0
  pub there : slice_get hops i ≡ Some hop
  pub came : slice_get hop.view.now.origins.items k ≡ Some origin
  pub root : r ≡ record { number = k + 1; came = origin.at }

-- Holds if frame `k` of hop `i` arrived over a link as a copy of another hop's frame for which `Known` holds.
pub record IsCopyOfKnownFrame {A : Type 0} (links : List Link) (hops : List (HopRun A)) (Known : ℕ → ℕ → Type 0) (i k : ℕ) : Type 0 where
  pub hop : HopRun A
  pub other : HopRun A
  pub place : ℕ
  pub origin : Origin
  pub copy : Departure
  pub there : slice_get hops i ≡ Some hop
  pub came : slice_get hop.view.now.origins.items k ≡ Some origin
  pub other_there : slice_get hops place ≡ Some other
  pub over : ArrivedOverLink links hop other origin copy
  pub numbered : 1 ≤ copy.own
  pub known : Known place (copy.own - 1)

-- Holds if `r` is the source of frame `k`, from 0, of hop `i`, with `n` links in between.
abbrev pub HasSource : {A : Type 0} → List Link → List (HopRun A) → SourceFrame → ℕ → ℕ → ℕ → Type 0
HasSource links hops r zero i k = IsFirstHopFrame hops i k r
HasSource links hops r (suc n) i k = IsCopyOfKnownFrame links hops (HasSource links hops r n) i k

-- Holds if each known source is the source of its frame.
abbrev pub HaveSources : {A : Type 0} → List Link → List (HopRun A) → List (Vec (Option SourceFrame) A) → Type 0
HaveSources {A} links hops all = (i k : ℕ) (known : Vec (Option SourceFrame) A) (r : SourceFrame) → slice_get all i ≡ Some known → slice_get known.items k ≡ Some (Some r)
    → (n : ℕ) × HasSource links hops r n i k

-- Holds if `r` is the source of a copy that arrived over the link as frame `o` on port `q`.
pub record IsSourceByCopy (s : Sender) (sent : List Departure) (sent_roots : List (Option SourceFrame)) (q : ℕ) (o : Origin) (r : SourceFrame) : Type 0 where
  pub copy : Departure
  pub listed : IsMember copy sent
  pub to : o.port ≡ q
  pub port : copy.port ≡ s.from.port
  pub moment : copy.done + s.delay ≡ o.at
  pub known : source_frame sent_roots copy.own ≡ Some r

-- Holds if each frame's source in `new` is its source in `old`. If that is unknown and the frame arrived on port `q`, it is the source
-- found over the link.
abbrev pub IsTracedByFrame : Sender → List Departure → List (Option SourceFrame) → ℕ → List Origin → List (Option SourceFrame) → List (Option SourceFrame) → Type 0
IsTracedByFrame s sent sent_roots q origins old new = (k : ℕ) (o : Origin) (x y : Option SourceFrame) → slice_get origins k ≡ Some o → slice_get old k ≡ Some x → slice_get new k ≡ Some y
    → y ≡ source_after_tracing s sent sent_roots q o x

-- Holds if `new` has the source after tracing of each frame that has an item in `old` and in `origins`, and no other items.
pub record AreTraced (s : Sender) (sent : List Departure) (sent_roots : List (Option SourceFrame)) (q : ℕ) (origins : List Origin) (old new : List (Option SourceFrame)) : Type 0 where
  pub within : length new ≤ length old
  pub came : length new ≤ length origins
  pub covers : (k : ℕ) → k < length old → k < length origins → k < length new
  pub each : IsTracedByFrame s sent sent_roots q origins old new

-- Holds if each source that is unknown in the list `old` is also unknown in the list `new`.
abbrev pub AddsNoSource : List (Option SourceFrame) → List (Option SourceFrame) → Type 0
AddsNoSource old new = (k : ℕ) (y : Option SourceFrame) → slice_get old k ≡ Some None → slice_get new k ≡ Some y → y ≡ None

-- Holds if tracing arrivals on port `q` from the copies `sent` finds no source that `roots` lacks.
abbrev pub IsExhausted : Sender → List Departure → List (Option SourceFrame) → ℕ → List Origin → List (Option SourceFrame) → Type 0
IsExhausted s sent sent_roots q origins roots = (k : ℕ) (o : Origin) (x : Option SourceFrame) → slice_get origins k ≡ Some o → slice_get roots k ≡ Some x → source_after_tracing s sent sent_roots q o x ≡ x

-- Holds if each item of `roots` is the frame with the item's index, as its own source.
abbrev pub AreOwnSources : List Origin → List (Option SourceFrame) → Type 0
AreOwnSources origins roots = (k : ℕ) (x : Option SourceFrame) → slice_get roots k ≡ Some x → (o : Origin) × (slice_get origins k ≡ Some o) × (x ≡ Some (record { number = k + 1; came = o.at }))

-- Holds if `roots` has an item for each of these frames: the frame itself, as its own source.
pub record AreFirstHopSources (origins : List Origin) (roots : List (Option SourceFrame)) : Type 0 where
  pub many : length roots ≡ length origins
  pub each : AreOwnSources origins roots

-- Holds if no frame of a hop has a known source yet.
abbrev pub AreUnknown : List (Option SourceFrame) → Type 0
AreUnknown roots = (k : ℕ) (r : SourceFrame) → ¬ (slice_get roots k ≡ Some (Some r))

-- Holds if each first-hop frame is known as its own source.
abbrev pub AreFirstHopFramesKnown : {A : Type 0} → List (HopRun A) → List (Vec (Option SourceFrame) A) → Type 0
AreFirstHopFramesKnown {A} hops all = (h : HopRun A) (known : Vec (Option SourceFrame) A) (k : ℕ) (o : Origin) → slice_get hops 0 ≡ Some h → slice_get all 0 ≡ Some known → slice_get h.view.now.origins.items k ≡ Some o
    → slice_get known.items k ≡ Some (Some (record { number = k + 1; came = o.at }))

-- Holds if tracing from hop `j` to port `q` of hop `i` finds no more source.
abbrev pub IsPairExhausted : {A : Type 0} → List (HopRun A) → List (Vec (Option SourceFrame) A) → Sender → ℕ → ℕ → ℕ → Type 0
IsPairExhausted {A} hops all s i q j = (h g : HopRun A) (mine others : Vec (Option SourceFrame) A) → slice_get hops i ≡ Some h → slice_get hops j ≡ Some g → slice_get all i ≡ Some mine → slice_get all j ≡ Some others
    → g.bridge ≡ s.from.bridge → IsExhausted s g.view.now.departures.items others.items q h.view.now.origins.items mine.items

-- Holds if tracing from any hop to port `q` of hop `i` finds no more source.
abbrev pub IsPortExhausted : {A : Type 0} → List Link → List (HopRun A) → List (Vec (Option SourceFrame) A) → ℕ → ℕ → Type 0
IsPortExhausted {A} links hops all i q = (h : HopRun A) (s : Sender) → slice_get hops i ≡ Some h → sender (map link_value links) h.bridge q ≡ Some s
    → (j : ℕ) → j < length hops → IsPairExhausted hops all s i q j

-- Holds if tracing to any port of any hop finds no more source. Then a frame from a link has a known source if the copy sent one delay
-- before has one.
abbrev pub AreExhausted : {A : Type 0} → List Link → List (HopRun A) → List (Vec (Option SourceFrame) A) → Type 0
AreExhausted links hops all = (i q : ℕ) → i < length hops → 1 ≤ q → q < 17 → IsPortExhausted links hops all i q

-- Holds if `s` is the sender of port `q` of the hop with index `place`.
abbrev pub IsSenderOfPort : {A : Type 0} → List Link → List (HopRun A) → ℕ → ℕ → Sender → Type 0
IsSenderOfPort {A} links hops place q s = (h : HopRun A) → slice_get hops place ≡ Some h → sender (map link_value links) h.bridge q ≡ Some s

-- Holds if the list has an item for each frame of a hop, and no source is known.
pub record AreOpen (origins : List Origin) (roots : List (Option SourceFrame)) : Type 0 where
  pub many : length roots ≡ length origins
  pub unknown : AreUnknown roots

-- Holds if `roots` has the initial sources of a hop. The flag is true for the first hop.
abbrev pub AreInitialSourcesOfHop : Bool → List Origin → List (Option SourceFrame) → Type 0
AreInitialSourcesOfHop true origins roots = AreFirstHopSources origins roots
AreInitialSourcesOfHop false origins roots = AreOpen origins roots

-- Holds if `all` has only initial sources of all hops.
abbrev pub AreInitialSources : {A : Type 0} → List (HopRun A) → List (Vec (Option SourceFrame) A) → Type 0
AreInitialSources {A} hops all = (i k : ℕ) (known : Vec (Option SourceFrame) A) (r : SourceFrame) → slice_get all i ≡ Some known → slice_get known.items k ≡ Some (Some r) → IsFirstHopFrame hops i k r

-- Holds if the lists have an item for each frame of each hop.
abbrev pub HaveEach : {A : Type 0} → List (HopRun A) → List (Vec (Option SourceFrame) A) → Type 0
HaveEach {A} hops all = (i : ℕ) (h : HopRun A) (known : Vec (Option SourceFrame) A) → slice_get hops i ≡ Some h → slice_get all i ≡ Some known
    → length known.items ≡ length h.view.now.origins.items

-- Holds if each known source is the frame's source, each first-hop frame is its own source, and `all` has an item for each frame.
pub record AreSound {A : Type 0} (links : List Link) (hops : List (HopRun A)) (all : List (Vec (Option SourceFrame) A)) : Type 0 where
  pub from : HaveSources links hops all
  pub first : AreFirstHopFramesKnown hops all
  pub each : HaveEach hops all
