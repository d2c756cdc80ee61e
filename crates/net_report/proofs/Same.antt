-- The table rows of a stream depend only on its hops' bridges, records and source frames.
use Rattle.std.proofs.Common.{◌≡◌, ℕ, suc, ◌+◌, Bool, true, false, List, [], ◌∷◌, ◌++◌, Option, Some, None, length, refl, sym, ap, subst, ◌∙◌, arith}
use Rattle.std.specs.Prelude.{◌||◌, count_by, map, nat_eq, slice_get, Vec}
use Rattle.bridge_limits.proofs.Lists.{heads, tails}
use Rattle.bridge_filter.specs.declared.Verdict.{Verdict}
use Rattle.net_model.specs.Networks.{Sender, sender}
use Rattle.net_model.specs.NetworkParts.{link_value}
use Rattle.net_model.specs.declared.links.Link.{Link}
use Rattle.bridge_semantics.specs.declared.outcome.Departure.{Departure}
use Rattle.bridge_semantics.specs.declared.outcome.Dropped.{Dropped}
use Rattle.bridge_semantics.specs.declared.outcome.Origin.{Origin}
use Rattle.bridge_semantics.specs.declared.outcome.View.{View}
use Rattle.bridge_semantics.specs.Runs.{AreSameViews}
use Rattle.net_report.specs.Passes.{Trace, contents, traces}
use Rattle.net_report.specs.declared.copy_counting.HopRun.{HopRun}
use Rattle.net_report.specs.declared.copy_counting.CopyCounts.{CopyCounts}
use Rattle.net_report.specs.declared.sources.SourceFrame.{SourceFrame}
use Rattle.net_report.specs.declared.hop_counting.HopCounts.{HopCounts}
use Rattle.net_report.specs.Counting.{AreCounted, AreCopyCounts, frame_count, zero_counts, with_departures, with_drops, with_hop, with_arrivals, with_verdicts}
use Rattle.net_report.specs.declared.statistics.DelayStatistics.{DelayStatistics}
use Rattle.net_report.specs.Statistics.{delay_statistics}
use Rattle.net_report.specs.FrameTable.{departure_lines, drop_lines, verdict_lines, view_lines}
use Rattle.net_report.specs.Hops.{AreOnwardPorts, has_hop_at_bridge, has_next_hop, is_bridge_with_hop}
use Rattle.net_report.specs.StreamTable.{hop_line, stream_line}
use Rattle.net_report.specs.Tables.{AreDelays, AreRowsOfHop, AreRowsOfHops, AreRowsOfStream, Heading}
use Rattle.net_report.specs.HopCounts.{counts_by_ports, delays_at_hop, departure_delays, is_blocked, is_full, is_gate_closed, is_octets_exceeded, is_delivery, is_oversize, is_red, is_shut_octets, is_shut_rx, is_yellow_dropped, never_fits}

-- Two hops at one bridge with equal records.
pub record IsSameHop {A : Type 0} (h g : HopRun A) : Type 0 where
  pub bridge : h.bridge ≡ g.bridge
  pub view : AreSameViews h.view.now g.view.now

-- Two lists with equal hops.
abbrev pub AreSameHops : {A : Type 0} → List (HopRun A) → List (HopRun A) → Type 0
AreSameHops [] [] = Unit {0}
AreSameHops [] (g ∷ gs) = ⊥
AreSameHops (h ∷ hs) [] = ⊥
AreSameHops (h ∷ hs) (g ∷ gs) = IsSameHop h g × AreSameHops hs gs

-- Equal records give equal results for every function of their lists.
from_view : {A R : Type 0} (f : List Origin → List Verdict → List Dropped → List Departure → R) (v w : View A) → AreSameViews v w
    → f v.origins.items v.verdicts.items v.drops.items v.departures.items ≡ f w.origins.items w.verdicts.items w.drops.items w.departures.items
from_view f v w same =
    ap (λ (x : List Origin). f x v.verdicts.items v.drops.items v.departures.items) same.origins
    ∙ (ap (λ (x : List Verdict). f w.origins.items x v.drops.items v.departures.items) same.verdicts
    ∙ (ap (λ (x : List Dropped). f w.origins.items w.verdicts.items x v.departures.items) same.drops
    ∙ ap (λ (x : List Departure). f w.origins.items w.verdicts.items w.drops.items x) same.departures))

-- PORTS

-- Lists with equal items at each index are equal.
same_lists : {X : Type 0} (xs ys : List X) → length xs ≡ length ys → ((i : ℕ) (x y : X) → slice_get xs i ≡ Some x → slice_get ys i ≡ Some y → x ≡ y) → xs ≡ ys
same_lists [] [] many each = refl
same_lists [] (y ∷ ys) many each = absurd (omega (arith, many))
same_lists (x ∷ xs) [] many each = absurd (omega (arith, many))
same_lists (x ∷ xs) (y ∷ ys) many each =
    ap (λ z. z ∷ xs) (each 0 x y refl refl) ∙ ap (λ l. y ∷ l) (same_lists xs ys (omega (arith, many)) (λ i. each (suc i)))

at_same : {A : Type 0} (hops gops : List (HopRun A)) → AreSameHops hops gops → (b : ℕ) → has_hop_at_bridge hops b ≡ has_hop_at_bridge gops b
at_same [] [] same b = refl
at_same [] (g ∷ gs) same b = absurd same
at_same (h ∷ hs) [] same b = absurd same
at_same (h ∷ hs) (g ∷ gs) same b =
    ap (λ (n : ℕ). nat_eq n b || has_hop_at_bridge hs b) same.0.bridge ∙ ap (λ (x : Bool). nat_eq g.bridge b || x) (at_same hs gs same.1 b)

to_same : {A : Type 0} (hops gops : List (HopRun A)) → AreSameHops hops gops → (s : Option Sender) → is_bridge_with_hop hops s ≡ is_bridge_with_hop gops s
to_same hops gops same None = refl
to_same hops gops same (Some s) = at_same hops gops same s.from.bridge

-- The ports lead to equal hops.
pub ways_once : {A : Type 0} (links : List Link) (hops gops : List (HopRun A)) → AreSameHops hops gops → (b c : ℕ) → b ≡ c → (ways others : List Bool)
    → AreOnwardPorts links hops b ways → AreOnwardPorts links gops c others → ways ≡ others
ways_once {A} links hops gops same b c e ways others one other = same_lists ways others (one.many ∙ sym other.many)
    (λ i x y is_x is_y.
    one.each i x is_x
    ∙ (to_same hops gops same (sender (map link_value links) b (i + 1))
    ∙ (ap (λ (n : ℕ). has_next_hop links gops n (i + 1)) e
    ∙ sym (other.each i y is_y))))

-- COUNTS

hop_same : {A : Type 0} (first : Bool) (ways others : List Bool) (roots more : List (Option SourceFrame)) (ts : List CopyCounts) (v w : View A)
    → ways ≡ others → roots ≡ more → AreSameViews v w → with_hop first ways roots ts v ≡ with_hop first others more ts w
hop_same true ways others roots more ts v w same_ways same_roots same =
    ap (λ (x : List Bool). with_hop true x roots ts v) same_ways
    ∙ (ap (λ (x : List (Option SourceFrame)). with_hop true others x ts v) same_roots
    ∙ from_view {R = List CopyCounts} (λ os vs ds ls. with_verdicts more 1 (with_drops more (with_departures others more ts ls) ds) vs) v w same)
hop_same false ways others roots more ts v w same_ways same_roots same =
    ap (λ (x : List Bool). with_hop false x roots ts v) same_ways
    ∙ (ap (λ (x : List (Option SourceFrame)). with_hop false others x ts v) same_roots
    ∙ from_view {R = List CopyCounts} (λ os vs ds ls. with_arrivals (with_verdicts more 1 (with_drops more (with_departures others more ts ls) ds) vs) more) v w same)

counted_once : {A : Type 0} (links : List Link) (hops gops : List (HopRun A)) → AreSameHops hops gops
    → (first : Bool) (hs gs : List (HopRun A)) (ks ls : List (Vec (Option SourceFrame) A)) (ts us vs : List CopyCounts) → AreSameHops hs gs → contents ks ≡ contents ls
    → AreCounted links hops first hs ks ts us → AreCounted links gops first gs ls ts vs → us ≡ vs
counted_once links hops gops all first [] [] ks ls ts us vs same known one other = one ∙ sym other
counted_once links hops gops all first [] (g ∷ gs) ks ls ts us vs same known one other = absurd same
counted_once links hops gops all first (h ∷ hs) [] ks ls ts us vs same known one other = absurd same
counted_once links hops gops all first (h ∷ hs) (g ∷ gs) [] [] ts us vs same known one other = one ∙ sym other
counted_once links hops gops all first (h ∷ hs) (g ∷ gs) [] (l ∷ ls) ts us vs same known one other = absurd (let e : [] ≡ l.items ∷ contents ls = known in cc)
counted_once links hops gops all first (h ∷ hs) (g ∷ gs) (k ∷ ks) [] ts us vs same known one other = absurd (let e : k.items ∷ contents ks ≡ [] = known in cc)
counted_once links hops gops all first (h ∷ hs) (g ∷ gs) (k ∷ ks) (l ∷ ls) ts us vs same known one other =
    let (ways, are, rest) = one in
    let (others, are_others, more) = other in
    let same_ways = ways_once links hops gops all h.bridge g.bridge same.0.bridge ways others are are_others in
    let same_roots = heads k.items l.items (contents ks) (contents ls) known in
    let step = hop_same first ways others k.items l.items ts h.view.now g.view.now same_ways same_roots same.0.view in
    counted_once links hops gops all false hs gs ks ls (with_hop first ways k.items ts h.view.now) us vs same.1 (tails k.items l.items (contents ks) (contents ls) known) rest
    (subst (λ (t : List CopyCounts). AreCounted links gops false gs ls t vs) (sym step) more)

frames_same : {A : Type 0} (hops gops : List (HopRun A)) → AreSameHops hops gops → frame_count hops ≡ frame_count gops
frames_same [] [] same = refl
frames_same [] (g ∷ gs) same = absurd same
frames_same (h ∷ hs) [] same = absurd same
frames_same (h ∷ hs) (g ∷ gs) same = ap (λ (l : List Origin). length l) same.0.view.origins

-- The counts are equal.
pub tallies_once : {A : Type 0} (links : List Link) (hops gops : List (HopRun A)) (known more : List (Vec (Option SourceFrame) A)) (us vs : List CopyCounts)
    → AreSameHops hops gops → contents known ≡ contents more → AreCopyCounts links hops known us → AreCopyCounts links gops more vs → us ≡ vs
tallies_once links hops gops known more us vs same roots one other =
    counted_once links hops gops same true hops gops known more (zero_counts (frame_count hops)) us vs same roots one
    (subst (λ (n : ℕ). AreCounted links gops true gops more (zero_counts n) vs) (sym (frames_same hops gops same)) other)

-- DELAYS

pub delays_once : {A : Type 0} (links : List Link) (hops gops : List (HopRun A)) → AreSameHops hops gops
    → (hs gs : List (HopRun A)) (ks ls : List (Vec (Option SourceFrame) A)) (us vs : List ℕ) → AreSameHops hs gs → contents ks ≡ contents ls
    → AreDelays links hops hs ks us → AreDelays links gops gs ls vs → us ≡ vs
delays_once links hops gops all [] [] ks ls us vs same known one other = one ∙ sym other
delays_once links hops gops all [] (g ∷ gs) ks ls us vs same known one other = absurd same
delays_once links hops gops all (h ∷ hs) [] ks ls us vs same known one other = absurd same
delays_once links hops gops all (h ∷ hs) (g ∷ gs) [] [] us vs same known one other = one ∙ sym other
delays_once links hops gops all (h ∷ hs) (g ∷ gs) [] (l ∷ ls) us vs same known one other = absurd (let e : [] ≡ l.items ∷ contents ls = known in cc)
delays_once links hops gops all (h ∷ hs) (g ∷ gs) (k ∷ ks) [] us vs same known one other = absurd (let e : k.items ∷ contents ks ≡ [] = known in cc)
delays_once links hops gops all (h ∷ hs) (g ∷ gs) (k ∷ ks) (l ∷ ls) us vs same known one other =
    let (ways, rest, are, are_rest, is) = one in
    let (others, more, are_others, are_more, is_other) = other in
    let same_ways = ways_once links hops gops all h.bridge g.bridge same.0.bridge ways others are are_others in
    let same_roots = heads k.items l.items (contents ks) (contents ls) known in
    let same_rest = delays_once links hops gops all hs gs ks ls rest more same.1 (tails k.items l.items (contents ks) (contents ls) known) are_rest are_more in
    is
    ∙ (ap (λ (x : List Bool). departure_delays x k.items h.view.now.departures.items ++ rest) same_ways
    ∙ (ap (λ (x : List (Option SourceFrame)). departure_delays others x h.view.now.departures.items ++ rest) same_roots
    ∙ (ap (λ (x : List Departure). departure_delays others l.items x ++ rest) same.0.view.departures
    ∙ (ap (λ (x : List ℕ). departure_delays others l.items g.view.now.departures.items ++ x) same_rest
    ∙ sym is_other))))

-- ROWS

counts_same : {A : Type 0} (ways : List Bool) (v w : View A) → AreSameViews v w → counts_by_ports ways v ≡ counts_by_ports ways w
counts_same ways v w same =
    let f : List Origin → List Verdict → List Dropped → List Departure → HopCounts = λ os vs ds ls. record {
      frames = length os;
      delivered = count_by (is_delivery ways) ls;
      blocked = count_by is_blocked vs;
      oversize = count_by is_oversize vs;
      gate_closed = count_by is_gate_closed vs;
      shut_rx = count_by is_shut_rx vs;
      shut_octets = count_by is_shut_octets vs;
      octets_exceeded = count_by is_octets_exceeded vs;
      red = count_by is_red vs;
      yellow_dropped = count_by is_yellow_dropped vs;
      full = count_by is_full ds;
      never = count_by never_fits ds;
    } in
    from_view f v w same

lines_same : {A : Type 0} (stream name : List ℕ) (roots : List (Option SourceFrame)) (ways : List Bool) (v w : View A) → AreSameViews v w
    → view_lines stream name roots ways v ≡ view_lines stream name roots ways w
lines_same stream name roots ways v w same =
    from_view {R = List ℕ} (λ os vs ds ls. verdict_lines stream name roots os 1 vs ++ (drop_lines stream name roots os ds ++ departure_lines stream name roots os ways ls)) v w same

-- The delays at a hop of a record's copies.
abbrev at_hop : {A : Type 0} → View A → Option DelayStatistics
at_hop v = delay_statistics (delays_at_hop v.origins.items v.departures.items)

at_hop_same : {A : Type 0} (v w : View A) → AreSameViews v w → at_hop v ≡ at_hop w
at_hop_same v w same = from_view {R = Option DelayStatistics} (λ os vs ds ls. delay_statistics (delays_at_hop os ls)) v w same

hop_once : {A : Type 0} (links : List Link) (hops gops : List (HopRun A)) → AreSameHops hops gops
    → (stream name : List ℕ) (h g : HopRun A) (roots more : List (Option SourceFrame)) (row other_row lines other_lines : List ℕ) → IsSameHop h g → roots ≡ more
    → AreRowsOfHop links hops stream name h roots row lines → AreRowsOfHop links gops stream name g more other_row other_lines
    → (row ≡ other_row) × (lines ≡ other_lines)
hop_once links hops gops all stream name h g roots more row other_row lines other_lines same same_roots one other =
    let v = h.view.now in
    let w = g.view.now in
    let same_ways = ways_once links hops gops all h.bridge g.bridge same.bridge one.ways other.ways one.are_ways other.are_ways in (
      one.row_is
          ∙ (ap (λ (x : List Bool). hop_line stream name (counts_by_ports x v) (delay_statistics (departure_delays x roots v.departures.items)) (at_hop v)) same_ways
          ∙ (ap (λ (x : HopCounts). hop_line stream name x (delay_statistics (departure_delays other.ways roots v.departures.items)) (at_hop v)) (counts_same other.ways v w same.view)
          ∙ (ap (λ (x : List (Option SourceFrame)). hop_line stream name (counts_by_ports other.ways w) (delay_statistics (departure_delays other.ways x v.departures.items)) (at_hop v)) same_roots
          ∙ (ap (λ (x : List Departure). hop_line stream name (counts_by_ports other.ways w) (delay_statistics (departure_delays other.ways more x)) (at_hop v)) same.view.departures
          ∙ (ap (λ (x : Option DelayStatistics). hop_line stream name (counts_by_ports other.ways w) (delay_statistics (departure_delays other.ways more w.departures.items)) x) (at_hop_same v w same.view)
          ∙ sym other.row_is))))),
      one.lines_are
          ∙ (ap (λ (x : List Bool). view_lines stream name roots x v) same_ways
          ∙ (ap (λ (x : List (Option SourceFrame)). view_lines stream name x other.ways v) same_roots
          ∙ (lines_same stream name more other.ways v w same.view
          ∙ sym other.lines_are))),
    )

-- The rows of the hops are equal.
pub hops_once : {A : Type 0} (links : List Link) (hops gops : List (HopRun A)) → AreSameHops hops gops
    → (stream : List ℕ) (ns : List (List ℕ)) (hs gs : List (HopRun A)) (ks ls : List (Vec (Option SourceFrame) A)) (rows other_rows lines other_lines : List ℕ) → AreSameHops hs gs → contents ks ≡ contents ls
    → AreRowsOfHops links hops stream ns hs ks rows lines → AreRowsOfHops links gops stream ns gs ls other_rows other_lines
    → (rows ≡ other_rows) × (lines ≡ other_lines)
hops_once links hops gops all stream [] hs gs ks ls rows other_rows lines other_lines same known one other = (one.0 ∙ sym other.0, one.1 ∙ sym other.1)
hops_once links hops gops all stream (n ∷ ns) [] [] ks ls rows other_rows lines other_lines same known one other = (one.0 ∙ sym other.0, one.1 ∙ sym other.1)
hops_once links hops gops all stream (n ∷ ns) [] (g ∷ gs) ks ls rows other_rows lines other_lines same known one other = absurd same
hops_once links hops gops all stream (n ∷ ns) (h ∷ hs) [] ks ls rows other_rows lines other_lines same known one other = absurd same
hops_once links hops gops all stream (n ∷ ns) (h ∷ hs) (g ∷ gs) [] [] rows other_rows lines other_lines same known one other = (one.0 ∙ sym other.0, one.1 ∙ sym other.1)
hops_once links hops gops all stream (n ∷ ns) (h ∷ hs) (g ∷ gs) [] (l ∷ ls) rows other_rows lines other_lines same known one other = absurd (let e : [] ≡ l.items ∷ contents ls = known in cc)
hops_once links hops gops all stream (n ∷ ns) (h ∷ hs) (g ∷ gs) (k ∷ ks) [] rows other_rows lines other_lines same known one other = absurd (let e : k.items ∷ contents ks ≡ [] = known in cc)
hops_once links hops gops all stream (n ∷ ns) (h ∷ hs) (g ∷ gs) (k ∷ ks) (l ∷ ls) rows other_rows lines other_lines same known one other =
    let (row, line, more, rest, here, beyond, rows_are, lines_are) = one in
    let (other_row, other_line, other_more, other_rest, other_here, other_beyond, other_rows_are, other_lines_are) = other in
    let same_roots = heads k.items l.items (contents ks) (contents ls) known in
    let first = hop_once links hops gops all stream n h g k.items l.items row other_row line other_line same.0 same_roots here other_here in
    let others = hops_once links hops gops all stream ns hs gs ks ls more other_more rest other_rest same.1 (tails k.items l.items (contents ks) (contents ls) known) beyond other_beyond in (
      rows_are ∙ (ap (λ (x : List ℕ). x ++ more) first.0 ∙ (ap (λ (x : List ℕ). other_row ++ x) others.0 ∙ sym other_rows_are)),
      lines_are ∙ (ap (λ (x : List ℕ). x ++ rest) first.1 ∙ (ap (λ (x : List ℕ). other_line ++ x) others.1 ∙ sym other_lines_are)),
    )

-- The rows of the stream are equal.
pub stream_once : {A : Type 0} (links : List Link) (hops gops : List (HopRun A)) (known more : List (Vec (Option SourceFrame) A)) (tallies others : List CopyCounts) (s : Heading) (rows other_rows lines other_lines : List ℕ)
    → AreSameHops hops gops → contents known ≡ contents more → tallies ≡ others
    → AreRowsOfStream links hops known tallies s rows lines → AreRowsOfStream links gops more others s other_rows other_lines → (rows ≡ other_rows) × (lines ≡ other_lines)
stream_once links hops gops known more tallies others s rows other_rows lines other_lines same roots same_tallies one other =
    let same_delays = delays_once links hops gops same hops gops known more one.delays other.delays same roots one.are_delays other.are_delays in
    let same_hops = hops_once links hops gops same s.name s.hops hops gops known more one.hop_rows other.hop_rows lines other_lines same roots one.are_hops other.are_hops in (
      one.rows_are
          ∙ (ap (λ (x : List CopyCounts). stream_line s.name x (delay_statistics one.delays) s.bound s.deadline s.worst ++ one.hop_rows) same_tallies
          ∙ (ap (λ (x : List ℕ). stream_line s.name others (delay_statistics x) s.bound s.deadline s.worst ++ one.hop_rows) same_delays
          ∙ (ap (λ (x : List ℕ). stream_line s.name others (delay_statistics other.delays) s.bound s.deadline s.worst ++ x) same_hops.0
          ∙ sym other.rows_are))),
      same_hops.1,
    )

-- Equal hops leave equal traces.
pub traces_same : {A : Type 0} (hops gops : List (HopRun A)) → AreSameHops hops gops → traces hops ≡ traces gops
traces_same [] [] same = refl
traces_same [] (g ∷ gs) same = absurd same
traces_same (h ∷ hs) [] same = absurd same
traces_same (h ∷ hs) (g ∷ gs) same =
    let f : ℕ → List Origin → List Departure → Trace = λ b os ds. record { bridge = b; origins = os; departures = ds } in
    ap (λ (b : ℕ). f b h.view.now.origins.items h.view.now.departures.items ∷ traces hs) same.0.bridge
    ∙ (ap (λ (os : List Origin). f g.bridge os h.view.now.departures.items ∷ traces hs) same.0.view.origins
    ∙ (ap (λ (ds : List Departure). f g.bridge g.view.now.origins.items ds ∷ traces hs) same.0.view.departures
    ∙ ap (λ (ts : List Trace). f g.bridge g.view.now.origins.items g.view.now.departures.items ∷ ts) (traces_same hs gs same.1)))
