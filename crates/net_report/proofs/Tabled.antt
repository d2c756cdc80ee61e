-- The rows of a stream in both tables, hop by hop.
use Rattle.std.proofs.Common.{◌≡◌, ℕ, ◌<◌, ◌+◌, List, [], ◌∷◌, ◌++◌, length, Vec, refl, sym, ap, subst, ◌∙◌, arith, take, get_or}
use Rattle.std.specs.Prelude.{min, Option}
use Rattle.std.specs.Io.KnownBytes.{Appends}
use Rattle.std.proofs.KnownBytes.{Appends-nil, Appends-trans}
use Rattle.std.proofs.lemmas.List.{append-nil, append_assoc, length-take, take_more}
use Rattle.net_model.specs.declared.links.Link.{Link}
use Rattle.net_report.specs.declared.copy_counting.HopRun.{HopRun}
use Rattle.net_report.specs.declared.copy_counting.CopyCounts.{CopyCounts}
use Rattle.net_report.specs.declared.sources.SourceFrame.{SourceFrame}
use Rattle.net_report.specs.Statistics.{delay_statistics}
use Rattle.net_report.specs.StreamTable.{stream_line}
use Rattle.net_report.specs.HopCounts.{departure_delays}
use Rattle.net_report.specs.Tables.{AddDelays, AreDelays, AreRowsOfHop, AreRowsOfHops, Heading, WriteHops, WriteStream, WritesHop}

-- The rows of one hop more.
pub rows_more : {A : Type 0} (links : List Link) (hops : List (HopRun A)) (stream : List ℕ) (ns : List (List ℕ)) (hs : List (HopRun A)) (ks : List (Vec (Option SourceFrame) A)) (n : List ℕ) (h : HopRun A) (k : Vec (Option SourceFrame) A) (rows lines row line : List ℕ)
    → length ns ≡ length hs → length ks ≡ length hs → AreRowsOfHops links hops stream ns hs ks rows lines → AreRowsOfHop links hops stream n h k.items row line
    → AreRowsOfHops links hops stream (ns ++ n ∷ []) (hs ++ h ∷ []) (ks ++ k ∷ []) (rows ++ row) (lines ++ line)
rows_more links hops stream [] [] [] n h k rows lines row line many known (no_rows, no_lines) is =
    (row, line, [], [], is, (refl, refl), ap (λ r. r ++ row) no_rows ∙ sym (append-nil row), ap (λ r. r ++ line) no_lines ∙ sym (append-nil line))
rows_more links hops stream [] [] (j ∷ ks) n h k rows lines row line many known are is = absurd (omega (arith, known))
rows_more links hops stream [] (g ∷ hs) ks n h k rows lines row line many known are is = absurd (omega (arith, many))
rows_more links hops stream (m ∷ ns) [] ks n h k rows lines row line many known are is = absurd (omega (arith, many))
rows_more links hops stream (m ∷ ns) (g ∷ hs) [] n h k rows lines row line many known are is = absurd (omega (arith, known))
rows_more links hops stream (m ∷ ns) (g ∷ hs) (j ∷ ks) n h k rows lines row line many known (first, front, more, rest, own, all, rows_is, lines_is) is =
    let later = rows_more links hops stream ns hs ks n h k more rest row line (omega (arith, many)) (omega (arith, known)) all is in
    (first, front, more ++ row, rest ++ line, own, later, ap (λ r. r ++ row) rows_is ∙ append_assoc first more row, ap (λ r. r ++ line) lines_is ∙ append_assoc front rest line)

-- The delays of one hop more.
pub delays_more : {A : Type 0} (links : List Link) (hops : List (HopRun A)) (hs : List (HopRun A)) (ks : List (Vec (Option SourceFrame) A)) (h : HopRun A) (k : Vec (Option SourceFrame) A) (old new : List ℕ)
    → length ks ≡ length hs → AreDelays links hops hs ks old → AddDelays links hops h k.items old new → AreDelays links hops (hs ++ h ∷ []) (ks ++ k ∷ []) new
delays_more links hops [] [] h k old new many none (ways, are_ways, is) =
    (ways, [], are_ways, refl, is ∙ (ap (λ d. d ++ departure_delays ways k.items h.view.now.departures.items) none ∙ sym (append-nil (departure_delays ways k.items h.view.now.departures.items))))
delays_more links hops [] (j ∷ ks) h k old new many are more = absurd (omega (arith, many))
delays_more links hops (g ∷ hs) [] h k old new many are more = absurd (omega (arith, many))
delays_more links hops (g ∷ hs) (j ∷ ks) h k old new many (ways, rest, are_ways, later, old_is) (last_ways, are_last, is) =
    let last = departure_delays last_ways k.items h.view.now.departures.items in
    let own = departure_delays ways j.items g.view.now.departures.items in (
      ways,
      rest ++ last,
      are_ways,
      delays_more links hops hs ks h k rest (rest ++ last) (omega (arith, many)) later (last_ways, are_last, refl),
      is ∙ (ap (λ d. d ++ last) old_is ∙ append_assoc own rest last),
    )

-- Without hops there are no rows.
pub none_written : {A : Type 0} (links : List Link) (hops : List (HopRun A)) (stream : List ℕ) (a b : Option (List ℕ)) → WriteHops links hops stream [] [] [] a a b b
none_written links hops stream a b = ([], [], (refl, refl), Appends-nil a, Appends-nil b)

-- Both writers have the rows of the hops before an index, and then of the hop there.
pub hops_more : {A : Type 0} (links : List Link) (hops : List (HopRun A)) (stream : List ℕ) (names : List (List ℕ)) (known : List (Vec (Option SourceFrame) A)) (i : ℕ) (n e : List ℕ) (h d : HopRun A) (k c : Vec (Option SourceFrame) A) (a0 a1 a2 b0 b1 b2 : Option (List ℕ))
    → length names ≡ length hops → length known ≡ length hops → i < length hops → n ≡ get_or names i e → h ≡ get_or hops i d → k ≡ get_or known i c
    → WriteHops links hops stream (take i names) (take i hops) (take i known) a0 a1 b0 b1
    → WritesHop links hops stream n h k.items a1 a2 b1 b2
    → WriteHops links hops stream (take (i + 1) names) (take (i + 1) hops) (take (i + 1) known) a0 a2 b0 b2
hops_more {A} links hops stream names known i n e h d k c a0 a1 a2 b0 b1 b2 named many within n_is h_is k_is (rows, lines, are, first, front) (row, line, is, second, back) =
    let names_within : i < length names = omega (arith, named, within) in
    let known_within : i < length known = omega (arith, many, within) in
    let short = length-take i names in
    let shorter = length-take i hops in
    let shortest = length-take i known in
    let more = rows_more links hops stream (take i names) (take i hops) (take i known) n h k rows lines row line
    (short ∙ (ap (λ m. min i m) named ∙ sym shorter)) (shortest ∙ (ap (λ m. min i m) many ∙ sym shorter)) are is in
    let names_are : take (i + 1) names ≡ take i names ++ n ∷ [] = take_more names i e names_within ∙ ap (λ x. take i names ++ x ∷ []) (sym n_is) in
    let hops_are : take (i + 1) hops ≡ take i hops ++ h ∷ [] = take_more hops i d within ∙ ap (λ x. take i hops ++ x ∷ []) (sym h_is) in
    let known_are : take (i + 1) known ≡ take i known ++ k ∷ [] = take_more known i c known_within ∙ ap (λ x. take i known ++ x ∷ []) (sym k_is) in (
      rows ++ row,
      lines ++ line,
      subst (λ ns. AreRowsOfHops links hops stream ns (take (i + 1) hops) (take (i + 1) known) (rows ++ row) (lines ++ line)) (sym names_are)
          (subst (λ hs. AreRowsOfHops links hops stream (take i names ++ n ∷ []) hs (take (i + 1) known) (rows ++ row) (lines ++ line)) (sym hops_are)
          (subst (λ ks. AreRowsOfHops links hops stream (take i names ++ n ∷ []) (take i hops ++ h ∷ []) ks (rows ++ row) (lines ++ line)) (sym known_are) more)),
      Appends-trans a0 a1 a2 rows row first second,
      Appends-trans b0 b1 b2 lines line front back,
    )

-- The delays of the hops before an index, and then of the hop there.
pub delays_at : {A : Type 0} (links : List Link) (hops : List (HopRun A)) (known : List (Vec (Option SourceFrame) A)) (i : ℕ) (h d : HopRun A) (k c : Vec (Option SourceFrame) A) (old new : List ℕ)
    → length known ≡ length hops → i < length hops → h ≡ get_or hops i d → k ≡ get_or known i c
    → AreDelays links hops (take i hops) (take i known) old → AddDelays links hops h k.items old new → AreDelays links hops (take (i + 1) hops) (take (i + 1) known) new
delays_at {A} links hops known i h d k c old new many within h_is k_is are more =
    let known_within : i < length known = omega (arith, many, within) in
    let both = length-take i known ∙ (ap (λ m. min i m) many ∙ sym (length-take i hops)) in
    let all = delays_more links hops (take i hops) (take i known) h k old new both are more in
    let hops_are : take (i + 1) hops ≡ take i hops ++ h ∷ [] = take_more hops i d within ∙ ap (λ x. take i hops ++ x ∷ []) (sym h_is) in
    let known_are : take (i + 1) known ≡ take i known ++ k ∷ [] = take_more known i c known_within ∙ ap (λ x. take i known ++ x ∷ []) (sym k_is) in
    subst (λ hs. AreDelays links hops hs (take (i + 1) known) new) (sym hops_are) (subst (λ ks. AreDelays links hops (take i hops ++ h ∷ []) ks new) (sym known_are) all)

-- Both writers have the row of a whole stream, and then the rows of its hops.
pub stream_written : {A : Type 0} (links : List Link) (hops : List (HopRun A)) (known : List (Vec (Option SourceFrame) A)) (tallies : List CopyCounts) (s : Heading) (delays line : List ℕ) (a0 a1 a2 b0 b1 : Option (List ℕ))
    → AreDelays links hops hops known delays → line ≡ stream_line s.name tallies (delay_statistics delays) s.bound s.deadline s.worst → Appends a0 a1 line
    → WriteHops links hops s.name s.hops hops known a1 a2 b0 b1 → WriteStream links hops known tallies s a0 a2 b0 b1
stream_written links hops known tallies s delays line a0 a1 a2 b0 b1 are is first (rows, lines, all, more, frames) = (
  line ++ rows,
  lines,
  record { delays = delays; are_delays = are; hop_rows = rows; are_hops = all; rows_are = ap (λ l. l ++ rows) is },
  Appends-trans a0 a1 a2 line rows first more,
  frames,
)
