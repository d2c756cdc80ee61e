-- The rows of streams in both tables, stream by stream.
use Rattle.std.proofs.Common.{◌≡◌, ℕ, ◌+◌, ◌<◌, ◌≤◌, List, [], ◌∷◌, ◌++◌, length, map, Option, Some, refl, sym, ap, subst, ◌∙◌, arith, take, get_or}
use Rattle.std.specs.Prelude.{min}
use Rattle.std.specs.Io.KnownBytes.{Appends}
use Rattle.std.proofs.KnownBytes.{Appends-nil, Appends-trans}
use Rattle.std.proofs.lemmas.List.{append-nil, append_assoc, length-take, take_all, take_more}
use Rattle.std.proofs.lemmas.Option.{slice_get-get_or}
use Rattle.bridge_limits.specs.Members.{IsMember}
use Rattle.bridge_limits.proofs.Members.{in_at}
use Rattle.net_report.specs.declared.frame_table.TheConstants.{FRAMES_HEADER}
use Rattle.net_report.specs.declared.stream_table.TheConstants.{STREAMS_HEADER}
use Rattle.net_report.specs.Tables.{Heading, WriteStream}
use Rattle.net_file.specs.Model.{Bridge, Stream}
use Rattle.net_file.specs.Model as file
use Rattle.net_model.specs.declared.links.Link.{Link}
use Rattle.net_run.specs.declared.rounds.BridgeResult.{BridgeResult}
use Rattle.app_networks.specs.Counted.{IsStreamCount}
use Rattle.app_networks.specs.declared.figures.StreamFigures.{StreamFigures}
use Rattle.app_networks.specs.Tables.{AreRows, IsTabled, TablesStream, WriteStreams, WriteTables, heading, hop_text}

-- An item at an index is in its list.
pub in_list : {X : Type 0} (xs here : List X) (i : ℕ) (x d : X) → here ≡ xs → i < length here → x ≡ get_or here i d → IsMember x xs
in_list {X} xs here i x d is within item =
    let there = slice_get-get_or here i d within in
    subst (λ (l : List X). IsMember x l) is (in_at here i x (there ∙ ap Some (sym item)))

-- The heading of a stream in the tables.
pub heading_is : (bridges called : List Bridge) (s : Stream) (asked : List (ℕ × ℕ)) (n : List ℕ) (names : List (List ℕ)) (x : StreamFigures) (d : Option ℕ)
    → called ≡ bridges → asked ≡ s.hops → n ≡ s.name → names ≡ map (hop_text called) asked → d ≡ s.deadline
    → ◌≡◌ {A = Heading} (record { name = n; hops = names; bound = x.bound; worst = x.worst; deadline = d }) (heading bridges s x)
heading_is bridges called s asked n names x d is_called is_asked is_name is_names is_deadline =
    let named : names ≡ map (hop_text bridges) s.hops = is_names ∙ (ap (λ (c : List Bridge). map (hop_text c) asked) is_called ∙ ap (map (hop_text bridges)) is_asked) in
    let mk : List ℕ → List (List ℕ) → Option ℕ → Heading = λ m h t. record { name = m; hops = h; bound = x.bound; worst = x.worst; deadline = t } in
    ap (λ m. mk m names d) is_name ∙ (ap (λ h. mk s.name h d) named ∙ ap (λ t. mk s.name (map (hop_text bridges) s.hops) t) is_deadline)

-- The rows of a stream with its counts.
pub tabled : {A : Type 0} (links : List Link) (settled : List (BridgeResult A)) (bridges : List Bridge) (s : Stream) (x : StreamFigures) (frames delivered : ℕ) (a0 a1 b0 b1 : Option (List ℕ))
    (count : IsStreamCount links settled s.hops frames delivered)
    → WriteStream links count.hops count.known count.tallies (heading bridges s x) a0 a1 b0 b1 → TablesStream links settled bridges s x frames delivered a0 a1 b0 b1
tabled links settled bridges s x frames delivered a0 a1 b0 b1 count (rows, lines, are, first, front) =
    (rows, lines, record { count = count; are_rows = are }, first, front)

-- The rows with one stream more.
rows_more : {A : Type 0} (links : List Link) (settled : List (BridgeResult A)) (bridges : List Bridge) (ss : List Stream) (bs : List StreamFigures) (s : Stream) (b : StreamFigures) (frames delivered : ℕ) (rows lines row line : List ℕ)
    → length bs ≡ length ss → AreRows links settled bridges ss bs rows lines → IsTabled links settled bridges s b frames delivered row line
    → AreRows links settled bridges (ss ++ s ∷ []) (bs ++ b ∷ []) (rows ++ row) (lines ++ line)
rows_more links settled bridges [] [] s b frames delivered rows lines row line many (no_rows, no_lines) is =
    (frames, delivered, row, line, [], [], is, (refl, refl), ap (λ r. r ++ row) no_rows ∙ sym (append-nil row), ap (λ r. r ++ line) no_lines ∙ sym (append-nil line))
rows_more links settled bridges [] (c ∷ bs) s b frames delivered rows lines row line many are is = absurd (omega (arith, many))
rows_more links settled bridges (x ∷ ss) [] s b frames delivered rows lines row line many are is = absurd (omega (arith, many))
rows_more links settled bridges (x ∷ ss) (c ∷ bs) s b frames delivered rows lines row line many (f, d, first, front, more, rest, own, all, rows_is, lines_is) is =
    let later = rows_more links settled bridges ss bs s b frames delivered more rest row line (omega (arith, many)) all is in
    (f, d, first, front, more ++ row, rest ++ line, own, later, ap (λ r. r ++ row) rows_is ∙ append_assoc first more row, ap (λ r. r ++ line) lines_is ∙ append_assoc front rest line)

-- Both writers received the rows of no stream.
pub no_streams : {A : Type 0} (links : List Link) (settled : List (BridgeResult A)) (bridges : List Bridge) (a b : Option (List ℕ)) → WriteStreams links settled bridges [] [] a a b b
no_streams links settled bridges a b = ([], [], (refl, refl), Appends-nil a, Appends-nil b)

-- Both writers received the rows of the streams before an index, and of the stream there.
pub streams_more : {A : Type 0} (links : List Link) (settled : List (BridgeResult A)) (bridges : List Bridge) (streams here : List Stream) (figures : List StreamFigures) (i : ℕ) (s d : Stream) (b e : StreamFigures) (frames delivered : ℕ) (a0 a1 a2 b0 b1 b2 : Option (List ℕ))
    → here ≡ streams → length figures ≡ length streams → i < length here → s ≡ get_or here i d → b ≡ get_or figures i e
    → WriteStreams links settled bridges (take i streams) (take i figures) a0 a1 b0 b1
    → TablesStream links settled bridges s b frames delivered a1 a2 b1 b2
    → WriteStreams links settled bridges (take (i + 1) streams) (take (i + 1) figures) a0 a2 b0 b2
streams_more {A} links settled bridges streams here figures i s d b e frames delivered a0 a1 a2 b0 b1 b2 is many within s_is b_is (rows, lines, are, first, front) (row, line, own, second, back) =
    let there : i < length streams = subst (λ (l : List Stream). i < length l) is within in
    let figures_there : i < length figures = omega (arith, many, there) in
    let item : s ≡ get_or streams i d = s_is ∙ ap (λ (l : List Stream). get_or l i d) is in
    let short = length-take i figures ∙ (ap (λ m. min i m) many ∙ sym (length-take i streams)) in
    let more = rows_more links settled bridges (take i streams) (take i figures) s b frames delivered rows lines row line short are own in
    let streams_are : take (i + 1) streams ≡ take i streams ++ s ∷ [] = take_more streams i d there ∙ ap (λ x. take i streams ++ x ∷ []) (sym item) in
    let figures_are : take (i + 1) figures ≡ take i figures ++ b ∷ [] = take_more figures i e figures_there ∙ ap (λ x. take i figures ++ x ∷ []) (sym b_is) in (
      rows ++ row,
      lines ++ line,
      subst (λ (ss : List Stream). AreRows links settled bridges ss (take (i + 1) figures) (rows ++ row) (lines ++ line)) (sym streams_are)
          (subst (λ (bs : List StreamFigures). AreRows links settled bridges (take i streams ++ s ∷ []) bs (rows ++ row) (lines ++ line)) (sym figures_are) more),
      Appends-trans a0 a1 a2 rows row first second,
      Appends-trans b0 b1 b2 lines line front back,
    )

-- Both writers received the rows of all streams.
pub streams_all : {A : Type 0} (links : List Link) (settled : List (BridgeResult A)) (bridges : List Bridge) (streams here : List Stream) (figures : List StreamFigures) (i : ℕ) (a0 a1 b0 b1 : Option (List ℕ))
    → here ≡ streams → length figures ≡ length streams → length here ≤ i
    → WriteStreams links settled bridges (take i streams) (take i figures) a0 a1 b0 b1 → WriteStreams links settled bridges streams figures a0 a1 b0 b1
streams_all {A} links settled bridges streams here figures i a0 a1 b0 b1 is many past before =
    let over : length streams ≤ i = subst (λ (l : List Stream). length l ≤ i) is past in
    let beyond : length figures ≤ i = omega (arith, many, over) in
    subst (λ (ss : List Stream). WriteStreams links settled bridges ss figures a0 a1 b0 b1) (take_all i streams over)
    (subst (λ (bs : List StreamFigures). WriteStreams links settled bridges (take i streams) bs a0 a1 b0 b1) (take_all i figures beyond) before)

-- Both writers received the headers, then the rows of all streams.
pub tables_written : {A : Type 0} (links : List Link) (settled : List (BridgeResult A)) (f : file.Network) (figures : List StreamFigures) (a0 a1 a2 b0 b1 b2 : Option (List ℕ))
    → Appends a0 a1 STREAMS_HEADER.now → Appends b0 b1 FRAMES_HEADER.now → WriteStreams links settled f.bridges f.streams figures a1 a2 b1 b2 → WriteTables links settled f figures a0 a2 b0 b2
tables_written links settled f figures a0 a1 a2 b0 b1 b2 first front (rows, lines, are, second, back) = (
  STREAMS_HEADER.now ++ rows,
  FRAMES_HEADER.now ++ lines,
  record { rows = rows; lines = lines; are_rows = are; streams_are = refl; frames_are = refl },
  Appends-trans a0 a1 a2 STREAMS_HEADER.now rows first second,
  Appends-trans b0 b1 b2 FRAMES_HEADER.now lines front back,
)
