-- The lines of streams with lost frames or missed deadlines, stream by stream.
use Rattle.std.proofs.Common.{◌≡◌, ℕ, ◌+◌, ◌<◌, ◌≤◌, Bool, true, false, List, [], ◌∷◌, ◌++◌, length, Option, Some, Result, Ok, Err, refl, sym, ap, subst, ◌∙◌, arith, take, get_or, append_assoc}
use Rattle.std.specs.Prelude.{IfOk}
use Rattle.std.proofs.lemmas.Bool.{false≢true}
use Rattle.std.proofs.lemmas.List.{append-nil, take_all, take_more}
use Rattle.bridge_text.specs.Growth.{HasGrown}
use Rattle.bridge_text.proofs.Puts.{put_none, put_piece, whole}
use Rattle.net_file.specs.Model.{Bridge, Stream}
use Rattle.net_file.specs.Model as file
use Rattle.net_model.specs.declared.links.Link.{Link}
use Rattle.net_run.specs.declared.rounds.BridgeResult.{BridgeResult}
use Rattle.net_report.specs.declared.copy_counting.HopRun.{HopRun}
use Rattle.net_report.specs.declared.copy_counting.CopyCounts.{CopyCounts}
use Rattle.net_report.specs.declared.losing.HopLosses.{HopLosses}
use Rattle.net_report.specs.Losing.{fault_lines}
use Rattle.net_report.specs.Tables.{AreDelays}
use Rattle.app_networks.specs.Counted.{IsStreamCount}
use Rattle.app_networks.specs.Losing.{AreFaultLines, AreLinesOf, AreLosses, AreToldLines, IsLossOf, PutsLines}

-- THE LOSSES OF HOPS

-- The losses with one hop more.
losses_more : {A : Type 0} (links : List Link) (hops : List (HopRun A)) (bridges : List Bridge) (xs : List (ℕ × ℕ)) (hs : List (HopRun A)) (ls : List (HopLosses A)) (x : ℕ × ℕ) (h : HopRun A) (l : HopLosses A)
    → AreLosses links hops bridges xs hs ls → IsLossOf links hops bridges x h l → AreLosses links hops bridges (xs ++ x ∷ []) (hs ++ h ∷ []) (ls ++ l ∷ [])
losses_more links hops bridges [] [] [] x h l are is = (is, tt)
losses_more links hops bridges [] [] (m ∷ ls) x h l are is = absurd are
losses_more links hops bridges [] (g ∷ hs) ls x h l are is = absurd are
losses_more links hops bridges (y ∷ xs) [] ls x h l are is = absurd are
losses_more links hops bridges (y ∷ xs) (g ∷ hs) [] x h l are is = absurd are
losses_more links hops bridges (y ∷ xs) (g ∷ hs) (m ∷ ls) x h l are is = (are.0, losses_more links hops bridges xs hs ls x h l are.1 is)

-- The losses of the hops before an index, and of the hop there.
pub losses_at : {A : Type 0} (links : List Link) (runs : List (HopRun A)) (bridges : List Bridge) (hops : List (ℕ × ℕ)) (i : ℕ) (x y : ℕ × ℕ) (h d : HopRun A) (l : HopLosses A) (ls new : List (HopLosses A))
    → i < length hops → i < length runs → AreLosses links runs bridges (take i hops) (take i runs) ls → IsLossOf links runs bridges x h l
    → x ≡ get_or hops i y → h ≡ get_or runs i d → new ≡ ls ++ l ∷ [] → AreLosses links runs bridges (take (i + 1) hops) (take (i + 1) runs) new
losses_at {A} links runs bridges hops i x y h d l ls new within there are is x_is h_is new_is =
    let more = losses_more links runs bridges (take i hops) (take i runs) ls x h l are is in
    let hops_are : take (i + 1) hops ≡ take i hops ++ x ∷ [] = take_more hops i y within ∙ ap (λ z. take i hops ++ z ∷ []) (sym x_is) in
    let runs_are : take (i + 1) runs ≡ take i runs ++ h ∷ [] = take_more runs i d there ∙ ap (λ z. take i runs ++ z ∷ []) (sym h_is) in
    subst (λ (xs : List (ℕ × ℕ)). AreLosses links runs bridges xs (take (i + 1) runs) new) (sym hops_are)
    (subst (λ (hs : List (HopRun A)). AreLosses links runs bridges (take i hops ++ x ∷ []) hs new) (sym runs_are)
    (subst (λ (ms : List (HopLosses A)). AreLosses links runs bridges (take i hops ++ x ∷ []) (take i runs ++ h ∷ []) ms) (sym new_is) more))

-- The losses of all hops.
pub losses_all : {A : Type 0} (links : List Link) (runs : List (HopRun A)) (bridges : List Bridge) (hops : List (ℕ × ℕ)) (i : ℕ) (ls : List (HopLosses A))
    → length hops ≤ i → length runs ≡ length hops → AreLosses links runs bridges (take i hops) (take i runs) ls → AreLosses links runs bridges hops runs ls
losses_all {A} links runs bridges hops i ls past many are =
    subst (λ (xs : List (ℕ × ℕ)). AreLosses links runs bridges xs runs ls) (take_all i hops past)
    (subst (λ (hs : List (HopRun A)). AreLosses links runs bridges (take i hops) hs ls) (take_all i runs (omega (arith, past, many))) are)

-- THE LINES OF STREAMS

-- Equal values give equal lines of a stream.
pub grown_as : {A : Type 0} (o p : Option (List ℕ)) (n n2 : List ℕ) (ts ts2 : List CopyCounts) (ls ls2 : List (HopLosses A)) (ds ds2 : List ℕ) (d d2 : Option ℕ)
    → n2 ≡ n → ts2 ≡ ts → ls2 ≡ ls → ds2 ≡ ds → d2 ≡ d → HasGrown o (fault_lines n2 ts2 ls2 ds2 d2) p → HasGrown o (fault_lines n ts ls ds d) p
grown_as {A} o p n n2 ts ts2 ls ls2 ds ds2 d d2 n_is ts_are ls_are ds_are d_is grown =
    subst (λ (z : List ℕ). HasGrown o (fault_lines z ts ls ds d) p) n_is
    (subst (λ (z : List CopyCounts). HasGrown o (fault_lines n2 z ls ds d) p) ts_are
    (subst (λ (z : List (HopLosses A)). HasGrown o (fault_lines n2 ts2 z ds d) p) ls_are
    (subst (λ (z : List ℕ). HasGrown o (fault_lines n2 ts2 ls2 z d) p) ds_are
    (subst (λ (z : Option ℕ). HasGrown o (fault_lines n2 ts2 ls2 ds2 z) p) d_is grown))))

-- A text that grew by the lines of a stream.
pub stream_told : {A : Type 0} (links : List Link) (settled : List (BridgeResult A)) (bridges : List Bridge) (s : Stream) (frames delivered : ℕ) (losses : List (HopLosses A)) (delays : List ℕ) (o p : Option (List ℕ))
    (count : IsStreamCount links settled s.hops frames delivered)
    → AreLosses links count.hops bridges s.hops count.hops losses → AreDelays links count.hops count.hops count.known delays
    → HasGrown o (fault_lines s.name count.tallies losses delays s.deadline) p → PutsLines links settled bridges s o p
stream_told links settled bridges s frames delivered losses delays o p count are_losses are_delays grown = (
  fault_lines s.name count.tallies losses delays s.deadline,
  record {
    frames = frames;
    delivered = delivered;
    count = count;
    losses = losses;
    are_losses = are_losses;
    delays = delays;
    are_delays = are_delays;
    lines_are = refl;
  },
  grown,
)

-- The lines with one stream more.
lines_more : {A : Type 0} (links : List Link) (settled : List (BridgeResult A)) (bridges : List Bridge) (ss : List Stream) (s : Stream) (lines line : List ℕ)
    → AreFaultLines links settled bridges ss lines → AreLinesOf links settled bridges s line → AreFaultLines links settled bridges (ss ++ s ∷ []) (lines ++ line)
lines_more links settled bridges [] s lines line none is = (line, [], is, refl, ap (λ r. r ++ line) none ∙ sym (append-nil line))
lines_more links settled bridges (x ∷ ss) s lines line (first, rest, own, later, lines_are) is =
    (first, rest ++ line, own, lines_more links settled bridges ss s rest line later is, ap (λ r. r ++ line) lines_are ∙ append_assoc first rest line)

-- Holds if a text grew by the lines of all streams in the list.
abbrev pub HasLines : {A : Type 0} → List Link → List (BridgeResult A) → List Bridge → List Stream → Option (List ℕ) → Option (List ℕ) → Type 0
HasLines links settled bridges ss old new = (lines : List ℕ) × HasGrown old lines new × AreFaultLines links settled bridges ss lines

pub no_lines : {A : Type 0} (links : List Link) (settled : List (BridgeResult A)) (bridges : List Bridge) (o : Option (List ℕ)) → HasLines links settled bridges [] o o
no_lines links settled bridges o = ([], put_none o, refl)

-- A text that grew by the lines of the streams before an index, and of the stream there.
pub lines_at : {A : Type 0} (links : List Link) (settled : List (BridgeResult A)) (bridges called : List Bridge) (streams here : List Stream) (i : ℕ) (s d : Stream) (o p q : Option (List ℕ))
    → called ≡ bridges → here ≡ streams → i < length here → s ≡ get_or here i d
    → HasLines links settled bridges (take i streams) o p → PutsLines links settled called s p q → HasLines links settled bridges (take (i + 1) streams) o q
lines_at links settled bridges called streams here i s d o p q is_called is within item (lines, grown, are) (line, own, more) =
    let there : i < length streams = subst (λ (l : List Stream). i < length l) is within in
    let same : s ≡ get_or streams i d = item ∙ ap (λ (l : List Stream). get_or l i d) is in
    let streams_are : take (i + 1) streams ≡ take i streams ++ s ∷ [] = take_more streams i d there ∙ ap (λ x. take i streams ++ x ∷ []) (sym same) in
    let here_own : AreLinesOf links settled bridges s line = subst (λ (b : List Bridge). AreLinesOf links settled b s line) is_called own in (
      lines ++ line,
      put_piece o p q lines line grown more,
      subst (λ (ss : List Stream). AreFaultLines links settled bridges ss (lines ++ line)) (sym streams_are) (lines_more links settled bridges (take i streams) s lines line are here_own),
    )

-- The text with the lines of all streams.
pub all_told : {A T E : Type 0} (octets_of : T → List ℕ) (r : Result T E) (links : List Link) (settled : List (BridgeResult A)) (bridges : List Bridge) (streams here : List Stream) (i : ℕ) (o p : Option (List ℕ))
    → o ≡ Some [] → here ≡ streams → length here ≤ i → HasLines links settled bridges (take i streams) o p → IfOk r (λ t. p ≡ Some (octets_of t))
    → IfOk r (λ t. AreFaultLines links settled bridges streams (octets_of t))
all_told octets_of (Ok t) links settled bridges streams here i o p none is past (lines, grown, are) some =
    let text : octets_of t ≡ lines = whole o p lines (octets_of t) none grown some in
    let over : length streams ≤ i = subst (λ (l : List Stream). length l ≤ i) is past in
    subst (λ (l : List ℕ). AreFaultLines links settled bridges streams l) (sym text) (subst (λ (ss : List Stream). AreFaultLines links settled bridges ss lines) (take_all i streams over) are)
all_told octets_of (Err e) links settled bridges streams here i o p none is past has some = tt

-- WITH AND WITHOUT STRICTNESS

-- If losses are errors, the lines are printed.
pub told_if : {A T E : Type 0} (octets_of : T → List ℕ) (r : Result T E) (strict : Bool) (links used : List Link) (settled : List (BridgeResult A)) (f : file.Network)
    → strict ≡ true → used ≡ links → IfOk r (λ t. AreFaultLines used settled f.bridges f.streams (octets_of t)) → IfOk r (λ t. AreToldLines links settled f strict (octets_of t))
told_if octets_of (Ok t) true links used settled f is same are = subst (λ (l : List Link). AreFaultLines l settled f.bridges f.streams (octets_of t)) same are
told_if octets_of (Ok t) false links used settled f is same are = absurd (false≢true is)
told_if octets_of (Err e) strict links used settled f is same are = tt

-- If losses aren't errors, no lines are printed.
pub untold_if : {A : Type 0} (strict : Bool) (links : List Link) (settled : List (BridgeResult A)) (f : file.Network) (lines : List ℕ) → strict ≡ false → lines ≡ [] → AreToldLines links settled f strict lines
untold_if true links settled f lines is none = absurd (false≢true (sym is))
untold_if false links settled f lines is none = none
