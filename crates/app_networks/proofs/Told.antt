-- The records of a stream's hops, hop by hop.
use Rattle.std.proofs.Common.{◌≡◌, ℕ, List, [], ◌∷◌, ◌++◌, ◌+◌, ◌<◌, ◌≤◌, drop, get_or, length, Option, Some, Vec, refl, ap, subst, sym, ◌∙◌, inl, inr}
use Rattle.std.specs.Prelude.{slice_get}
use Rattle.std.proofs.lemmas.List.{drop_all, drop_more}
use Rattle.bridge_limits.proofs.Lists.{pushed}
use Rattle.bridge_semantics.specs.declared.outcome.Outcome.{Outcome}
use Rattle.net_file.specs.Model.{Stream}
use Rattle.net_model.specs.declared.links.Link.{Link}
use Rattle.net_run.specs.declared.rounds.BridgeResult.{BridgeResult}
use Rattle.net_run.specs.Rounds.{AreOutcomes}
use Rattle.net_report.specs.declared.copy_counting.HopRun.{HopRun}
use Rattle.net_report.specs.declared.copy_counting.CopyCounts.{CopyCounts}
use Rattle.net_report.specs.declared.sources.SourceFrame.{SourceFrame}
use Rattle.net_report.specs.Counting.{AreCopyCounts}
use Rattle.net_report.specs.StreamTable.{delivered_frames}
use Rattle.net_report.specs.Passes.{IsTraced, contents, traces}
use Rattle.net_report.specs.SourceFrames.{AreExhausted, AreFirstHopFramesKnown, HaveSources, HaveEach}
use Rattle.app_networks.specs.Counted.{AreTotals, IsStreamCount, saturating_add}
use Rattle.app_networks.specs.InTime.{AreHopRuns, IsHopRun}

-- The records with one hop more.
pub runs_more : {A : Type 0} (o : ℕ → Outcome A) (stream : List (ℕ × ℕ)) (hops : List (HopRun A)) (x : ℕ × ℕ) (h : HopRun A) → slice_get stream (length hops) ≡ Some x → IsHopRun o x h
    → AreHopRuns o stream hops → AreHopRuns o stream (hops ++ h ∷ [])
runs_more {A} o stream hops x h at is are i g there = elim (pushed hops h g i there) [
  | inl before ↦ are i g before
  | inr here ↦ (x, ap (slice_get stream) here.0 ∙ at, subst (λ (z : HopRun A). IsHopRun o x z) here.1 is)
]

-- The count of a stream, by its hops in three calls.
abbrev pub count_is : {A : Type 0} (links : List Link) (settled : List (BridgeResult A)) (stream asked : List (ℕ × ℕ)) (runs runs1 runs2 : List (HopRun A)) (all all2 : List (Vec (Option SourceFrame) A)) (tallies tallies2 : List CopyCounts) (frames delivered : ℕ)
    → asked ≡ stream → runs1 ≡ runs → runs2 ≡ runs → all2 ≡ all → tallies2 ≡ tallies
    → length runs ≡ length asked → ((o : ℕ → Outcome A) → AreOutcomes settled o → AreHopRuns o asked runs) → HaveSources links runs1 all → AreFirstHopFramesKnown runs1 all → HaveEach runs1 all → AreExhausted links runs1 all → IsTraced links (traces runs1) (contents all) → AreCopyCounts links runs2 all2 tallies
    → frames ≡ length tallies → delivered ≡ delivered_frames tallies2 → IsStreamCount links settled stream frames delivered
count_is {A} links settled stream asked runs runs1 runs2 all all2 tallies tallies2 frames delivered is_stream is_runs1 is_runs2 is_all2 is_tallies2 many told from first each exhausted traced counted is_all is_kept = record {
  hops = runs;
  known = all;
  tallies = tallies;
  many = many ∙ ap length is_stream;
  told = λ o are. subst (λ (s : List (ℕ × ℕ)). AreHopRuns o s runs) is_stream (told o are);
  from = subst (λ (h : List (HopRun A)). HaveSources links h all) is_runs1 from;
  first = subst (λ (h : List (HopRun A)). AreFirstHopFramesKnown h all) is_runs1 first;
  each = subst (λ (h : List (HopRun A)). HaveEach h all) is_runs1 each;
  exhausted = subst (λ (h : List (HopRun A)). AreExhausted links h all) is_runs1 exhausted;
  traced = subst (λ (h : List (HopRun A)). IsTraced links (traces h) (contents all)) is_runs1 traced;
  counted = subst (λ (k : List (Vec (Option SourceFrame) A)). AreCopyCounts links runs k tallies) is_all2 (subst (λ (h : List (HopRun A)). AreCopyCounts links h all2 tallies) is_runs2 counted);
  all = is_all;
  kept = is_kept ∙ ap delivered_frames is_tallies2;
}

-- The counts with one stream more.
pub counts_more : {A : Type 0} (links : List Link) (settled : List (BridgeResult A)) (streams here : List Stream) (place : ℕ) (s d : Stream) (f m f1 m1 f2 m2 : ℕ)
    → here ≡ streams → place < length here → s ≡ get_or here place d → IsStreamCount links settled s.hops f1 m1 → f2 ≡ saturating_add f f1 → m2 ≡ saturating_add m m1
    → ((n k : ℕ) → AreTotals links settled (drop place streams) f m n k → AreTotals links settled streams 0 0 n k)
    → (n k : ℕ) → AreTotals links settled (drop (place + 1) streams) f2 m2 n k → AreTotals links settled streams 0 0 n k
counts_more {A} links settled streams here place s d f m f1 m1 f2 m2 is within item counted is_f is_m before n k rest =
    let there : place < length streams = subst (λ (l : List Stream). place < length l) is within in
    let same : get_or streams place d ≡ s = sym (item ∙ ap (λ (l : List Stream). get_or l place d) is) in
    let cut : drop place streams ≡ s ∷ drop (place + 1) streams = drop_more streams place d there ∙ ap (λ (x : Stream). x ∷ drop (place + 1) streams) same in
    let on = subst (λ (x : ℕ). AreTotals links settled (drop (place + 1) streams) x (saturating_add m m1) n k) is_f (subst (λ (x : ℕ). AreTotals links settled (drop (place + 1) streams) f2 x n k) is_m rest) in
    before n k (subst (λ (l : List Stream). AreTotals links settled l f m n k) (sym cut) (f1, m1, counted, on))

-- The counts of all streams.
pub counts_all : {A : Type 0} (links : List Link) (settled : List (BridgeResult A)) (streams here : List Stream) (place f m : ℕ) → here ≡ streams → length here ≤ place
    → ((n k : ℕ) → AreTotals links settled (drop place streams) f m n k → AreTotals links settled streams 0 0 n k) → AreTotals links settled streams 0 0 f m
counts_all links settled streams here place f m is past before =
    let none : drop place streams ≡ [] = drop_all place streams (subst (λ (l : List Stream). length l ≤ place) is past) in
    before f m (subst (λ (l : List Stream). AreTotals links settled l f m f m) (sym none) (refl, refl))
