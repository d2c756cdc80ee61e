-- Numbers of all streams' frames in a network run: frames that arrived at first hops, and frames delivered.
use Rattle.std.specs.Prelude.{◌≡◌, ℕ, ◌+◌, ◌-◌, ◌^◌, min, Option, List, [], ◌∷◌, length, Vec}
use Rattle.bridge_semantics.specs.declared.outcome.Outcome.{Outcome}
use Rattle.net_model.specs.declared.links.Link.{Link}
use Rattle.net_file.specs.Model.{Stream}
use Rattle.net_run.specs.declared.rounds.BridgeResult.{BridgeResult}
use Rattle.net_run.specs.Rounds.{AreOutcomes}
use Rattle.net_report.specs.declared.copy_counting.HopRun.{HopRun}
use Rattle.net_report.specs.declared.copy_counting.CopyCounts.{CopyCounts}
use Rattle.net_report.specs.declared.sources.SourceFrame.{SourceFrame}
use Rattle.net_report.specs.Counting.{AreCopyCounts}
use Rattle.net_report.specs.StreamTable.{delivered_frames}
use Rattle.net_report.specs.Passes.{IsTraced, contents, traces}
use Rattle.net_report.specs.SourceFrames.{AreExhausted, AreFirstHopFramesKnown, HaveSources, HaveEach}
use Rattle.app_networks.specs.InTime.{AreHopRuns}

-- Holds if `frames` frames arrived at a stream's first hop, and `delivered` of them were delivered, by the records of its hops.
pub record IsStreamCount {A : Type 0} (links : List Link) (settled : List (BridgeResult A)) (stream : List (ℕ × ℕ)) (frames delivered : ℕ) : Type 0 where
  pub hops : List (HopRun A)
  pub known : List (Vec (Option SourceFrame) A)
  pub tallies : List CopyCounts
  pub many : length hops ≡ length stream
  pub told : (o : ℕ → Outcome A) → AreOutcomes settled o → AreHopRuns o stream hops
  pub from : HaveSources links hops known
  pub first : AreFirstHopFramesKnown hops known
  pub each : HaveEach hops known
  pub exhausted : AreExhausted links hops known
  pub traced : IsTraced links (traces hops) (contents known)
  pub counted : AreCopyCounts links hops known tallies
  pub all : frames ≡ length tallies
  pub kept : delivered ≡ delivered_frames tallies

-- The sum of two numbers, limited to the greatest number of 64 bits.
abbrev pub saturating_add : ℕ → ℕ → ℕ
saturating_add n m = min (n + m) (2 ^ 64 - 1)

-- Holds if the counts of all streams in the list, added to the earlier counts `n` and `m`, are `frames` and `delivered`.
abbrev pub AreTotals : {A : Type 0} → List Link → List (BridgeResult A) → List Stream → ℕ → ℕ → ℕ → ℕ → Type 0
AreTotals links settled [] n m frames delivered = (frames ≡ n) × (delivered ≡ m)
AreTotals links settled (s ∷ ss) n m frames delivered =
    (f : ℕ) × (d : ℕ) × IsStreamCount links settled s.hops f d × AreTotals links settled ss (saturating_add n f) (saturating_add m d) frames delivered
