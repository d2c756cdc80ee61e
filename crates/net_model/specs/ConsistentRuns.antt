-- Runs of single bridges that fit together over the links.
use Rattle.std.specs.Prelude.{◌≡◌, ℕ, zero, suc, List, [], ◌∷◌, slice_get, Some}
use Rattle.bridge_capture.specs.Grammar.{CapturedFrame}
use Rattle.bridge_config.specs.Model.{Plan}
use Rattle.bridge_semantics.specs.declared.outcome.Outcome.{Outcome}
use Rattle.bridge_semantics.specs.Merge.{Input, IsMerged, input_events}
use Rattle.bridge_semantics.specs.Outputs.{EndsRun}
use Rattle.net_model.specs.Networks.{Network, port_inputs}

-- Holds if each bridge has a complete run: from its inputs to its sent frames `left` and its result `o`.
abbrev pub AllRunsEnd : {A : Type 0} → List (Plan A) → (ℕ → List Input) → (ℕ → ℕ → List CapturedFrame) → (ℕ → Outcome A) → Type 0
AllRunsEnd [] inputs left o = Unit {0}
AllRunsEnd (p ∷ ps) inputs left o =
    EndsRun p (input_events (inputs zero)) (left zero) (o zero)
    × AllRunsEnd ps (λ b. inputs (suc b)) (λ b. left (suc b)) (λ b. o (suc b))

-- Holds if each bridge has a complete run of its inputs, and each linked port receives exactly the frames that the
-- other end sent.
pub record HasConsistentRuns {A : Type 0} (n : Network A) (commands : ℕ → List Input) (captures : ℕ → ℕ → List CapturedFrame)
    (o : ℕ → Outcome A) : Type 0 where
  pub inputs : ℕ → List Input
  pub left : ℕ → ℕ → List CapturedFrame
  pub merged : (b : ℕ) (p : Plan A) → slice_get n.bridges b ≡ Some p
      → IsMerged (port_inputs n.links commands captures left b) (inputs b)
  pub ends : AllRunsEnd n.bridges inputs left o
