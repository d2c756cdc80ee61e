-- The record of one filter changes.
use Rattle.std.proofs.Common.{◌≡◌, false, List, [], ◌∷◌, ◌++◌, ◌∙◌, ap}
use Rattle.bridge_filter.specs.declared.Verdict.{Verdict}
use Rattle.bridge_semantics.specs.declared.outcome.Origin.{Origin}
use Rattle.bridge_relay.specs.Recorders.{RecorderState, with_verdict}

pub judged_is : (t now : RecorderState) (vs : List Verdict) (os : List Origin) (v : Verdict) (o : Origin) → t ≡ now → vs ≡ t.verdicts ++ v ∷ [] → os ≡ t.origins ++ o ∷ [] → record t { verdicts = vs; origins = os; is_open = false } ≡ with_verdict now v o
judged_is t now vs os v o is verdicts origins =
    ap (λ (z : List Verdict). record t { verdicts = z; origins = os; is_open = false }) verdicts
    ∙ (ap (λ (z : List Origin). record t { verdicts = t.verdicts ++ v ∷ []; origins = z; is_open = false }) origins
    ∙ ap (λ (z : RecorderState). with_verdict z v o) is)
