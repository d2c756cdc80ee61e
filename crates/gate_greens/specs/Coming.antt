-- Inputs of a network's bridges from outside.
use Rattle.std.specs.Prelude.{List, [], ◌∷◌}
use Rattle.bridge_config.specs.Model.{Plan}
use Rattle.net_run.specs.declared.bridge_run.BridgeInput.{BridgeInput}
use Rattle.net_run.specs.BridgeRuns.{IsBridgeInput}

-- Holds if both lists have equal length, and each bridge input fits the plan at its index.
abbrev pub AllIncoming : {A : Type 0} → List (Plan A) → List (BridgeInput A) → Type 0
AllIncoming [] [] = Unit {0}
AllIncoming (p ∷ ps) (c ∷ cs) = IsBridgeInput p c × AllIncoming ps cs
AllIncoming ps cs = ⊥
