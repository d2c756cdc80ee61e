-- Walks along steps from port to port, and walks that return to their start.
use Rattle.std.specs.Prelude.{List, [], ◌∷◌}
use Rattle.bridge_limits.specs.Members.{IsMember}
use Rattle.net_model.specs.declared.links.BridgePort.{BridgePort}
use Rattle.net_model.specs.declared.step.Step.{Step}

-- The step by which a frame goes from port `x` to port `y`.
abbrev pub step : BridgePort → BridgePort → Step
step x y = record { from = x; to = y }

-- Holds if steps lead from `x` to `y` by the ports in the last list, in order.
abbrev pub IsWalk : List Step → BridgePort → BridgePort → List BridgePort → Type 0
IsWalk steps x y [] = IsMember (step x y) steps
IsWalk steps x y (z ∷ zs) = IsMember (step x z) steps × IsWalk steps z y zs

-- Holds if one or more steps lead from `x` to `y`.
abbrev pub HasWalk : List Step → BridgePort → BridgePort → Type 0
HasWalk steps x y = (between : List BridgePort) × IsWalk steps x y between

-- Holds if one or more steps lead from `x` back to `x`.
abbrev pub IsOnLoop : List Step → BridgePort → Type 0
IsOnLoop steps x = HasWalk steps x x
