-- Search for the ports that steps reach from a start. No contract of a public function uses these definitions.
use Rattle.std.specs.Prelude.{◌≡◌, ◌⊎◌, Bool, ◌||◌, not, List, [], ◌∷◌, ◌++◌, map}
use Rattle.std.specs.List.{filter}
use Rattle.bridge_limits.specs.Members.{IsMember}
use Rattle.net_model.specs.declared.links.BridgePort.{BridgePort}
use Rattle.net_model.specs.declared.step.Step.{Step}
use Rattle.net_model.specs.Walks.{HasWalk, step}
use Rattle.net_model.specs.Pruning.{has_port, is_same_port}

-- True if port `x` is the start of the search for a loop, or was reached from it.
abbrev pub is_reached : BridgePort → List BridgePort → BridgePort → Bool
is_reached start reached x = is_same_port start x || has_port reached x

-- True if step `s` begins neither at `start` nor at a reached port.
abbrev pub is_unexplored : BridgePort → List BridgePort → Step → Bool
is_unexplored start reached s = not (is_reached start reached s.from)

-- The ports that one step reaches from `start` or from a reached port.
abbrev pub reached_targets : BridgePort → List BridgePort → List Step → List BridgePort
reached_targets start reached steps = map (λ (s : Step). s.to) (filter (λ (s : Step). is_reached start reached s.from) steps)

-- Holds if walks lead from `start` to the reached ports, and each step is pending or its end is reached.
pub record IsSearchState (steps : List Step) (start : BridgePort) (reached : List BridgePort) (pending : List Step) : Type 0 where
  pub within : (s : Step) → IsMember s pending → IsMember s steps
  pub sound : (y : BridgePort) → IsMember y reached → HasWalk steps start y
  pub covered : (a b : BridgePort) → IsMember (step a b) steps → IsMember (step a b) pending ⊎ IsMember b reached
