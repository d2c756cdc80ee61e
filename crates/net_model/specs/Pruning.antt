-- Removal of steps that lie on no loop. No contract of a public function uses these definitions.
use Rattle.std.specs.Prelude.{Bool, ◌&&◌, nat_eq, List}
use Rattle.std.specs.List.{list_any}
use Rattle.bridge_limits.specs.Members.{IsMember}
use Rattle.net_model.specs.declared.links.BridgePort.{BridgePort}
use Rattle.net_model.specs.declared.step.Step.{Step}
use Rattle.net_model.specs.Walks.{IsOnLoop}

-- True if two bridge ports are equal: in bridge index and port number.
abbrev pub is_same_port : BridgePort → BridgePort → Bool
is_same_port a b = nat_eq a.bridge b.bridge && nat_eq a.port b.port

-- True if `places` contains port `x`.
abbrev pub has_port : List BridgePort → BridgePort → Bool
has_port places x = list_any (λ (y : BridgePort). is_same_port y x) places

-- True if one of the steps begins at port `x`; other ports are on no loop.
abbrev pub has_outgoing_step : List Step → BridgePort → Bool
has_outgoing_step steps x = list_any (λ (s : Step). is_same_port s.from x) steps

-- True if one of the steps ends at port `x`; other ports are on no loop.
abbrev pub has_incoming_step : List Step → BridgePort → Bool
has_incoming_step steps x = list_any (λ (s : Step). is_same_port s.to x) steps

-- True if a step begins where step `s` ends, and a step ends where `s` begins.
abbrev pub is_inner_step : List Step → Step → Bool
is_inner_step steps s = has_outgoing_step steps s.to && has_incoming_step steps s.from

-- Holds if all steps of `kept` are steps of `steps`, and `kept` has each loop of `steps`.
pub record IsPruned (steps kept : List Step) : Type 0 where
  pub within : (s : Step) → IsMember s kept → IsMember s steps
  pub keeps : (x : BridgePort) → IsOnLoop steps x → IsOnLoop kept x
