-- Received frames have at most as many captured octets as their length on the link.
use Rattle.std.proofs.Common.{ℕ, List, [], ◌∷◌, Some, None, ◌≡◌, refl, inl, inr}
use Rattle.bridge_limits.specs.Members.{IsMember}
use Rattle.bridge_capture.specs.Grammar.{AtEnd, CapturedFrame, IsCapture}
use Rattle.bridge_config.specs.declared.command.Command.{Command}
use Rattle.bridge_config.specs.declared.ports.PortPlan.{PortPlan}
use Rattle.bridge_config.specs.Model.{Plan}
use Rattle.bridge_config.specs.Rules.{find_port}
use Rattle.bridge_semantics.specs.Events.{Arrived, Cleared, Event}
use Rattle.bridge_semantics.specs.Merge.{Input, IsMerged, commands_of, input_events, input_streams}
use Rattle.bridge_bounds.specs.GateFrames.{AreWithinLengths}
use Rattle.net_run.specs.Rounds.{IsWithinLength}
use Rattle.net_run.proofs.CapturedLengths.{each_within}

pub each_short : (inputs : List Input) → ((x : Input) → IsMember x inputs → IsWithinLength x.event) → AreWithinLengths (input_events inputs)
each_short [] each = tt
each_short (x ∷ xs) each = one x.event xs (each x (inl refl)) (each_short xs (λ y i. each y (inr i))) where
  one : (e : Event) (ys : List Input) → IsWithinLength e → AreWithinLengths (input_events ys) → AreWithinLengths (e ∷ input_events ys)
  one (Arrived a) ys here more = (here, more)
  one (Cleared clear n) ys here more = more

pub are_within : {A : Type 0} (p : Plan A) (commands : List Command) (texts : ℕ → List ℕ) (frames : ℕ → List CapturedFrame) (inputs : List Input)
    → ((q : ℕ) (out : PortPlan A) → find_port p.ports q ≡ Some out → IsCapture (texts q) (frames q) AtEnd)
    → ((q : ℕ) → find_port p.ports q ≡ None → frames q ≡ [])
    → IsMerged (input_streams (commands_of commands) frames) inputs → AreWithinLengths (input_events inputs)
are_within p commands texts frames inputs reads others merged = each_short inputs (each_within p commands frames inputs (λ q out at. (texts q, reads q out at)) others merged)
