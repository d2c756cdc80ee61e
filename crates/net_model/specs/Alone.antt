-- Runs of a network in which only one stream sends frames.
use Rattle.std.specs.Prelude.{◌≡◌, ℕ, true, Option, Some, None, List, ◌↔◌}
use Rattle.bridge_limits.specs.Members.{IsMember, IsOrdered}
use Rattle.bridge_capture.specs.Grammar.{CapturedFrame}
use Rattle.bridge_filter.specs.declared.FilterPlan.{FilterPlan}
use Rattle.bridge_port.specs.Schedule.{Copy, Started}
use Rattle.bridge_config.specs.declared.ports.PortPlan.{PortPlan}
use Rattle.bridge_config.specs.Model.{Plan}
use Rattle.bridge_config.specs.Rules.{find_port}
use Rattle.bridge_semantics.specs.declared.outcome.View.{View}
use Rattle.bridge_semantics.specs.Events.{is_own_event}
use Rattle.bridge_semantics.specs.Offers.{CarriedFrame}
use Rattle.bridge_semantics.specs.Merge.{AreTimed, FollowsInput, Input, IsLater, capture_input, input_events, inputs_by_rank, own_inputs}
use Rattle.bridge_semantics.specs.Outputs.{departed_frame}
use Rattle.bridge_semantics.specs.Runs.{AreSolo, IsFilterView}
use Rattle.net_model.specs.Networks.{Network, Sender, sender, delayed_frame, external_inputs, Hop, hop, IsHop}

-- Holds if input `x` at port `q` is an own frame of hop `h` from another hop of the stream. That hop sent it from bridge port `s.from` one
-- link delay earlier.
pub record ArrivesOverLink {A : Type 0} (n : Network A) (stream : List (ℕ × ℕ)) (lists : Hop A → ℕ → ℕ → List (Copy CarriedFrame))
    (h : Hop A) (q : ℕ) (s : Sender) (x : Input) : Type 0 where
  pub plan : Plan A
  pub number : ℕ
  pub filter : FilterPlan
  pub is : IsHop n stream (hop s.from.bridge plan number filter)
  pub out : PortPlan A
  pub at : find_port plan.ports s.from.port ≡ Some out
  pub class : ℕ
  pub copy : Copy CarriedFrame
  pub start : ℕ
  pub listed : IsMember copy (lists (hop s.from.bridge plan number filter) s.from.port class)
  pub started : copy.fate ≡ Started start
  pub input : x ≡ capture_input q (delayed_frame s.delay (departed_frame out.speed start copy.item))
  pub own : is_own_event h.plan h.number h.filter x.event ≡ true

-- The own inputs of hop `h` from outside, newest first: its commands if `q` is 0, otherwise its frames in the capture
-- of port `q`.
abbrev pub own_external_inputs : {A : Type 0} → Hop A → (ℕ → List Input) → (ℕ → ℕ → List CapturedFrame) → ℕ → List Input
own_external_inputs h commands captures q = own_inputs h.plan h.number h.filter (external_inputs commands captures h.bridge q)

-- Holds if copy `x` is in `lists q c`, the copies of the queue of class `c` at port `q`, for some class `c`.
abbrev pub IsQueuedAtPort : (ℕ → ℕ → List (Copy CarriedFrame)) → ℕ → Copy CarriedFrame → Type 0
IsQueuedAtPort lists q x = (c : ℕ) × IsMember x (lists q c)

-- Holds if each hop's record results only from its own inputs from outside and the stream's frames over links. `own`
-- has the inputs of each hop, `lists` the copies of its queues.
pub record IsAlone {A : Type 0} (n : Network A) (commands : ℕ → List Input) (captures : ℕ → ℕ → List CapturedFrame)
    (stream : List (ℕ × ℕ)) (views : Hop A → Option (View A)) : Type 0 where
  pub own : Hop A → List Input
  pub lists : Hop A → ℕ → ℕ → List (Copy CarriedFrame)
  pub order : (h : Hop A) → IsHop n stream h → IsOrdered FollowsInput (own h)
  pub timed : (h : Hop A) → IsHop n stream h → AreTimed (own h)
  pub first : (h : Hop A) (q : ℕ) → IsHop n stream h → sender n.links h.bridge q ≡ None
      → inputs_by_rank q (own h) ≡ own_external_inputs h commands captures q
  pub apart : (h : Hop A) (q : ℕ) (s : Sender) → IsHop n stream h → sender n.links h.bridge q ≡ Some s
      → IsOrdered IsLater (inputs_by_rank q (own h))
  pub next : (h : Hop A) (q : ℕ) (s : Sender) → IsHop n stream h → sender n.links h.bridge q ≡ Some s
      → (x : Input) → IsMember x (inputs_by_rank q (own h)) ↔ ArrivesOverLink n stream lists h q s x
  pub solo : (h : Hop A) → IsHop n stream h → AreSolo h.plan (input_events (own h)) (lists h)
  pub view : (h : Hop A) (v : View A) → IsHop n stream h → views h ≡ Some v
      → IsFilterView h.plan h.number h.filter (input_events (own h)) (IsQueuedAtPort (lists h)) v

-- Holds if each stream hop's own frames on open ports, and its own commands, are equal in both sets of inputs from
-- outside.
abbrev pub HaveSameExternalInputs : {A : Type 0} → Network A → List (ℕ × ℕ) → (ℕ → List Input) → (ℕ → ℕ → List CapturedFrame)
    → (ℕ → List Input) → (ℕ → ℕ → List CapturedFrame) → Type 0
HaveSameExternalInputs {A} n stream commands captures others frames =
    (h : Hop A) (q : ℕ) → IsHop n stream h → sender n.links h.bridge q ≡ None
    → own_external_inputs h commands captures q ≡ own_external_inputs h others frames q
