-- The order of a bridge's inputs: by time, at equal times commands first, then by port.
use Rattle.std.specs.Prelude.{◌≡◌, ℕ, ◌<◌, ◌≤◌, nat_eq, List, [], ◌∷◌, ◌++◌, map, if◌then◌else◌, ◌⊎◌}
use Rattle.bridge_limits.specs.Members.{IsMember, IsOrdered}
use Rattle.bridge_capture.specs.Grammar.{CapturedFrame}
use Rattle.bridge_filter.specs.declared.Clear.{Clear}
use Rattle.bridge_filter.specs.declared.FilterPlan.{FilterPlan}
use Rattle.bridge_config.specs.declared.command.Command.{Command}
use Rattle.bridge_config.specs.Model.{Plan}
use Rattle.bridge_semantics.specs.Events.{Event, Arrived, Cleared, arrival, is_own_event}

-- An input of a bridge: its time in ns, its rank (the ingress port from 1, or 0 for a command), and its event.
pub record Input : Type 0 where
  pub at : ℕ
  pub rank : ℕ
  pub event : Event

-- The input for captured frame `c` on port `q`: its time is the frame's arrival time in ns, and its rank is `q`.
abbrev pub capture_input : ℕ → CapturedFrame → Input
capture_input q c = record { at = c.time; rank = q; event = Arrived (arrival c.time q c.octets c.len) }

-- Builds the input of rank 0 for a command at time `at` in ns that clears the flag `clear` of filter, gate or meter
-- `n`.
abbrev pub command_input : ℕ → Clear → ℕ → Input
command_input at clear n = record { at = at; rank = 0; event = Cleared clear n }

-- Holds if input `a` is later than input `b`, or has the same time and an equal or greater rank.
abbrev pub FollowsInput : Input → Input → Type 0
FollowsInput a b = (b.at < a.at) ⊎ ((b.at ≡ a.at) × (b.rank ≤ a.rank))

-- Holds if input `a` has a strictly later time than input `b`.
abbrev pub IsLater : Input → Input → Type 0
IsLater a b = b.at < a.at

-- Holds if the event is a frame with arrival time `t` in ns, or any command.
abbrev pub IsTimed : ℕ → Event → Type 0
IsTimed t (Arrived a) = a.at ≡ t
IsTimed t (Cleared clear m) = Unit {0}

-- Holds if each input that is a frame has the frame's arrival time; an input that is a command may have any time.
abbrev pub AreTimed : List Input → Type 0
AreTimed xs = (x : Input) → IsMember x xs → IsTimed x.at x.event

-- The inputs in the list with rank `q`, in list order: the commands if `q` is 0, otherwise the frames of port `q`.
abbrev pub inputs_by_rank : ℕ → List Input → List Input
inputs_by_rank q [] = []
inputs_by_rank q (x ∷ xs) = if nat_eq x.rank q then x ∷ inputs_by_rank q xs else inputs_by_rank q xs

-- Holds if `inputs` is ordered by time and rank, newest first, and its inputs of each rank `q` are exactly `input_streams q`. At equal times, commands come
-- first, then lower ports.
pub record IsMerged (input_streams : ℕ → List Input) (inputs : List Input) : Type 0 where
  pub in_order : IsOrdered FollowsInput inputs
  pub each : (q : ℕ) → inputs_by_rank q inputs ≡ input_streams q

-- The events of the inputs, one for each input, in list order.
abbrev pub input_events : List Input → List Event
input_events inputs = map (λ x. x.event) inputs

-- The time of the newest input in ns; 0 if the list is empty.
abbrev pub newest_time : List Input → ℕ
newest_time [] = 0
newest_time (x ∷ xs) = x.at

-- Turns the captured frames of port `q` into inputs. The list of frames has the oldest first, the list of inputs the
-- newest first.
abbrev pub capture_inputs : ℕ → List CapturedFrame → List Input
capture_inputs q [] = []
capture_inputs q (c ∷ cs) = capture_inputs q cs ++ capture_input q c ∷ []

-- The input for command `c`: its time in ns, the flag that it clears, and the number of the filter, gate or meter.
abbrev pub command_as_input : Command → Input
command_as_input c = command_input c.at c.clear c.number

-- Turns commands into inputs. The list of commands has the oldest first, the list of inputs the newest first.
abbrev pub commands_of : List Command → List Input
commands_of [] = []
commands_of (c ∷ cs) = commands_of cs ++ command_as_input c ∷ []

-- The inputs of rank `q`, newest first: the commands if `q` is 0, otherwise the captured frames of port `q`.
abbrev pub input_streams : List Input → (ℕ → List CapturedFrame) → ℕ → List Input
input_streams commanded frames q = if nat_eq q 0 then commanded else capture_inputs q (frames q)

-- The inputs in the list, in list order, whose events are own events of filter `n`.
abbrev pub own_inputs : {A : Type 0} → Plan A → ℕ → FilterPlan → List Input → List Input
own_inputs p n f [] = []
own_inputs p n f (x ∷ more) = if is_own_event p n f x.event then x ∷ own_inputs p n f more else own_inputs p n f more
