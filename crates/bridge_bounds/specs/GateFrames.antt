-- Frames that arrive at a queue in a span of time, and frames that a stream gate passes.
use Rattle.std.specs.Prelude.{◌≡◌, ℕ, true, false, ◌+◌, ◌/◌, ◌<◌, ◌≤◌, ◌&&◌, max, nat_le, nat_lt, Option, None, Some, option_map, List, [], ◌∷◌, length, if◌then◌else◌}
use Rattle.bridge_cycle.specs.declared.timeline.Turn.{Turn}
use Rattle.bridge_gate.specs.declared.stream_gate.GateAnswer.TheVariants.{Through}
use Rattle.bridge_gate.specs.declared.schedule.GateEntry.{GateEntry}
use Rattle.bridge_gate.specs.Gates.{Asked, GateEvent, GateStep, Answered}
use Rattle.bridge_port.specs.Schedule.{Copy, is_started}
use Rattle.bridge_semantics.specs.Events.{Arrived, Cleared, Event}

-- Number of times in the list that are at most `t` and less than `w` ns before `t`.
abbrev pub count_recent : ℕ → ℕ → List ℕ → ℕ
count_recent w t [] = 0
count_recent w t (u ∷ us) = (if nat_le u t && nat_lt t (u + w) then 1 else 0) + count_recent w t us

-- Holds if any `w` ns contain at most `n` of the times in ns. The list has the newest time first.
abbrev pub AreSeldom : ℕ → ℕ → List ℕ → Type 0
AreSeldom w n [] = Unit {0}
AreSeldom w n (t ∷ ts) = (count_recent w t ts < n) × AreSeldom w n ts

-- The offer times in ns of the copies that started, in list order.
abbrev pub offer_times : {X : Type 0} → List (Copy X) → List ℕ
offer_times [] = []
offer_times (x ∷ xs) = if is_started x.fate then x.at ∷ offer_times xs else offer_times xs

-- The arrival times of the frames that a stream gate passed.
abbrev pub pass_times : List GateStep → List ℕ
pass_times [] = []
pass_times (Answered t n (Through ipv) ∷ ss) = t ∷ pass_times ss
pass_times (s ∷ ss) = pass_times ss

-- Holds if each frame at the stream gate has an SDU of at least two octets, the size of an EtherType.
abbrev pub HaveEtherTypes : List GateEvent → Type 0
HaveEtherTypes [] = Unit {0}
HaveEtherTypes (Asked t n ∷ es) = (2 ≤ n) × HaveEtherTypes es
HaveEtherTypes (e ∷ es) = HaveEtherTypes es

-- Holds if an octet limit is present and passes at most `k` frames with SDUs of at least two octets.
abbrev pub IsFrameLimit : Option ℕ → ℕ → Type 0
IsFrameLimit None k = ⊥
IsFrameLimit (Some limit) k = limit / 2 ≤ k

-- Holds if two times in two different open intervals of a stream gate are always at least `w` ns apart. The function
-- `turn_at` gives the interval that contains a time.
abbrev pub AreTurnsApart : (ℕ → Option (Turn GateEntry)) → ℕ → Type 0
AreTurnsApart turn_at w =
    (t u : ℕ) (x y : Turn GateEntry) → t < u → turn_at t ≡ Some x → turn_at u ≡ Some y → x.state.lets ≡ true → y.state.lets ≡ true → ¬ (x.start ≡ y.start) → t + w ≤ u

-- Holds if each open interval has an octet limit that passes at most `k` frames. Times in different open intervals must
-- be at least `w` ns apart.
pub record LetsFew (turn_at : ℕ → Option (Turn GateEntry)) (k w : ℕ) : Type 0 where
  pub few : (t : ℕ) (x : Turn GateEntry) → turn_at t ≡ Some x → x.state.lets ≡ true → IsFrameLimit x.state.octets k
  pub apart : AreTurnsApart turn_at w

-- Holds if the stream gate is closed from time `from` up to, not including, time `until`.
abbrev pub IsShut : (ℕ → Option (Turn GateEntry)) → ℕ → ℕ → Type 0
IsShut turn_at from until = (u : ℕ) (x : Turn GateEntry) → from ≤ u → u < until → turn_at u ≡ Some x → x.state.lets ≡ false

-- The greatest number of frames that entry `e` passes in one interval: 0 if closed, `None` if open without limit. Each
-- frame has at least 2 SDU octets.
abbrev pub max_entry_frames : GateEntry → Option ℕ
max_entry_frames e = if e.lets then option_map (λ limit. limit / 2) e.octets else Some 0

-- The greater of two optional numbers; `None`, which means unlimited, if at least one of them is `None`.
abbrev pub greater_of_both : Option ℕ → Option ℕ → Option ℕ
greater_of_both None b = None
greater_of_both (Some a) None = None
greater_of_both (Some a) (Some b) = Some (max a b)

-- The greatest number of frames that any entry of the list passes in one interval; `None` if an open entry has no octet
-- limit.
abbrev pub max_list_frames : List (GateEntry × ℕ) → Option ℕ
max_list_frames [] = Some 0
max_list_frames (e ∷ es) = greater_of_both (max_entry_frames e.0) (max_list_frames es)

-- The optional number of frames `k` if it is present and less than the queue capacity `room`; otherwise `None`.
abbrev pub frames_below_room : ℕ → Option ℕ → Option ℕ
frames_below_room room None = None
frames_below_room room (Some k) = if nat_lt k room then Some k else None

-- Holds if each received frame among the events has at most as many captured octets as its length on the link.
abbrev pub AreWithinLengths : List Event → Type 0
AreWithinLengths [] = Unit {0}
AreWithinLengths (Arrived a ∷ es) = (length a.octets ≤ a.len) × AreWithinLengths es
AreWithinLengths (Cleared clear n ∷ es) = AreWithinLengths es
