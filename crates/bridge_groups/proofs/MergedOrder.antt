-- Merged captures and commands arrive in order.
use Rattle.std.proofs.Common.{◌≡◌, ◌≤◌, ℕ, true, List, [], ◌∷◌, arith, ap, refl, sym, subst, inl, inr}
use Rattle.std.specs.Prelude.{nat_eq}
use Rattle.bridge_limits.specs.Members.{IsMember, IsOrdered}
use Rattle.bridge_limits.proofs.Members.{in_either}
use Rattle.bridge_limits.proofs.Cases.{by_bool}
use Rattle.bridge_limits.proofs.Orders.{same_eq}
use Rattle.bridge_capture.specs.Grammar.{CapturedFrame}
use Rattle.bridge_config.specs.declared.command.Command.{Command}
use Rattle.bridge_semantics.specs.Events.{Arrival, Arrived, Cleared, Event, arrival}
use Rattle.bridge_semantics.specs.Merge.{FollowsInput, Input, IsMerged, capture_input, capture_inputs, command_as_input, commands_of, input_events, input_streams, inputs_by_rank}
use Rattle.bridge_semantics.proofs.Views.{after_all}
use Rattle.bridge_groups.specs.Curves.{AreArrivalsInOrder, last_arrival_time}

-- Holds if the arrival time of the input's frame is the input's time.
abbrev pub HasInputTime : Input → Type 0
HasInputTime x = (a : Arrival) → x.event ≡ Arrived a → a.at ≡ x.at

same_arrival : (a b : Arrival) → Arrived a ≡ Arrived b → a ≡ b
same_arrival a b h = cc

-- MEMBERS

in_rank : (x : Input) (xs : List Input) → IsMember x xs → IsMember x (inputs_by_rank x.rank xs)
in_rank x [] i = absurd i
in_rank x (y ∷ xs) (inl same) = let own : nat_eq y.rank x.rank ≡ true = subst (λ (z : Input). nat_eq z.rank x.rank ≡ true) same (same_eq x.rank) in rw own (inl same)
in_rank x (y ∷ xs) (inr i) = by_bool (nat_eq y.rank x.rank) (λ k. rw k (inr (in_rank x xs i))) (λ k. rw k (in_rank x xs i))

frame_timed : (q : ℕ) (c : CapturedFrame) → HasInputTime (capture_input q c)
frame_timed q c a is = ap (λ (z : Arrival). z.at) (sym (same_arrival (arrival c.time q c.octets c.len) a is))

pub inputs_timed : (q : ℕ) (cs : List CapturedFrame) (x : Input) → IsMember x (capture_inputs q cs) → HasInputTime x
inputs_timed q [] x i = absurd i
inputs_timed q (c ∷ cs) x i = elim (in_either x (capture_inputs q cs) (capture_input q c ∷ []) i) [
  | inl before ↦ inputs_timed q cs x before
  | inr last ↦ elim last [ inl same ↦ subst HasInputTime (sym same) (frame_timed q c) | inr none ↦ absurd none ]
]

pub commands_timed : (cs : List Command) (x : Input) → IsMember x (commands_of cs) → HasInputTime x
commands_timed [] x i = absurd i
commands_timed (c ∷ cs) x i = elim (in_either x (commands_of cs) (command_as_input c ∷ []) i) [
  | inl before ↦ commands_timed cs x before
  | inr last ↦ elim last [ inl same ↦ subst HasInputTime (sym same) (λ a is. absurd (cc)) | inr none ↦ absurd none ]
]

all_timed : (cs : List Command) (frames : ℕ → List CapturedFrame) (xs : List Input) → IsMerged (input_streams (commands_of cs) frames) xs → (x : Input) → IsMember x xs → HasInputTime x
all_timed cs frames xs merged x i =
    let own : IsMember x (input_streams (commands_of cs) frames x.rank) = subst (IsMember x) (merged.each x.rank) (in_rank x xs i) in
    by_bool (nat_eq x.rank 0)
    (λ k. let j : IsMember x (commands_of cs) = rw k at own in commands_timed cs x j)
    (λ k. let j : IsMember x (capture_inputs x.rank (frames x.rank)) = rw k at own in inputs_timed x.rank (frames x.rank) x j)

-- ORDER

event_upto : (t : ℕ) (x : Input) (xs : List Input) (e : Event) → x.event ≡ e → HasInputTime x → x.at ≤ t → last_arrival_time (input_events xs) ≤ t → last_arrival_time (e ∷ input_events xs) ≤ t
event_upto t x xs (Arrived a) is timed upto rest = let own = timed a is in omega (arith, own, upto)
event_upto t x xs (Cleared c n) is timed upto rest = rest

last_upto : (t : ℕ) (xs : List Input) → ((x : Input) → IsMember x xs → HasInputTime x) → ((x : Input) → IsMember x xs → x.at ≤ t) → last_arrival_time (input_events xs) ≤ t
last_upto t [] timed upto = omega arith
last_upto t (x ∷ xs) timed upto = event_upto t x xs x.event refl (timed x (inl refl)) (upto x (inl refl)) (last_upto t xs (λ y i. timed y (inr i)) (λ y i. upto y (inr i)))

no_later : (x y : Input) → FollowsInput x y → y.at ≤ x.at
no_later x y (inl l) = omega (arith, l)
no_later x y (inr (same, rank)) = omega (arith, same)

with_event : (x : Input) (xs : List Input) (e : Event) → x.event ≡ e → HasInputTime x → last_arrival_time (input_events xs) ≤ x.at → AreArrivalsInOrder (input_events xs) → AreArrivalsInOrder (e ∷ input_events xs)
with_event x xs (Arrived a) is timed upto rest = let own = timed a is in (omega (arith, own, upto), rest)
with_event x xs (Cleared c n) is timed upto rest = rest

pub in_order : (xs : List Input) → ((x : Input) → IsMember x xs → HasInputTime x) → IsOrdered FollowsInput xs → AreArrivalsInOrder (input_events xs)
in_order [] timed rising = tt
in_order (x ∷ xs) timed rising =
    let upto = last_upto x.at xs (λ y i. timed y (inr i)) (λ y i. no_later x y (after_all FollowsInput x y xs rising.0 i)) in
    with_event x xs x.event refl (timed x (inl refl)) upto (in_order xs (λ y i. timed y (inr i)) rising.1)

pub merged_arrivals_are_in_order : (cs : List Command) (frames : ℕ → List CapturedFrame) (xs : List Input) → IsMerged (input_streams (commands_of cs) frames) xs → AreArrivalsInOrder (input_events xs)
merged_arrivals_are_in_order cs frames xs merged = in_order xs (all_timed cs frames xs merged) merged.in_order
