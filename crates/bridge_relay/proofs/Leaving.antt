-- The frames that have left a port, over offers and starts.
use Rattle.std.proofs.Common.{◌≡◌, ℕ, ◌+◌, ◌<◌, ◌≤◌, List, [], ◌∷◌, ◌++◌, length, arith, refl, ap, ◌∙◌, sym, subst, inl, inr}
use Rattle.bridge_limits.specs.Members.{IsMember}
use Rattle.bridge_limits.proofs.Members.{in_left, rising_push, in_push, in_end}
use Rattle.bridge_capture.specs.Grammar.{CapturedFrame}
use Rattle.bridge_frame.specs.declared.Speed.{Speed}
use Rattle.bridge_frame.specs.Link.{transmission_time}
use Rattle.bridge_frame.proofs.Times.{occupied_some}
use Rattle.bridge_port.specs.Schedule.{Started, Copy, StartsOldest}
use Rattle.bridge_port.proofs.Members.{begun_to, begun_from, begun_there, same_start}
use Rattle.bridge_semantics.specs.Offers.{CarriedFrame}
use Rattle.bridge_semantics.specs.Outputs.{LeavesEarlier, IsOutput, departed_frame}
use Rattle.bridge_relay.specs.declared.port_state.PortState.{PortState}
use Rattle.bridge_relay.specs.RelayState.{HasLeft}

-- A change that keeps speed, free time and starts keeps the departures.
pub left_same : {A : Type 0} (s t : PortState A) (xs : List (Copy CarriedFrame)) (left : List CapturedFrame) → t.speed ≡ s.speed → t.port.free ≡ s.port.free → t.port.started ≡ s.port.started → HasLeft s xs left → HasLeft t xs left
left_same s t xs left speed free started h = record {
  output = subst (λ (v : Speed). IsOutput v xs left) (sym speed) h.output;
  before = λ d i. let z = h.before d i in omega (arith, free, z);
  many = started ∙ h.many;
}

output_pushed : (speed : Speed) (y : Copy CarriedFrame) (xs : List (Copy CarriedFrame)) (left : List CapturedFrame) → ((k : ℕ) → y.fate ≡ Started k → ⊥) → IsOutput speed xs left → IsOutput speed (y ∷ xs) left
output_pushed speed y xs left waits h = record {
  rises = h.rises;
  members = λ d. (
    (λ i. let w = (h.members d).0 i in record { copy = w.copy; start = w.start; listed = inr w.listed; started = w.started; is = w.is }),
    (λ w. elim w.listed [
      | inl e ↦ absurd (waits w.start (ap (λ (z : Copy CarriedFrame). z.fate) (sym e) ∙ w.started))
      | inr l ↦ (h.members d).1 (record { copy = w.copy; start = w.start; listed = l; started = w.started; is = w.is })
    ]),
  );
}

-- A copy that hasn't started adds no departure.
pub left_pushed : {A : Type 0} (s t : PortState A) (y : Copy CarriedFrame) (xs : List (Copy CarriedFrame)) (left : List CapturedFrame) → t.speed ≡ s.speed → t.port.free ≡ s.port.free → t.port.started ≡ s.port.started → ((k : ℕ) → y.fate ≡ Started k → ⊥) → HasLeft s xs left → HasLeft t (y ∷ xs) left
left_pushed s t y xs left speed free started waits h = left_same s t (y ∷ xs) left speed free started (record { output = output_pushed s.speed y xs left waits h.output; before = h.before; many = h.many })

output_begun : (speed : Speed) (c k i : ℕ) (item : CarriedFrame) (xs ys : List (Copy CarriedFrame)) (left : List CapturedFrame) → StartsOldest c k i item xs ys → ((d : CapturedFrame) → IsMember d left → d.time ≤ k) → IsOutput speed xs left → IsOutput speed ys (left ++ departed_frame speed k item ∷ [])
output_begun speed c k i item xs ys left b early h =
    let d = departed_frame speed k item in
    record {
      rises = rising_push LeavesEarlier left d h.rises (λ e j. let before = early e j in let some = occupied_some item.len speed in let z : e.time < k + transmission_time item.len speed = omega arith in z);
      members = λ e. (
        (λ j. elim (in_push e d left j) [
          | inl l ↦
              let was = (h.members e).0 l in
              record { copy = was.copy; start = was.start; listed = begun_from c k i item xs ys b was.copy was.start was.started was.listed; started = was.started; is = was.is }
          | inr z ↦
              let one = begun_there c k i item xs ys b in
              record { copy = one.0; start = k; listed = one.1; started = one.2; is = z ∙ ap (departed_frame speed k) (sym one.3) }
        ]),
        (λ w. elim (begun_to c k i item xs ys b w.copy w.listed) [
          | inl l ↦ in_left e left (d ∷ []) ((h.members e).1 (record { copy = w.copy; start = w.start; listed = l; started = w.started; is = w.is }))
          | inr n ↦
              let at : w.start ≡ k = same_start w.start k (sym w.started ∙ n.0) in
              let is : e ≡ d = w.is ∙ (ap (λ (s : ℕ). departed_frame speed s w.copy.item) at ∙ ap (departed_frame speed k) n.1) in
              subst (λ (z : CapturedFrame). IsMember z (left ++ d ∷ [])) (sym is) (in_end d left)
        ]),
      );
    }

longer_end : (xs : List CapturedFrame) (y : CapturedFrame) → length (xs ++ y ∷ []) ≡ length xs + 1
longer_end [] y = refl
longer_end (x ∷ xs) y = let h = longer_end xs y in omega arith

-- A started frame leaves after all earlier departures.
pub left_begun : {A : Type 0} (s t : PortState A) (c k i : ℕ) (item : CarriedFrame) (xs ys : List (Copy CarriedFrame)) (left : List CapturedFrame) → StartsOldest c k i item xs ys → t.speed ≡ s.speed → t.port.free ≡ k + transmission_time item.len s.speed → t.port.started ≡ s.port.started + 1 → s.port.free ≤ k → HasLeft s xs left → HasLeft t ys (left ++ departed_frame s.speed k item ∷ [])
left_begun s t c k i item xs ys left b speed free started on h =
    let early : (d : CapturedFrame) → IsMember d left → d.time ≤ k = λ d j. let z = h.before d j in omega (arith, z, on) in
    record {
      output = subst (λ (v : Speed). IsOutput v ys (left ++ departed_frame s.speed k item ∷ [])) (sym speed) (output_begun s.speed c k i item xs ys left b early h.output);
      before = λ e j. elim (in_push e (departed_frame s.speed k item) left j) [
        | inl l ↦ (let y = early e l in omega (arith, y, free))
        | inr z ↦ (let y : e.time ≡ k + transmission_time item.len s.speed = ap (λ (v : CapturedFrame). v.time) z in omega (arith, y, free))
      ];
      many = let m = h.many in let l = longer_end left (departed_frame s.speed k item) in omega (arith, m, l, started);
    }
