-- Number of frames that a list passes in one interval, and the distance between its open intervals.
use Rattle.std.proofs.Common.{◌≡◌, ℕ, Bool, ◌<◌, ◌≤◌, ◌+◌, ◌-◌, ◌*◌, ◌/◌, ◌%◌, true, false, max, Option, None, Some, List, [], ◌∷◌, arith, ap, refl, sym, subst, ◌∙◌, inl, inr}
use Rattle.std.specs.Prelude.{nat_lt, option_map}
use Rattle.std.proofs.Math.Nat.{mod-lt}
use Rattle.std.proofs.lemmas.Bool.{cases_lt, false≢true}
use Rattle.std.proofs.lemmas.Option.{same_Some, none-some}
use lib.IntN.{pos}
use lib.Signed.{◌≤ℤ◌}
use Rattle.bridge_limits.specs.Members.{IsMember}
use Rattle.bridge_limits.proofs.Cases.{by_bool}
use Rattle.bridge_cycle.proofs.Lists.{among}
use Rattle.bridge_cycle.proofs.Turns.{same_to_end}
use Rattle.bridge_cycle.specs.Cyclic.{Cyclic, IsLawful, turn_by_time}
use Rattle.bridge_cycle.specs.CyclicLaws.{cyclic_turn_exists, cyclic_turn_is_exact}
use Rattle.bridge_cycle.specs.declared.timeline.Turn.{Turn}
use Rattle.bridge_gate.specs.declared.schedule.GateEntry.{GateEntry}
use Rattle.bridge_bounds.specs.GateFrames.{AreTurnsApart, IsFrameLimit, IsShut, frames_below_room, greater_of_both, max_entry_frames, max_list_frames}
use Rattle.bridge_bounds.proofs.Cycles.{turn_later}

-- NUMBER OF FRAMES

-- If two optional numbers have a greater one, both are present.
record AreBelow (a b : Option ℕ) (k : ℕ) : Type 0 where
  one : ℕ
  other : ℕ
  one_is : a ≡ Some one
  other_is : b ≡ Some other
  one_most : one ≤ k
  other_most : other ≤ k

below : (a b : Option ℕ) (k : ℕ) → greater_of_both a b ≡ Some k → AreBelow a b k
below None b k h = absurd (none-some k h)
below (Some i) None k h = absurd (none-some k h)
below (Some i) (Some j) k h =
    let is : max i j ≡ k = same_Some (max i j) k h in
    record { one = i; other = j; one_is = refl; other_is = refl; one_most = omega (arith, is); other_most = omega (arith, is) }

few_of : (o : Option ℕ) (i k : ℕ) → option_map (λ limit. limit / 2) o ≡ Some i → i ≤ k → IsFrameLimit o k
few_of None i k h most = absurd (none-some i h)
few_of (Some limit) i k h most = let is : limit / 2 ≡ i = same_Some (limit / 2) i h in omega (arith, is, most)

-- The limit of each open entry passes at most `j` frames.
entry_few : (es : List (GateEntry × ℕ)) (k j : ℕ) (e : GateEntry × ℕ) → max_list_frames es ≡ Some k → k ≤ j → IsMember e es → e.0.lets ≡ true → IsFrameLimit e.0.octets j
entry_few [] k j e h most i lets = absurd i
entry_few (y ∷ ys) k j e h most (inl same) lets =
    let both = below (max_entry_frames y.0) (max_list_frames ys) k h in
    let here : max_entry_frames e.0 ≡ Some both.one = ap (λ (z : GateEntry × ℕ). max_entry_frames z.0) same ∙ both.one_is in
    let own : option_map (λ limit. limit / 2) e.0.octets ≡ Some both.one = rw lets at here in
    let upto = both.one_most in
    few_of e.0.octets both.one j own (omega (arith, upto, most))
entry_few (y ∷ ys) k j e h most (inr later) lets =
    let both = below (max_entry_frames y.0) (max_list_frames ys) k h in
    let upto = both.other_most in
    entry_few ys both.other j e both.other_is (omega (arith, upto, most)) later lets

-- The limit of each open interval passes at most `k` frames.
pub turn_few : (l : Cyclic GateEntry) (k t : ℕ) (x : Turn GateEntry) → max_list_frames l.entries ≡ Some k → turn_by_time l t ≡ Some x → x.state.lets ≡ true → IsFrameLimit x.state.octets k
turn_few l k t x h at lets =
    let (e, i, same) = among l t x at in
    let own : e.0.lets ≡ true = subst (λ (s : GateEntry). s.lets ≡ true) (sym same) lets in
    subst (λ (s : GateEntry). IsFrameLimit s.octets k) same (entry_few l.entries k k e h (omega arith) i own)

-- The result is the largest number of frames, and is less than the capacity.
pub fewer_is : (room k : ℕ) (o : Option ℕ) → frames_below_room room o ≡ Some k → o ≡ Some k
fewer_is room k None h = absurd (none-some k h)
fewer_is room k (Some j) h = by_bool (nat_lt j room)
    (λ e. let own : Some j ≡ Some k = rw e at h in own)
    (λ e. let own : None ≡ Some k = rw e at h in absurd (none-some k own))

-- The entries that are left, and the result up to now.
pub most_more : (es : List (GateEntry × ℕ)) (e : GateEntry × ℕ) (k m : ℕ) (all : Option ℕ) → greater_of_both (Some k) (max_list_frames (e ∷ es)) ≡ all → max_entry_frames e.0 ≡ Some m → greater_of_both (Some (max m k)) (max_list_frames es) ≡ all
most_more es e k m all h is = by_rest (max_list_frames es) (rw is at h)
  where
    by_rest : (o : Option ℕ) → greater_of_both (Some k) (greater_of_both (Some m) o) ≡ all → greater_of_both (Some (max m k)) o ≡ all
    by_rest None h = h
    by_rest (Some j) h = let same : max (max m k) j ≡ max k (max m j) = omega arith in ap (λ (n : ℕ). Some n) same ∙ h

pub most_none : (es : List (GateEntry × ℕ)) (e : GateEntry × ℕ) (k : ℕ) (all : Option ℕ) → greater_of_both (Some k) (max_list_frames (e ∷ es)) ≡ all → max_entry_frames e.0 ≡ None → None ≡ all
most_none es e k all h is = let own : None ≡ all = rw is at h in own

-- DISTANCE OF INTERVALS

none_let : (b : Bool) → (b ≡ true → ⊥) → b ≡ false
none_let true h = absurd (h refl)
none_let false h = refl

-- An interval stays the same up to its end.
to_end : (l : Cyclic GateEntry) (t u : ℕ) (x : Turn GateEntry) → IsLawful l → turn_by_time l t ≡ Some x → t ≤ u → u < x.end → turn_by_time l u ≡ Some x
to_end l t u x lawful at p q = same_to_end (turn_by_time l) (λ t z k. (cyclic_turn_is_exact l t z lawful k).begins) (λ t v z k. (cyclic_turn_is_exact l t z lawful k).same v) t x at u p q

-- One interval more is closed.
pub shut_more : (l : Cyclic GateEntry) (from seen : ℕ) (x : Turn GateEntry) → IsLawful l → turn_by_time l seen ≡ Some x → x.state.lets ≡ false → IsShut (turn_by_time l) from seen → IsShut (turn_by_time l) from x.end
shut_more l from seen x lawful at shut below u y p q i = elim (cases_lt u seen) [
  | inl m ↦ below u y p m i
  | inr m ↦
      let is : x ≡ y = same_Some x y (sym (to_end l seen u x lawful at m q) ∙ i) in
      subst (λ (z : Turn GateEntry). z.state.lets ≡ false) is shut
]

-- If a frame passes, the stream gate isn't shut.
pub not_shut : (l : Cyclic GateEntry) (from until seen : ℕ) (x : Turn GateEntry) → from ≤ seen → seen < until → turn_by_time l seen ≡ Some x → x.state.lets ≡ true → IsShut (turn_by_time l) from until → ⊥
not_shut l from until seen x p q at lets shut = false≢true (sym (shut seen x p q at) ∙ lets)

-- After each open interval that begins before `seen`, no frame passes for `w` ns.
abbrev pub AreShutBehind : (ℕ → Option (Turn GateEntry)) → ℕ → ℕ → Type 0
AreShutBehind turn_by_time w seen = (t : ℕ) (x : Turn GateEntry) → t < seen → turn_by_time t ≡ Some x → x.state.lets ≡ true → IsShut turn_by_time x.end (x.end + w - 1)

-- One interval more.
pub behind_more : (l : Cyclic GateEntry) (w seen : ℕ) (x : Turn GateEntry) → IsLawful l → turn_by_time l seen ≡ Some x → (x.state.lets ≡ true → IsShut (turn_by_time l) x.end (x.end + w - 1)) → AreShutBehind (turn_by_time l) w seen → AreShutBehind (turn_by_time l) w x.end
behind_more l w seen x lawful at shut below t y q i = elim (cases_lt t seen) [
  | inl m ↦ below t y m i
  | inr m ↦
      let is : x ≡ y = same_Some x y (sym (to_end l seen t x lawful at m q) ∙ i) in
      subst (λ (z : Turn GateEntry). z.state.lets ≡ true → IsShut (turn_by_time l) z.end (z.end + w - 1)) is shut
]

-- If open intervals are apart, no frame passes for `w` ns after an open interval.
pub apart_shut : (l : Cyclic GateEntry) (w t : ℕ) (x : Turn GateEntry) → IsLawful l → AreTurnsApart (turn_by_time l) w → turn_by_time l t ≡ Some x → x.state.lets ≡ true → IsShut (turn_by_time l) x.end (x.end + w - 1)
apart_shut l w t x lawful apart at lets u y p q there = none_let y.state.lets (λ passes.
    let own = cyclic_turn_is_exact l t x lawful at in
    let other = cyclic_turn_is_exact l u y lawful there in
    let ends = own.ends in
    let last : turn_by_time l (x.end - 1) ≡ Some x = to_end l t (x.end - 1) x lawful at (omega (arith, ends)) (omega (arith, ends)) in
    let far = apart (x.end - 1) u x y (omega (arith, p, ends)) last there lets passes (λ same.
    let before = (cyclic_turn_is_exact l (x.end - 1) x lawful last).begins in
    let goes = other.ends in
    let begun : y.start ≤ℤ pos (x.end - 1) = subst (λ z. z ≤ℤ pos (x.end - 1)) same before in
    let is : x ≡ y = same_Some x y (sym last ∙ other.same (x.end - 1) begun (omega (arith, p, goes, ends))) in
    let end : x.end ≡ y.end = ap (λ z. z.end) is in
    omega (arith, end, p, goes)) in
    omega (arith, far, q, ends))

-- The search has covered one cycle.
pub all_apart : (l : Cyclic GateEntry) (w seen : ℕ) → IsLawful l → AreShutBehind (turn_by_time l) w seen → l.cycle ≤ seen → AreTurnsApart (turn_by_time l) w
all_apart l w seen lawful below all t u x y before at there lets passes differ = elim (cases_lt u (t + w)) [
  | inr far ↦ far
  | inl near ↦
      let own = cyclic_turn_is_exact l t x lawful at in
      let ends = own.ends in
      elim (cases_lt u x.end) [
        | inl inside ↦
            let is : x ≡ y = same_Some x y (sym (to_end l t u x lawful at (omega (arith, before)) inside) ∙ there) in
            absurd (differ (ap (λ z. z.start) is))
        | inr behind ↦
            let k = t / l.cycle in
            let v = t % l.cycle in
            let some = lawful.cycle_some in
            let low : v < l.cycle = mod-lt t some in
            let back : v + k * l.cycle ≡ t = grind arith in
            let (z, first) = cyclic_turn_exists l v lawful in
            let again : turn_by_time l (v + k * l.cycle) ≡ Some x = subst (λ (i : ℕ). turn_by_time l i ≡ Some x) (sym back) at in
            let later = turn_later l v k z x lawful first again in
            let end = later.end in
            let shut = below v z (omega (arith, low, all)) first (subst (λ (s : GateEntry). s.lets ≡ true) later.state lets) in
            let earlier = u - k * l.cycle in
            let forth : earlier + k * l.cycle ≡ u = omega (arith, before, back) in
            let (e, sooner) = cyclic_turn_exists l earlier lawful in
            let there_too : turn_by_time l (earlier + k * l.cycle) ≡ Some y = subst (λ (i : ℕ). turn_by_time l i ≡ Some y) (sym forth) there in
            let other = turn_later l earlier k e y lawful sooner there_too in
            let closed = shut earlier e (omega (arith, end, behind, forth)) (omega (arith, end, near, ends, forth)) sooner in
            absurd (false≢true (sym (subst (λ (s : GateEntry). s.lets ≡ false) (sym other.state) closed) ∙ passes))
      ]
]
