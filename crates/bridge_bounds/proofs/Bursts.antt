-- If frames arrive together and fill a queue, the last one takes the longest time.
use Rattle.std.proofs.Common.{◌≡◌, ◌≤◌, ◌+◌, ℕ, zero, suc, Bool, true, false, max, List, [], ◌∷◌, arith, refl, sym, subst, inl, inr}
use Rattle.std.specs.Prelude.{nat_eq, ◌&&◌, if◌then◌else◌}
use Rattle.bridge_cycle.specs.Fits.{IsFirstFit}
use Rattle.bridge_port.specs.Schedule.{Copy, AreOffersInOrder, PortRules, Started, is_waiting, count_waiting}
use Rattle.bridge_port.specs.Solo.{IsSolo, last_done_time}
use Rattle.bridge_bounds.specs.Bounds.{HaveShortFrames, FramesEnd, IsTimeAttained, HasWorstCopy}
use Rattle.bridge_bounds.proofs.Steps.{ends_after}

-- `k` copies that arrive together: each starts at its first fit after the copy before.
abbrev burst : {X : Type 0} (r : PortRules X) (c u : ℕ) (item : X) (k v : ℕ) → FramesEnd (r.opens c) (r.occ item) k u v → List (Copy X)
burst r c u item zero v e = []
burst r c u item (suc k) v (w, s, e, first, is) = record { at = u; class = c; item = item; fate = Started s } ∷ burst r c u item k w e

one_or_none : (b : Bool) → (if b then 1 else 0) ≤ 1
one_or_none true = omega arith
one_or_none false = omega arith

few_wait : {X : Type 0} (r : PortRules X) (c u t : ℕ) (item : X) (k v : ℕ) (e : FramesEnd (r.opens c) (r.occ item) k u v) → count_waiting c t (burst r c u item k v e) ≤ k
few_wait r c u t item zero v e = omega arith
few_wait r c u t item (suc k) v (w, s, e, first, is) =
    let rest = few_wait r c u t item k w e in
    let one = one_or_none (nat_eq c c && is_waiting t (Started s)) in
    omega (arith, rest, one)

done_at : {X : Type 0} (r : PortRules X) (c u : ℕ) (item : X) (k v : ℕ) (e : FramesEnd (r.opens c) (r.occ item) k u v) → max u (last_done_time r (burst r c u item k v e)) ≡ v
done_at r c u item zero v e = omega (arith, e)
done_at r c u item (suc k) v (w, s, e, first, is) =
    let later = ends_after (r.opens c) (r.occ item) k u w e in
    let after = first.after in
    omega (arith, later, after, is)

burst_solo : {X : Type 0} (r : PortRules X) (c u : ℕ) (item : X) (k v : ℕ) (e : FramesEnd (r.opens c) (r.occ item) k u v) → k ≤ r.room c → r.ever c (r.occ item) ≡ true → IsSolo r (burst r c u item k v e)
burst_solo r c u item zero v e room ever = tt
burst_solo r c u item (suc k) v (w, s, e, first, is) room ever =
    let few = few_wait r c u u item k w e in
    let here : IsFirstFit (r.opens c) (r.occ item) (max u (last_done_time r (burst r c u item k w e))) s = subst (λ (i : ℕ). IsFirstFit (r.opens c) (r.occ item) i s) (sym (done_at r c u item k w e)) first in
    ((ever, omega (arith, few, room), here), burst_solo r c u item k w e (omega (arith, room)) ever)

burst_short : {X : Type 0} (r : PortRules X) (c u : ℕ) (item : X) (k v : ℕ) (e : FramesEnd (r.opens c) (r.occ item) k u v) → HaveShortFrames r c (r.occ item) (burst r c u item k v e)
burst_short r c u item zero v e y i = absurd i
burst_short {X} r c u item (suc k) v (w, s, e, first, is) y (inl same) = subst (λ (z : Copy X). (z.class ≡ c) × (r.occ z.item ≤ r.occ item)) (sym same) (refl, omega arith)
burst_short r c u item (suc k) v (w, s, e, first, is) y (inr later) = burst_short r c u item k w e y later

burst_order : {X : Type 0} (r : PortRules X) (c u : ℕ) (item : X) (k v : ℕ) (e : FramesEnd (r.opens c) (r.occ item) k u v) → AreOffersInOrder u (burst r c u item k v e)
burst_order r c u item zero v e = tt
burst_order r c u item (suc k) v (w, s, e, first, is) = (omega arith, burst_order r c u item k w e)

burst_worst : {X : Type 0} (r : PortRules X) (c u d k : ℕ) (item : X) → FramesEnd (r.opens c) (r.occ item) k u (u + d) → k ≡ r.room c → 1 ≤ k → r.ever c (r.occ item) ≡ true → HasWorstCopy r c (r.occ item) d
burst_worst r c u d zero item e room some ever = absurd (omega (arith, some))
burst_worst r c u d (suc k) item (w, s, e, first, is) room some ever =
    let few : suc k ≤ r.room c = omega (arith, room) in
    record {
      copy = record { at = u; class = c; item = item; fate = Started s };
      older = burst r c u item k w e;
      start = s;
      solo = burst_solo r c u item (suc k) (u + d) (w, s, e, first, is) few ever;
      order = burst_order r c u item k w e;
      short = burst_short r c u item (suc k) (u + d) (w, s, e, first, is);
      started = refl;
      done = sym is;
    }

-- If the longest time is attained, some copy takes it.
pub worst : {X : Type 0} (r : PortRules X) (c d : ℕ) (item : X) → r.ever c (r.occ item) ≡ true → 1 ≤ r.room c → IsTimeAttained (r.opens c) (r.occ item) (r.room c) d → HasWorstCopy r c (r.occ item) d
worst r c d item ever some (u, e) = burst_worst r c u d (r.room c) item e refl some ever
