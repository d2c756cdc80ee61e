-- Fits of the heads, and the best head, over offers and starts.
use Rattle.std.proofs.Common.{◌≡◌, ◌≢◌, ℕ, true, false, ◌<◌, ◌≤◌, ◌+◌, ◌-◌, ◌*◌, ◌^◌, ◌++◌, List, [], ◌∷◌, length, arith, refl, ap, ◌∙◌, sym, subst, Option, Some, None, max, get_or-set_same, get_or-set_other, inl, inr}
use Rattle.std.proofs.lemmas.Bool.Decides.{nat_tests}
use Rattle.std.proofs.lemmas.Bool.{cases_order}
use Rattle.std.specs.Prelude.{IsSome, nat_lt, nat_eq, slice_index_or, slice_get, slice_set, drop, sum_by, count_by}
use Rattle.bridge_limits.specs.declared.TheConstants.{END_OF_TIME, LONGEST_FRAME, MAX_ARRIVALS}
use Rattle.bridge_limits.proofs.Cases.{by_bool}
use Rattle.bridge_limits.proofs.Lists.{heads}
use Rattle.bridge_frame.specs.Link.{transmission_time}
use Rattle.bridge_frame.specs.declared.Speed.{Speed}
use Rattle.bridge_cycle.specs.Fits.{IsFirstFit}
use Rattle.bridge_port.specs.declared.item.Item.{Item}
use Rattle.bridge_port.specs.Heads.{IsHeadFit, is_past, IsBestHead, sooner_head, GainsHead, AreHeadFits, KeepsHeads, StartsNext}
use Rattle.bridge_port.specs.StandsFor.{time_limit, EgressState, count_queued, class_queue, queues_after_offer, IsStateSound, IsNextStart, HasNoStartEarlier, started_state}
use Rattle.bridge_port.specs.GateSchedule.{GateSchedule, opens}
use Rattle.bridge_port.proofs.Best.{fit_is, fit_none, fit_later, fit_ahead, fit_behind, nothing_queued, fit_of_head, best_put, head_some}
use Rattle.bridge_port.proofs.Keeping.{by_class, count_popped, count_pushed, kept_refused, kept_started, next_short}

by_option : {R : Type 0} (o : Option ℕ) → (o ≡ None → R) → ((k : ℕ) → o ≡ Some k → R) → R
by_option None f g = f refl
by_option (Some k) f g = g k refl

-- The fits stay valid up to a time before which no start is due.
fits_calm : {T : Type 0} (p : EgressState T) (t : ℕ) (fits : List (Option ℕ)) → AreHeadFits p fits → p.earliest ≤ t → HasNoStartEarlier p t → (c : ℕ) → IsHeadFit p.list p.speed (max p.free t) c (class_queue p c) (slice_index_or fits c None)
fits_calm p t fits are le calm c = fit_later p.list p.speed (max p.free p.earliest) (max p.free t) c (class_queue p c) (slice_index_or fits c None) (are c) (omega arith) (λ x rest e u lo hi. calm c x rest e u (omega arith) (omega arith) (omega arith))

-- A refused item leaves the heads unchanged.
pub heads_refused : {T : Type 0} (p : EgressState T) (t queued : ℕ) (fits : List (Option ℕ)) (best : Option (ℕ × ℕ)) → KeepsHeads p queued fits best → p.earliest ≤ t → HasNoStartEarlier p t → t < END_OF_TIME → p.offered < MAX_ARRIVALS → KeepsHeads (record p { earliest = t; offered = p.offered + 1 }) queued fits best
heads_refused p t queued fits best k le calm early few = record { kept = kept_refused p t k.kept early few; all = k.all; are_fits = fits_calm p t fits k.are_fits le calm; is_best = k.is_best }

-- An item after a head leaves the heads unchanged.
heads_behind : {T : Type 0} (p : EgressState T) (t c j queued : ℕ) (x : Item T) (fits : List (Option ℕ)) (best : Option (ℕ × ℕ)) → KeepsHeads p queued fits best → c < 8 → slice_index_or fits c None ≡ Some j → p.earliest ≤ t → HasNoStartEarlier p t → IsStateSound (record p { queues = queues_after_offer None p.queues c x; earliest = t; offered = p.offered + 1 }) → KeepsHeads (record p { queues = queues_after_offer None p.queues c x; earliest = t; offered = p.offered + 1 }) (queued + 1) fits best
heads_behind {T} p t c j queued x fits best k l some le calm kept =
    let eight = k.kept.queues in
    let within : c < length p.queues = omega arith in
    let before = fits_calm p t fits k.are_fits le calm in
    let P : ℕ → List (Item T) → Type 0 = λ d q. IsHeadFit p.list p.speed (max p.free t) d q (slice_index_or fits d None) in
    let Q : List (Item T) → Option ℕ → Type 0 = λ q f. IsHeadFit p.list p.speed (max p.free t) c q f in
    let had : Q (class_queue p c) (Some j) = subst (Q (class_queue p c)) some (before c) in
    let new : P c (class_queue p c ++ x ∷ []) = subst (Q (class_queue p c ++ x ∷ [])) (sym some) (fit_behind p.list p.speed (max p.free t) c j (class_queue p c) x had) in
    let more = count_pushed (λ (y : Item T). true) p.queues c x within in
    let all = k.all in
    record { kept = kept; all = omega (arith, more); are_fits = by_class P p.queues c (class_queue p c ++ x ∷ []) within new before; is_best = k.is_best }

-- A property of all queues and fits survives if the replaced queue and fit have it.
by_class_both : {X : Type 0} (P : ℕ → List X → Option ℕ → Type 0) (qs : List (List X)) (fits : List (Option ℕ)) (c : ℕ) (v : List X) (f : Option ℕ) → c < length qs → c < length fits → P c v f → ((d : ℕ) → P d (slice_index_or qs d []) (slice_index_or fits d None)) → (d : ℕ) → P d (slice_index_or (slice_set qs c v) d []) (slice_index_or (slice_set fits c f) d None)
by_class_both {X} P qs fits c v f l within new old d = by_bool (nat_eq c d)
    (λ e.
    let same : c ≡ d = grind (arith, nat_tests) in
    let Q : ℕ → Type 0 = λ n. P n (slice_index_or (slice_set qs c v) n []) (slice_index_or (slice_set fits c f) n None) in
    subst Q same (rw (get_or-set_same, get_or-set_same) new))
    (λ e.
    let other : d ≢ c = λ z. absurd (let w : nat_eq c d ≡ true = grind (arith, nat_tests) in cc) in
    rw (get_or-set_other, get_or-set_other) (old d))

-- An item in an empty queue becomes a head.
heads_gained : {T : Type 0} (p : EgressState T) (t c j queued : ℕ) (x : Item T) (fits : List (Option ℕ)) (best : Option (ℕ × ℕ)) → KeepsHeads p queued fits best → c < 8 → length fits ≡ 8 → slice_index_or fits c None ≡ None → p.earliest ≤ t → HasNoStartEarlier p t → IsFirstFit (opens p.list c) (transmission_time x.len p.speed) (max p.free t) j → j ≤ max p.free t + 2 * 10 ^ 9 → IsStateSound (record p { queues = queues_after_offer None p.queues c x; earliest = t; offered = p.offered + 1 }) → KeepsHeads (record p { queues = queues_after_offer None p.queues c x; earliest = t; offered = p.offered + 1 }) (queued + 1) (slice_set fits c (Some j)) (sooner_head best j c)
heads_gained {T} p t c j queued x fits best k l size none le calm first soon kept =
    let eight = k.kept.queues in
    let within : c < length p.queues = omega arith in
    let inside : c < length fits = omega arith in
    let before = fits_calm p t fits k.are_fits le calm in
    let P : ℕ → List (Item T) → Option ℕ → Type 0 = λ d q f. IsHeadFit p.list p.speed (max p.free t) d q f in
    let had : P c (class_queue p c) None = subst (P c (class_queue p c)) none (before c) in
    let empty : class_queue p c ≡ [] = nothing_queued p.list p.speed (max p.free t) c (class_queue p c) had in
    let alone : class_queue p c ++ x ∷ [] ≡ x ∷ [] = ap (λ (q : List (Item T)). q ++ x ∷ []) empty in
    let new : P c (class_queue p c ++ x ∷ []) (Some j) = fit_is p.list p.speed (max p.free t) c j (class_queue p c ++ x ∷ []) x [] alone first soon in
    let more = count_pushed (λ (y : Item T). true) p.queues c x within in
    let all = k.all in
    record {
      kept = kept;
      all = omega (arith, more);
      are_fits = by_class_both P p.queues fits c (class_queue p c ++ x ∷ []) (Some j) within inside new before;
      is_best = best_put fits 8 j c best l inside none k.is_best;
    }

-- Heads after an item is queued.
pub heads_offered : {T : Type 0} (p : EgressState T) (t c from queued : ℕ) (x : Item T) (fits others : List (Option ℕ)) (best after : Option (ℕ × ℕ)) → KeepsHeads p queued fits best → c < 8 → length fits ≡ 8 → p.earliest ≤ t → HasNoStartEarlier p t → from ≡ max p.free t → (IsSome (slice_index_or fits c None) → (others ≡ fits) × (after ≡ best)) → (slice_index_or fits c None ≡ None → GainsHead p.list from c (transmission_time x.len p.speed) fits others best after) → IsStateSound (record p { queues = queues_after_offer None p.queues c x; earliest = t; offered = p.offered + 1 }) → KeepsHeads (record p { queues = queues_after_offer None p.queues c x; earliest = t; offered = p.offered + 1 }) (queued + 1) others after
heads_offered {T} p t c from queued x fits others best after k l size le calm is behind gained kept =
    let new : EgressState T = record p { queues = queues_after_offer None p.queues c x; earliest = t; offered = p.offered + 1 } in
    by_option (slice_index_or fits c None)
    (λ none.
    let g = gained none in
    let first : IsFirstFit (opens p.list c) (transmission_time x.len p.speed) (max p.free t) g.at = subst (λ (n : ℕ). IsFirstFit (opens p.list c) (transmission_time x.len p.speed) n g.at) is g.first in
    let soon : g.at ≤ max p.free t + 2 * 10 ^ 9 = let near = g.soon in omega arith in
    let made : KeepsHeads new (queued + 1) (slice_set fits c (Some g.at)) (sooner_head best g.at c) = heads_gained p t c g.at queued x fits best k l size none le calm first soon kept in
    rw (g.fits, g.best) made)
    (λ j some.
    let there : IsSome (slice_index_or fits c None) = rw some refl in
    let same = behind there in
    let made : KeepsHeads new (queued + 1) fits best = heads_behind p t c j queued x fits best k l some le calm kept in
    rw (same.0, same.1) made)

-- The next start is at the fit of its class.
pub next_fit : {T : Type 0} (p : EgressState T) (k c : ℕ) (x : Item T) (fits : List (Option ℕ)) → AreHeadFits p fits → IsNextStart p k c x → slice_index_or fits c None ≡ Some k
next_fit {T} p k c x fits are n =
    let h = fit_of_head p.list p.speed (max p.free p.earliest) c (class_queue p c) x n.rest (slice_index_or fits c None) n.is_head (are c) in
    let after = n.after in
    let free = n.free in
    let at_after = h.first.after in
    elim (cases_order h.at k) [
      | inl same ↦ subst (λ (u : ℕ). slice_index_or fits c None ≡ Some u) same h.is
      | inr other ↦ elim other [
        | inl before ↦ absurd (n.least c x n.rest n.is_head h.at (omega arith) (omega arith) before h.first.fits)
        | inr later ↦ absurd (h.first.least k (omega arith) later n.fits)
      ]
    ]

-- After a start, each fit that isn't past stays valid.
pub fits_started : {T : Type 0} (p : EgressState T) (k c : ℕ) (fits : List (Option ℕ)) (from : ℕ) → AreHeadFits p fits → slice_index_or fits c None ≡ Some k → max p.free p.earliest ≤ from → k < from → (d : ℕ) → is_past (slice_index_or fits d None) from ≡ false → IsHeadFit p.list p.speed from d (slice_index_or (slice_set p.queues c (drop 1 (class_queue p c))) d []) (slice_index_or fits d None)
fits_started {T} p k c fits from are some le before d ahead = by_bool (nat_eq c d)
    (λ e.
    let same : c ≡ d = grind (arith, nat_tests) in
    let at_c : is_past (slice_index_or fits c None) from ≡ false = subst (λ (n : ℕ). is_past (slice_index_or fits n None) from ≡ false) (sym same) ahead in
    let not_before : nat_lt k from ≡ false = rw some at at_c in
    absurd (let is_before : nat_lt k from ≡ true = grind (arith, nat_tests) in cc))
    (λ e.
    let other : d ≢ c = λ z. absurd (let w : nat_eq c d ≡ true = grind (arith, nat_tests) in cc) in
    rw get_or-set_other (fit_ahead p.list p.speed (max p.free p.earliest) from d (class_queue p d) (slice_index_or fits d None) (are d) le ahead))

-- If no items are queued, each queue is empty.
empty_so : {X : Type 0} (qs : List (List X)) (d : ℕ) (q : List X) → slice_index_or qs d [] ≡ q → sum_by (count_by (λ x. true)) qs ≡ 0 → q ≡ []
empty_so qs d [] e none = refl
empty_so {X} qs d (x ∷ rest) e none = absurd (let some = count_popped (λ (y : X). true) qs d x rest e in omega (arith, some))

pub none_queued : {X : Type 0} (qs : List (List X)) (d : ℕ) → sum_by (count_by (λ x. true)) qs ≡ 0 → slice_index_or qs d [] ≡ []
none_queued qs d none = empty_so qs d (slice_index_or qs d []) refl none

-- An empty queue has no fit.
no_fit : {T : Type 0} (list : GateSchedule) (speed : Speed) (from c : ℕ) (q : List (Item T)) (f : Option ℕ) → IsHeadFit list speed from c q f → q ≡ [] → f ≡ None
no_fit list speed from c [] None i e = refl
no_fit list speed from c [] (Some k) i e = absurd i
no_fit list speed from c (x ∷ rest) f i e = absurd (cc)

-- The last queued item leaves.
pub emptied : {T : Type 0} (p : EgressState T) (k c queued : ℕ) → queued ≡ count_queued (λ y. true) p → StartsNext p k c → queued - 1 ≡ 0 → sum_by (count_by (λ x. true)) (slice_set p.queues c (drop 1 (class_queue p c))) ≡ 0
emptied {T} p k c queued all s last =
    let fewer = count_popped (λ (y : Item T). true) p.queues c s.item s.next.rest s.next.is_head in
    omega (arith, fewer)

-- Afterwards, no class has a fit.
pub fits_emptied : {T : Type 0} (p : EgressState T) (c : ℕ) (fits : List (Option ℕ)) → AreHeadFits p fits → c < length fits → sum_by (count_by (λ x. true)) (slice_set p.queues c (drop 1 (class_queue p c))) ≡ 0 → (d : ℕ) → slice_index_or (slice_set fits c None) d None ≡ None
fits_emptied {T} p c fits are within none d = by_bool (nat_eq c d)
    (λ e.
    let same : c ≡ d = grind (arith, nat_tests) in
    subst (λ (n : ℕ). slice_index_or (slice_set fits c None) n None ≡ None) same (rw get_or-set_same refl))
    (λ e.
    let other : d ≢ c = λ z. absurd (let w : nat_eq c d ≡ true = grind (arith, nat_tests) in cc) in
    let there : slice_index_or (slice_set p.queues c (drop 1 (class_queue p c))) d [] ≡ [] = none_queued (slice_set p.queues c (drop 1 (class_queue p c))) d none in
    let empty : class_queue p d ≡ [] = rw get_or-set_other at there in
    rw get_or-set_other (no_fit p.list p.speed (max p.free p.earliest) d (class_queue p d) (slice_index_or fits d None) (are d) empty))

-- Fits of the classes after the last item left.
pub fits_empty : {T : Type 0} (p : EgressState T) (c from : ℕ) (fits : List (Option ℕ)) → AreHeadFits p fits → c < length fits → sum_by (count_by (λ x. true)) (slice_set p.queues c (drop 1 (class_queue p c))) ≡ 0 → (d : ℕ) → IsHeadFit p.list p.speed from d (slice_index_or (slice_set p.queues c (drop 1 (class_queue p c))) d []) (slice_index_or (slice_set fits c None) d None)
fits_empty p c from fits are within none d =
    let no_fits = fits_emptied p c fits are within none d in
    rw no_fits (fit_none p.list p.speed from d (slice_index_or (slice_set p.queues c (drop 1 (class_queue p c))) d []) (none_queued (slice_set p.queues c (drop 1 (class_queue p c))) d none))

-- The item that leaves a queue is its head.
head_is : {X : Type 0} (q : List X) (x y : X) (rest : List X) → q ≡ x ∷ rest → Some y ≡ slice_get q 0 → x ≡ y
head_is q x y rest e h = heads x y rest (drop 1 q) (sym e ∙ head_some q y (sym h))

-- The item that starts is the head of the next start.
pub next_item : {T : Type 0} (p : EgressState T) (k c : ℕ) (x : Item T) → StartsNext p k c → Some x ≡ slice_get (class_queue p c) 0 → IsNextStart p k c x
next_item {T} p k c x s h = subst (λ (y : Item T). IsNextStart p k c y) (head_is (class_queue p c) s.item x s.next.rest s.next.is_head h) s.next

-- Heads after an item started.
pub heads_started : {T : Type 0} (p : EgressState T) (k c occ from queued : ℕ) (x : Item T) (others : List (Option ℕ)) (after : Option (ℕ × ℕ)) → IsStateSound p → queued ≡ count_queued (λ y. true) p → StartsNext p k c → Some x ≡ slice_get (class_queue p c) 0 → occ ≡ transmission_time x.len p.speed → (x.len ≤ LONGEST_FRAME → occ ≤ 7392000) → from ≡ max (k + occ) (k + 1) → ((d : ℕ) → IsHeadFit p.list p.speed from d (slice_index_or (slice_set p.queues c (drop 1 (class_queue p c))) d []) (slice_index_or others d None)) → IsBestHead others 8 after → KeepsHeads (started_state p k c x) (queued - 1) others after
heads_started {T} p k c occ from queued x others after kept all s h exact short is fits best =
    let next = next_item p k c x s h in
    let len = next_short p k c x kept next in
    let few : occ ≤ 7392000 = short len in
    let soon = s.soon in
    let behind : from ≡ max (k + transmission_time x.len p.speed) (k + 1) = omega arith in
    let fewer = count_popped (λ (y : Item T). true) p.queues c x next.rest next.is_head in
    record {
      kept = kept_started p k c x kept next soon (omega arith);
      all = omega (arith, fewer);
      are_fits = λ d.
          let P : ℕ → Type 0 = λ n. IsHeadFit p.list p.speed n d (slice_index_or (slice_set p.queues c (drop 1 (class_queue p c))) d []) (slice_index_or others d None) in
          subst P behind (fits d);
      is_best = best;
    }

-- The frame that starts next leaves within the limit for one more start.
pub done_soon : {T : Type 0} (p : EgressState T) (k c occ : ℕ) → IsStateSound p → StartsNext p k c → occ ≤ 7392000 → k + occ < time_limit (p.started + 1)
done_soon p k c occ kept s short =
    let soon = s.soon in
    let free = kept.free in
    let early = kept.earliest in
    omega (arith, soon, free, early, short)

-- The class of the next start is below 8.
pub class_below : {T : Type 0} (p : EgressState T) (k c : ℕ) → IsStateSound p → StartsNext p k c → c < 8
class_below p k c kept s = subst (λ n. c < n) kept.queues s.below

-- The end of the next transmission is below 9 * 10^18 ns.
pub done_fits : {T : Type 0} (p : EgressState T) (k c occ : ℕ) → IsStateSound p → StartsNext p k c → occ ≤ 7392000 → k + occ < 9 * 10 ^ 18
done_fits p k c occ kept s short =
    let soon = done_soon p k c occ kept s short in
    let counted = kept.counted in
    let few = kept.few in
    omega (arith, soon, counted, few)
