use Rattle.std.proofs.Common.{◌≡◌, ℕ, true, false, ◌+◌, ◌<◌, ◌≤◌, ◌++◌, List, [], ◌∷◌, length, arith, refl, ap, ◌∙◌, sym, subst, inl, inr, Option, Some, None, append_assoc}
use Rattle.std.proofs.lemmas.Bool.Decides.{nat_tests}
use Rattle.std.specs.Prelude.{nat_le, nat_lt, nat_eq, ◌&&◌}
use Rattle.std.proofs.lemmas.Option.{same_Some}
use Rattle.std.proofs.Math.Bool.{and-false}
use Rattle.bridge_limits.proofs.Cases.{by_bool}
use Rattle.bridge_cycle.specs.Fits.{Fits}
use Rattle.bridge_port.specs.Schedule.{Fate, Never, Full, Queued, Started, Copy, PortRules, is_waiting, is_on_link, count_waiting, is_link_free, queue_head, fate_by_index, IsAnswer, AreAnswered, IsLawfulStart, AreLawfulStarts, AreDisjoint, IsDisjointCopy, AreAllDisjoint, AreStartsInOrder, StartsAfterOlder, AllStartInOrder, AreOffersInOrder, IsLawful, is_queued}
use Rattle.bridge_port.specs.Solo.{done_time_or, class_copies, last_done_time, IsSoloFate, IsSolo, IsFinished, HasOwnWindow}
use Rattle.bridge_port.proofs.Laws.{fate_older}

-- Older copies of a list also have their answers by the rule.

older_answers : {X : Type 0} (r : PortRules X) (ns xs : List (Copy X)) → AreAnswered r (ns ++ xs) → AreAnswered r xs
older_answers r [] xs h = h
older_answers r (n ∷ ns) xs h = older_answers r ns xs h.1

older_starts : {X : Type 0} (r : PortRules X) (h : ℕ) (ns xs : List (Copy X)) → AreLawfulStarts r h (ns ++ xs) → AreLawfulStarts r h xs
older_starts r h [] xs k = k
older_starts r h (n ∷ ns) xs k = older_starts r h ns xs k.1

older_apart : {X : Type 0} (r : PortRules X) (ns xs : List (Copy X)) → AreAllDisjoint r (ns ++ xs) → AreAllDisjoint r xs
older_apart r [] xs h = h
older_apart r (n ∷ ns) xs h = older_apart r ns xs h.1

older_turn : {X : Type 0} (ns xs : List (Copy X)) → AllStartInOrder (ns ++ xs) → AllStartInOrder xs
older_turn [] xs h = h
older_turn (n ∷ ns) xs h = older_turn ns xs h.1

older_whole : {X : Type 0} (ns xs : List (Copy X)) → IsFinished (ns ++ xs) → IsFinished xs
older_whole [] xs h = h
older_whole (n ∷ ns) xs h = older_whole ns xs h.1

older_offers : {X : Type 0} (h : ℕ) (ns : List (Copy X)) (x : Copy X) (xs : List (Copy X)) → AreOffersInOrder h (ns ++ x ∷ xs) → AreOffersInOrder x.at xs
older_offers h [] x xs k = k.1
older_offers h (n ∷ ns) x xs k = older_offers n.at ns x xs k.1

with_older : {X : Type 0} (n : Copy X) (ns : List (Copy X)) (x : Copy X) (xs : List (Copy X)) → StartsAfterOlder n (ns ++ x ∷ xs) → n.class ≡ x.class → AreStartsInOrder n.fate x.fate
with_older n [] x xs h = h.0
with_older n (m ∷ ns) x xs h = with_older n ns x xs h.1

head_older : {X : Type 0} (c u : ℕ) (p : ℕ × X) (ns xs : List (Copy X)) → queue_head c u xs ≡ Some p → queue_head c u (ns ++ xs) ≡ Some p
head_older c u p [] xs h = h
head_older c u p (n ∷ ns) xs h = rw (head_older c u p ns xs h) refl

fate_of_newest : {X : Type 0} (ns : List (Copy X)) (x : Copy X) (xs : List (Copy X)) → fate_by_index (length xs) (ns ++ x ∷ xs) ≡ Some x.fate
fate_of_newest [] x xs = let e : nat_eq (length xs) (length xs) ≡ true = grind (arith, nat_tests) in rw e refl
fate_of_newest (n ∷ ns) x xs = fate_older (length xs) n (ns ++ x ∷ xs) x.fate (fate_of_newest ns x xs)

-- The link at a time at which the class is open.

-- A copy of another class doesn't occupy the link.
other_class : {X : Type 0} (r : PortRules X) (c h v : ℕ) (x : Copy X) (f : Fate) → HasOwnWindow r c → r.opens c v ≡ true → IsLawfulStart r h x f → nat_eq x.class c ≡ false → is_on_link v (r.occ x.item) f ≡ false
other_class r c h v x Never w o l e = refl
other_class r c h v x Full w o l e = refl
other_class r c h v x Queued w o l e = refl
other_class r c h v x (Started t) w o l e = by_bool (nat_lt t v && nat_lt v (t + r.occ x.item))
    (λ k.
    let a : t < v = grind (arith, nat_tests) in
    let b : v < t + r.occ x.item = grind (arith, nat_tests) in
    let same : x.class ≡ c = w x.class v o (l.2 v (omega arith) b) in
    absurd (let z : nat_eq x.class c ≡ true = grind (arith, nat_tests) in cc))
    (λ k. k)

-- An older copy of the class has left.
own_class : (v n m : ℕ) (f : Fate) → done_time_or f n m ≤ v → is_on_link v n f ≡ false
own_class v n m Never h = refl
own_class v n m Full h = refl
own_class v n m Queued h = refl
own_class v n m (Started t) h = let e : nat_lt v (t + n) ≡ false = grind (arith, nat_tests) in rw (e, and-false) refl

done_fate : (s n m l : ℕ) (g : Fate) → AreDisjoint n (Started s) m g → AreStartsInOrder (Started s) g → l ≤ s → done_time_or g m l ≤ s
done_fate s n m l Never a t h = h
done_fate s n m l Full a t h = h
done_fate s n m l Queued a t h = h
done_fate s n m l (Started k) a t h = elim a [ inl b ↦ absurd (omega arith) | inr b ↦ b ]

-- If a copy started at `s`, all earlier copies of its class had left by `s`.
done_before : {X : Type 0} (r : PortRules X) (c s n : ℕ) (x : Copy X) (xs : List (Copy X)) → x.class ≡ c → x.fate ≡ Started s → IsDisjointCopy r x xs → StartsAfterOlder x xs → last_done_time r (class_copies c xs) ≤ s
done_before r c s n x [] e f a t = omega arith
done_before r c s n x (y ∷ ys) e f a t = by_bool (nat_eq y.class c)
    (λ k.
    let same : x.class ≡ y.class = grind (arith, nat_tests) in
    rw k (done_fate s (r.occ x.item) (r.occ y.item) (last_done_time r (class_copies c ys)) y.fate (rw f at a.0) (rw f at (t.0 same)) (done_before r c s n x ys e f a.1 t.1)))
    (λ k. rw k (done_before r c s n x ys e f a.1 t.1))

done_fate_le : (n l v : ℕ) (f : Fate) → ((t : ℕ) → f ≡ Started t → l ≤ t) → done_time_or f n l ≤ v → l ≤ v
done_fate_le n l v Never g h = h
done_fate_le n l v Full g h = h
done_fate_le n l v Queued g h = h
done_fate_le n l v (Started t) g h = let a = g t refl in omega arith

-- Older copies leave the link free.
older_free : {X : Type 0} (r : PortRules X) (c h v : ℕ) (xs : List (Copy X)) → HasOwnWindow r c → r.opens c v ≡ true → AreLawfulStarts r h xs → AreAllDisjoint r xs → AllStartInOrder xs → last_done_time r (class_copies c xs) ≤ v → is_link_free r v xs ≡ true
older_free r c h v [] w o l a t d = refl
older_free r c h v (x ∷ xs) w o l a t d = by_bool (nat_eq x.class c)
    (λ k.
    let same : x.class ≡ c = grind (arith, nat_tests) in
    let d2 : done_time_or x.fate (r.occ x.item) (last_done_time r (class_copies c xs)) ≤ v = rw k at d in
    let e = own_class v (r.occ x.item) (last_done_time r (class_copies c xs)) x.fate d2 in
    let d3 = done_fate_le (r.occ x.item) (last_done_time r (class_copies c xs)) v x.fate (λ s f. done_before r c s 0 x xs same f a.0 t.0) d2 in
    rw (e, older_free r c h v xs w o l.1 a.1 t.1 d3) refl)
    (λ k.
    let d2 : last_done_time r (class_copies c xs) ≤ v = rw k at d in
    let e = other_class r c h v x x.fate w o l.0 k in
    rw (e, older_free r c h v xs w o l.1 a.1 t.1 d2) refl)

gone : (v n m : ℕ) (f : Fate) → 0 < n → is_queued f ≡ false → done_time_or f n m ≤ v → is_waiting v f ≡ false
gone v n m Never p q h = refl
gone v n m Full p q h = refl
gone v n m Queued p q h = absurd (cc)
gone v n m (Started t) p q h = let e : nat_lt t v ≡ true = grind (arith, nat_tests) in rw e refl

-- No older copy of the class waits.
older_head : {X : Type 0} (r : PortRules X) (c v : ℕ) (xs : List (Copy X)) → ((x : X) → 0 < r.occ x) → AreAllDisjoint r xs → AllStartInOrder xs → IsFinished xs → last_done_time r (class_copies c xs) ≤ v → queue_head c v xs ≡ None
older_head r c v [] p a t q d = refl
older_head r c v (x ∷ xs) p a t q d = by_bool (nat_eq x.class c)
    (λ k.
    let same : x.class ≡ c = grind (arith, nat_tests) in
    let d2 : done_time_or x.fate (r.occ x.item) (last_done_time r (class_copies c xs)) ≤ v = rw k at d in
    let e = gone v (r.occ x.item) (last_done_time r (class_copies c xs)) x.fate (p x.item) q.0 d2 in
    let d3 = done_fate_le (r.occ x.item) (last_done_time r (class_copies c xs)) v x.fate (λ s f. done_before r c s 0 x xs same f a.0 t.0) d2 in
    rw (older_head r c v xs p a.1 t.1 q.1 d3, e, and-false) refl)
    (λ k.
    let d2 : last_done_time r (class_copies c xs) ≤ v = rw k at d in
    rw (older_head r c v xs p a.1 t.1 q.1 d2, k) refl)

-- A newer copy of the class starts later.
later_fate : (v s n : ℕ) (f : Fate) → v < s → AreStartsInOrder f (Started s) → is_on_link v n f ≡ false
later_fate v s n Never l t = refl
later_fate v s n Full l t = refl
later_fate v s n Queued l t = refl
later_fate v s n (Started k) l t = let e : nat_lt k v ≡ false = grind (arith, nat_tests) in rw e refl

newer_free : {X : Type 0} (r : PortRules X) (c h v s : ℕ) (ns : List (Copy X)) (x : Copy X) (xs : List (Copy X)) → HasOwnWindow r c → r.opens c v ≡ true → x.class ≡ c → x.fate ≡ Started s → v < s → AreLawfulStarts r h (ns ++ x ∷ xs) → AllStartInOrder (ns ++ x ∷ xs) → is_link_free r v (x ∷ xs) ≡ true → is_link_free r v (ns ++ x ∷ xs) ≡ true
newer_free r c h v s [] x xs w o e f b l t k = k
newer_free r c h v s (n ∷ ns) x xs w o e f b l t k =
    let rest = newer_free r c h v s ns x xs w o e f b l.1 t.1 k in
    by_bool (nat_eq n.class c)
    (λ q.
    let same : n.class ≡ x.class = grind (arith, nat_tests) in
    let turn : AreStartsInOrder n.fate (Started s) = rw f at (with_older n ns x xs t.0 same) in
    rw (later_fate v s (r.occ n.item) n.fate b turn, rest) refl)
    (λ q. rw (other_class r c h v n n.fate w o l.0 q, rest) refl)

waiting_only : {X : Type 0} (c t : ℕ) (xs : List (Copy X)) → count_waiting c t (class_copies c xs) ≡ count_waiting c t xs
waiting_only c t [] = refl
waiting_only c t (x ∷ xs) = by_bool (nat_eq x.class c) (λ k. rw (k, waiting_only c t xs, k) refl) (λ k. rw (k, waiting_only c t xs) (omega arith))

started_is : (s t : ℕ) → Some (Started s) ≡ Some (Started t) → s ≡ t
started_is s t h = cc

place_is : {X : Type 0} (i j : ℕ) (x y : X) → ◌≡◌ {A = Option (ℕ × X)} (Some (i, x)) (Some (j, y)) → i ≡ j
place_is {X} i j x y h = let p : ℕ × X = (i, x) in let q : ℕ × X = (j, y) in ap (λ (z : ℕ × X). z.0) (same_Some p q h)

-- No earlier time fits.
least_start : {X : Type 0} (r : PortRules X) (c h s v : ℕ) (ns : List (Copy X)) (x : Copy X) (xs : List (Copy X)) → ((i : X) → 0 < r.occ i) → HasOwnWindow r c → IsLawful r h (ns ++ x ∷ xs) → IsFinished (ns ++ x ∷ xs) → x.class ≡ c → x.fate ≡ Started s → s < h → x.at ≤ v → last_done_time r (class_copies c xs) ≤ v → v < s → ¬ Fits (r.opens c) (r.occ x.item) v
least_start r c h s v ns x xs pos w l q e f below a d b fits =
    let size : 0 < r.occ x.item = pos x.item in
    let o : r.opens c v ≡ true = fits v (omega arith) (omega arith) in
    let starts = older_starts r h ns (x ∷ xs) l.starts in
    let apart = older_apart r ns (x ∷ xs) l.apart in
    let turn = older_turn ns (x ∷ xs) l.in_turn in
    let whole = older_whole ns (x ∷ xs) q in
    let free_xs : is_link_free r v xs ≡ true = older_free r c h v xs w o starts.1 apart.1 turn.1 d in
    let mine : is_on_link v (r.occ x.item) x.fate ≡ false = rw f (let k : nat_lt s v ≡ false = grind (arith, nat_tests) in rw k refl) in
    let free_x : is_link_free r v (x ∷ xs) ≡ true = rw (mine, free_xs) refl in
    let free = newer_free r c h v s ns x xs w o e f b l.starts l.in_turn free_x in
    let bare : queue_head c v xs ≡ None = older_head r c v xs pos apart.1 turn.1 whole.1 d in
    let class_is : nat_eq x.class c ≡ true = grind (arith, nat_tests) in
    let at_is : nat_le x.at v ≡ true = grind (arith, nat_tests) in
    let there_is : is_waiting v x.fate ≡ true = rw f (let k : nat_lt s v ≡ false = grind (arith, nat_tests) in rw k refl) in
    let own : queue_head c v (x ∷ xs) ≡ Some (length xs, x.item) = rw (bare, class_is, at_is, there_is) refl in
    let is = head_older c v (length xs, x.item) ns (x ∷ xs) own in
    let z = l.none_missed v (omega arith) free c (length xs, x.item) is fits in
    let size2 : 0 < r.occ z.item = pos z.item in
    let same : z.class ≡ c = w z.class v o (z.fits v (omega arith) (omega arith)) in
    let head2 : queue_head c v (ns ++ x ∷ xs) ≡ Some (z.place, z.item) = subst (λ (n : ℕ). queue_head n v (ns ++ x ∷ xs) ≡ Some (z.place, z.item)) same z.is_head in
    let there : length xs ≡ z.place = place_is _ _ _ _ (sym is ∙ head2) in
    let fate : fate_by_index (length xs) (ns ++ x ∷ xs) ≡ Some (Started v) = subst (λ (n : ℕ). fate_by_index n (ns ++ x ∷ xs) ≡ Some (Started v)) (sym there) z.starts in
    let both : Some (Started s) ≡ Some (Started v) = ap Some (sym f) ∙ (sym (fate_of_newest ns x xs) ∙ fate) in
    let equal = started_is s v both in
    omega arith

fate_alone : {X : Type 0} (r : PortRules X) (c h : ℕ) (ns : List (Copy X)) (x : Copy X) (xs : List (Copy X)) (g : Fate) → x.fate ≡ g → ((i : X) → 0 < r.occ i) → HasOwnWindow r c → IsLawful r h (ns ++ x ∷ xs) → IsFinished (ns ++ x ∷ xs) → x.class ≡ c → IsAnswer r x xs g → IsLawfulStart r h x g → IsSoloFate r x (class_copies c xs) g
fate_alone r c h ns x xs Never f pos w l q e a k = a
fate_alone r c h ns x xs Full f pos w l q e a k = (a.0, subst (λ (n : ℕ). r.room x.class ≤ n) (sym (rw e (waiting_only c x.at xs))) a.1)
fate_alone r c h ns x xs Queued f pos w l q e a k = let z : is_queued x.fate ≡ false = (older_whole ns (x ∷ xs) q).0 in absurd (let y = rw f at z in cc)
fate_alone r c h ns x xs (Started s) f pos w l q e a k =
    let apart = older_apart r ns (x ∷ xs) l.apart in
    let turn = older_turn ns (x ∷ xs) l.in_turn in
    let before : last_done_time r (class_copies c xs) ≤ s = done_before r c s 0 x xs e f apart.0 turn.0 in
    let after : x.at ≤ s = k.1 in (
      a.0,
      subst (λ (n : ℕ). n < r.room x.class) (sym (rw e (waiting_only c x.at xs))) a.1,
      record {
        after = omega arith;
        fits = k.2;
        least = λ v p m fits.
            let fits2 : Fits (r.opens c) (r.occ x.item) v = subst (λ (n : ℕ). Fits (r.opens n) (r.occ x.item) v) e fits in
            least_start r c h s v ns x xs pos w l q e f k.0 (omega arith) (omega arith) m fits2;
      },
    )

solo_from : {X : Type 0} (r : PortRules X) (c h : ℕ) (ns xs : List (Copy X)) → ((i : X) → 0 < r.occ i) → HasOwnWindow r c → IsLawful r h (ns ++ xs) → IsFinished (ns ++ xs) → IsSolo r (class_copies c xs)
solo_from r c h ns [] pos w l q = tt
solo_from r c h ns (x ∷ xs) pos w l q =
    let join : (ns ++ x ∷ []) ++ xs ≡ ns ++ x ∷ xs = append_assoc ns (x ∷ []) xs in
    let rest : IsSolo r (class_copies c xs) = solo_from r c h (ns ++ x ∷ []) xs pos w (subst (IsLawful r h) (sym join) l) (subst IsFinished (sym join) q) in
    by_bool (nat_eq x.class c)
    (λ k.
    let same : x.class ≡ c = grind (arith, nat_tests) in
    rw k (fate_alone r c h ns x xs x.fate refl pos w l q same (older_answers r ns (x ∷ xs) l.answers).0 (older_starts r h ns (x ∷ xs) l.starts).0, rest))
    (λ k. rw k rest)

pub solo : {X : Type 0} (r : PortRules X) (c h : ℕ) (xs : List (Copy X)) → ((i : X) → 0 < r.occ i) → HasOwnWindow r c → IsLawful r h xs → IsFinished xs → IsSolo r (class_copies c xs)
solo r c h xs pos w l q = solo_from r c h [] xs pos w l q
