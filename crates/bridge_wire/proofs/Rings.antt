-- Ring of places: storing a frame ahead, queueing it, and starting the oldest frame.
use Rattle.std.proofs.Common.{inl, inr, ◌⊎◌, true, false, ◌≡◌, ℕ, zero, suc, ◌+◌, ◌-◌, ◌<◌, ◌≤◌, List, [], ◌∷◌, ◌++◌, length, take, drop, get_or, Some, refl, ap, sym, ◌∙◌, subst, arith, append_assoc, append-nil, drop-cons, take_all, drop_of_length-le, take-suc}
use Rattle.std.specs.Prelude.{nat_lt, if◌then◌else◌, slice_get, slice_set}
use Rattle.std.proofs.lemmas.Bool.Decides.{nat_tests}
use Rattle.std.proofs.lemmas.List.{drop-set-add, drop-set-lt, take-set-le, set-append_left, set-append_right, take-set, take_more_set, length-drop, length-take, length-append, drop-take, take-append-le, set-get_or}
use Rattle.std.proofs.Math.Seq.{take-set-lt}
use Rattle.std.proofs.lemmas.Option.{get_or_from_slice_get}
use Rattle.bridge_limits.proofs.Cases.{by_bool}
use Rattle.bridge_wire.specs.Rings.{IsRing, ring_items}

pub ring_length : {X : Type 0} (h : ℕ) (xs : List X) → h ≤ length xs → length (ring_items h xs) ≡ length xs
ring_length h xs l =
    let a = length-append (drop h xs) (take h xs) in
    let b = length-drop h xs in
    let c = length-take h xs in
    omega (arith, a, b, c)

-- A frame stored in the place ahead is the item after the queued items.
pub ring_set : {X : Type 0} (xs : List X) (h t q : ℕ) (v : X) → IsRing (length xs) h t q → ring_items h (slice_set xs t v) ≡ slice_set (ring_items h xs) q v
ring_set {X} xs h t q v r =
    let d = length-drop h xs in
    by_bool (nat_lt (h + q) (length xs))
    (λ inside.
    let at : t ≡ h + q = r.turns ∙ rw inside refl in
    let less : h + q < length xs = grind (arith, nat_tests) in
    let P : ℕ → Type 0 = λ n. ring_items h (slice_set xs n v) ≡ slice_set (ring_items h xs) q v in
    subst P (sym at) (rw (drop-set-add h xs q v, take-set-le h xs (h + q) v (omega arith)) (sym (set-append_left (drop h xs) (take h xs) q v (omega arith)))))
    (λ outside.
    let at : t ≡ h + q - length xs = r.turns ∙ rw outside refl in
    let more : length xs ≤ h + q = grind (arith, nat_tests) in
    let some = r.some in
    let from = r.from in
    let back : q - (length xs - h) ≡ t = omega arith in
    rw (drop-set-lt h xs t v (omega arith), take-set-lt h xs t v (omega arith))
    (sym (set-append_right (drop h xs) (take h xs) (length xs - h) q v d (omega arith) ∙ ap (λ n. drop h xs ++ slice_set (take h xs) n v) back)))

-- A frame stored in the place ahead changes no queued item.
pub ring_ahead : {X : Type 0} (xs : List X) (h t q : ℕ) (v : X) → IsRing (length xs) h t q → take q (ring_items h (slice_set xs t v)) ≡ take q (ring_items h xs)
ring_ahead xs h t q v r = ap (take q) (ring_set xs h t q v r) ∙ take-set (ring_items h xs) q v

-- The frame ahead becomes the last queued item.
pub ring_more : {X : Type 0} (xs : List X) (h t q : ℕ) (x : X) → IsRing (length xs) h t q → slice_get xs t ≡ Some x → take (q + 1) (ring_items h xs) ≡ take q (ring_items h xs) ++ x ∷ []
ring_more {X} xs h t q x r e =
    let same : slice_set xs t x ≡ xs = subst (λ (y : X). slice_set xs t y ≡ xs) (get_or_from_slice_get xs t x x e) (set-get_or xs t x) in
    let from = r.from in
    let some = r.some in
    let n = ring_length h xs (omega arith) in
    let whole : ring_items h xs ≡ slice_set (ring_items h xs) q x = subst (λ (ys : List X). ring_items h ys ≡ slice_set (ring_items h xs) q x) same (ring_set xs h t q x r) in
    ap (take (q + 1)) whole ∙ take_more_set (ring_items h xs) q x (omega arith)

-- Items after the oldest place.
abbrev later_places : {X : Type 0} → ℕ → List X → List X
later_places h xs = drop (suc h) xs ++ take h xs

ring_first : {X : Type 0} (xs : List X) (h : ℕ) (d : X) → h < length xs → ring_items h xs ≡ get_or xs h d ∷ later_places h xs
ring_first xs h d l = ap (λ z. z ++ take h xs) (drop-cons xs h d l)

ring_after : {X : Type 0} (xs : List X) (h : ℕ) (d : X) → h < length xs → ring_items (if nat_lt (h + 1) (length xs) then h + 1 else 0) xs ≡ later_places h xs ++ get_or xs h d ∷ []
ring_after {X} xs h d l = by_bool (nat_lt (h + 1) (length xs))
    (λ inside. let one : h + 1 ≡ suc h = omega arith in
    rw (inside, one, take-suc xs h d l) (sym (append_assoc (drop (suc h) xs) (take h xs) (get_or xs h d ∷ []))))
    (λ outside.
    let last : length xs ≤ suc h = grind (arith, nat_tests) in
    rw (outside, drop_of_length-le xs last) (append-nil xs ∙ (sym (take_all (suc h) xs last) ∙ take-suc xs h d l)))

ring_later : {X : Type 0} (xs : List X) (h q : ℕ) (d : X) → h < length xs → q < length xs → take q (ring_items (if nat_lt (h + 1) (length xs) then h + 1 else 0) xs) ≡ drop 1 (take (q + 1) (ring_items h xs))
ring_later xs h q d l m =
    let a = length-append (drop (suc h) xs) (take h xs) in
    let b = length-drop (suc h) xs in
    let c = length-take h xs in
    let one : q + 1 ≡ 1 + q = omega arith in
    let left = ap (take q) (ring_after xs h d l) ∙ take-append-le q (later_places h xs) (get_or xs h d ∷ []) (omega (arith, a, b, c, l, m)) in
    let right = ap (λ n. drop 1 (take n (ring_items h xs))) one ∙ (drop-take 1 q (ring_items h xs) ∙ ap (λ ys. take q (drop 1 ys)) (ring_first xs h d l)) in
    left ∙ sym right

item_at : {X : Type 0} (xs : List X) (h : ℕ) → h < length xs → X
item_at [] h l = absurd (omega arith)
item_at (x ∷ xs) zero l = x
item_at (x ∷ xs) (suc h) l = let more : length (x ∷ xs) ≡ length xs + 1 = omega arith in item_at xs h (omega arith)

-- Without its oldest item, a queue begins one place later.
pub ring_next : {X : Type 0} (xs : List X) (h q next : ℕ) → h < length xs → 0 < q → q ≤ length xs → next ≡ (if nat_lt (h + 1) (length xs) then h + 1 else 0) → take (q - 1) (ring_items next xs) ≡ drop 1 (take q (ring_items h xs))
ring_next xs h q next l p m e = ap (λ n. take (q - 1) (ring_items n xs)) e ∙ (ring_later xs h (q - 1) (item_at xs h l) l (omega arith) ∙ ap (λ n. drop 1 (take n (ring_items h xs))) (omega arith))

-- A stored frame is in its place.
pub stored : {X : Type 0} (xs : List X) (t : ℕ) (v : X) → t < length xs → slice_get (slice_set xs t v) t ≡ Some v
stored [] t v l = absurd (omega arith)
stored (x ∷ xs) zero v l = refl
stored (x ∷ xs) (suc t) v l = let more : length (x ∷ xs) ≡ length xs + 1 = omega arith in stored xs t v (omega arith)

-- Index of a ring, counted from its oldest item.
turned : (count head tail queued : ℕ) → IsRing count head tail queued → (tail ≡ head + queued) ⊎ (tail + count ≡ head + queued)
turned count head tail queued r =
    let some = r.some in
    let from = r.from in
    by_bool (nat_lt (head + queued) count)
    (λ inside. inl (r.turns ∙ rw inside refl))
    (λ outside. let at : tail ≡ head + queued - count = r.turns ∙ rw outside refl in let more : count ≤ head + queued = grind (arith, nat_tests) in inr (omega arith))

is_ring : (count head tail queued : ℕ) → head < count → tail < count → queued < count → (tail ≡ head + queued) ⊎ (tail + count ≡ head + queued) → IsRing count head tail queued
is_ring count head tail queued from to some (inl e) = let l : nat_lt (head + queued) count ≡ true = grind (arith, nat_tests) in record { from = from; to = to; some = some; turns = rw l e }
is_ring count head tail queued from to some (inr e) = let l : nat_lt (head + queued) count ≡ false = grind (arith, nat_tests) in record { from = from; to = to; some = some; turns = rw l (omega arith) }

-- Index after index `i` in a ring.
next_cases : (i count : ℕ) → i < count → ((i + 1 < count) × ((if nat_lt (i + 1) count then i + 1 else 0) ≡ i + 1)) ⊎ ((i + 1 ≡ count) × ((if nat_lt (i + 1) count then i + 1 else 0) ≡ 0))
next_cases i count l = by_bool (nat_lt (i + 1) count)
    (λ inside. inl (grind (arith, nat_tests), rw inside refl))
    (λ outside. let last : count ≤ i + 1 = grind (arith, nat_tests) in inr (omega arith, rw outside refl))

-- The ring after its oldest item has left.
pub ring_started : (count head tail queued next : ℕ) → IsRing count head tail queued → 0 < queued → next ≡ (if nat_lt (head + 1) count then head + 1 else 0) → IsRing count next tail (queued - 1)
ring_started count head tail queued next r some e =
    let to = r.to in
    let few = r.some in
    elim (next_cases head count r.from) [
      | inl a ↦ let n : next ≡ head + 1 = e ∙ a.1 in let l = a.0 in is_ring count next tail (queued - 1) (omega arith) to (omega arith) (elim (turned count head tail queued r) [
        | inl b ↦ inl (omega arith)
        | inr b ↦ inr (omega arith)
      ])
      | inr a ↦ let n : next ≡ 0 = e ∙ a.1 in let l = a.0 in is_ring count next tail (queued - 1) (omega arith) to (omega arith) (elim (turned count head tail queued r) [
        | inl b ↦ absurd (omega arith)
        | inr b ↦ inl (omega arith)
      ])
    ]

-- The ring after its frame ahead was queued.
pub ring_offered : (count head tail queued next : ℕ) → IsRing count head tail queued → queued + 1 < count → next ≡ (if nat_lt (tail + 1) count then tail + 1 else 0) → IsRing count head next (queued + 1)
ring_offered count head tail queued next r some e =
    let from = r.from in
    elim (next_cases tail count r.to) [
      | inl a ↦ let n : next ≡ tail + 1 = e ∙ a.1 in let l = a.0 in is_ring count head next (queued + 1) from (omega arith) some (elim (turned count head tail queued r) [
        | inl b ↦ inl (omega arith)
        | inr b ↦ inr (omega arith)
      ])
      | inr a ↦ let n : next ≡ 0 = e ∙ a.1 in let l = a.0 in is_ring count head next (queued + 1) from (omega arith) some (elim (turned count head tail queued r) [
        | inl b ↦ inr (omega arith)
        | inr b ↦ absurd (omega arith)
      ])
    ]

-- Each index of a list has an item.
pub stored_some : {X : Type 0} (xs : List X) (t : ℕ) → t < length xs → (x : X) × (slice_get xs t ≡ Some x)
stored_some [] t l = absurd (omega arith)
stored_some (x ∷ xs) zero l = (x, refl)
stored_some (x ∷ xs) (suc t) l = let more : length (x ∷ xs) ≡ length xs + 1 = omega arith in stored_some xs t (omega arith)

-- Number of queued items.
pub queued_length : {X : Type 0} (xs : List X) (h t q : ℕ) → IsRing (length xs) h t q → length (take q (ring_items h xs)) ≡ q
queued_length xs h t q r =
    let from = r.from in
    let some = r.some in
    let n = ring_length h xs (omega arith) in
    let m = length-take q (ring_items h xs) in
    omega (arith, n, m)
