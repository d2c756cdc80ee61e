-- The tree's first key has the least time.
use Rattle.std.proofs.Common.{◌≡◌, ◌∙◌, ℕ, true, false, ◌+◌, ◌-◌, ◌*◌, ◌/◌, ◌%◌, ◌<◌, ◌≤◌, arith, ap, refl, sym, subst, inl, inr, Some, None, List, length, set}
use Rattle.std.specs.Prelude.{◌⊎◌, min, nat_eq, nat_le, nat_lt, slice_index, if◌then◌else◌}
use Rattle.std.proofs.lemmas.List.{get_or_past, get_or-set_other, get_or-set_same}
use Rattle.std.proofs.lemmas.Bool.{cases_lt}
use Rattle.std.proofs.lemmas.Bool.Decides.{nat_tests}
use Rattle.bridge_events.specs.Least.{IsLeast}
use Rattle.bridge_events.specs.Tree.{HaveLeastKeys, HaveOwnKeys, IsTree, TreeState, least_of_four, least_rest, nth_key, nth_time, tree_time}
use Rattle.bridge_events.specs.declared.tree_agenda.TheConstants.{LATE, LATE_KEY, NO_KEY}
use Rattle.bridge_limits.proofs.Cases.{by_bool}
use Rattle.bridge_limits.proofs.Options.{none_of}
use Rattle.bridge_events.proofs.Rows.{none_some, some_is}

-- Holds if `key` is the least key of the indices from `a` to `b` - 1, and one of these indices has it.
record IsLeastKey (keys : List ℕ) (a b key : ℕ) : Type 0 where
  place : ℕ
  from : a ≤ place
  to : place < b
  has : nth_key keys place ≡ key
  least : (i : ℕ) → a ≤ i → i < b → key ≤ nth_key keys i

leaf : (keys : List ℕ) (i j : ℕ) → j ≡ i + 1 → IsLeastKey keys i j (nth_key keys i)
leaf keys i j e = record {
  place = i;
  from = omega arith;
  to = omega arith;
  has = refl;
  least = λ k h l. let same : k ≡ i = omega arith in subst (λ (n : ℕ). nth_key keys i ≤ nth_key keys n) (sym same) (omega arith);
}

join : (keys : List ℕ) (a b c x y : ℕ) → a ≤ b → b ≤ c → IsLeastKey keys a b x → IsLeastKey keys b c y → IsLeastKey keys a c (min x y)
join keys a b c x y l m f g =
    let r = f.from in
    let s = f.to in
    let t = g.from in
    let u = g.to in
    let both : (i : ℕ) → a ≤ i → i < c → min x y ≤ nth_key keys i = λ i h k. elim (cases_lt i b) [ inl z ↦ (let w = f.least i h z in omega arith) | inr z ↦ (let w = g.least i z k in omega arith) ] in
    elim (cases_lt y x) [
      | inl z ↦ record { place = g.place; from = omega arith; to = omega arith; has = (let e = g.has in omega arith); least = both }
      | inr z ↦ record { place = f.place; from = omega arith; to = omega arith; has = (let e = f.has in omega arith); least = both }
    ]

group : (keys : List ℕ) (i : ℕ) → IsLeastKey keys i (i + 4) (least_of_four keys i)
group keys i = join keys i (i + 2) (i + 4) _ _ (omega arith) (omega arith)
    (join keys i (i + 1) (i + 2) _ _ (omega arith) (omega arith) (leaf keys i (i + 1) refl) (leaf keys (i + 1) (i + 2) (omega arith)))
    (join keys (i + 2) (i + 3) (i + 4) _ _ (omega arith) (omega arith) (leaf keys (i + 2) (i + 3) (omega arith)) (leaf keys (i + 3) (i + 4) (omega arith)))

nth_group : (keys firsts : List ℕ) (g a b : ℕ) → HaveLeastKeys keys firsts → g < 4 → a ≡ 4 * g → b ≡ a + 4 → IsLeastKey keys a b (nth_key firsts g)
nth_group keys firsts g a b won l e f =
    subst (IsLeastKey keys a b) (sym (won g l)) (subst (λ (n : ℕ). IsLeastKey keys a n (least_of_four keys (4 * g))) (sym f) (subst (λ (n : ℕ). IsLeastKey keys n (n + 4) (least_of_four keys (4 * g))) (sym e) (group keys (4 * g))))

-- The least of the groups' keys is the least key of all ports.
root : (keys firsts : List ℕ) → HaveLeastKeys keys firsts → IsLeastKey keys 0 16 (least_of_four firsts 0)
root keys firsts won =
    let nth : (g a b : ℕ) → g < 4 → a ≡ 4 * g → b ≡ a + 4 → IsLeastKey keys a b (nth_key firsts g) = λ g a b. nth_group keys firsts g a b won in
    join keys 0 8 16 _ _ (omega arith) (omega arith)
    (join keys 0 4 8 _ _ (omega arith) (omega arith) (nth 0 0 4 (omega arith) refl refl) (nth 1 4 8 (omega arith) refl refl))
    (join keys 8 12 16 _ _ (omega arith) (omega arith) (nth 2 8 12 (omega arith) refl refl) (nth 3 12 16 (omega arith) refl refl))

-- The time of a port, by its index.

pub held_next : (keys times : List ℕ) (i : ℕ) → tree_time keys times (i + 1) ≡ nth_time keys times i
held_next keys times i = let y : nat_le 1 (i + 1) ≡ true = grind (arith, nat_tests) in let z : i + 1 - 1 ≡ i = omega arith in rw (y, z) refl

held_some : (keys times : List ℕ) (i : ℕ) → nth_key keys i < NO_KEY → nth_time keys times i ≡ Some (slice_index times i)
held_some keys times i l = let y : nat_lt (nth_key keys i) NO_KEY ≡ true = grind (arith, nat_tests) in rw y refl

held_none : (keys times : List ℕ) (i : ℕ) → NO_KEY ≤ nth_key keys i → nth_time keys times i ≡ None
held_none keys times i l = let y : nat_lt (nth_key keys i) NO_KEY ≡ false = grind (arith, nat_tests) in rw y refl

pub held_past : (keys times : List ℕ) (p : ℕ) → length keys ≡ 16 → 16 < p → tree_time keys times p ≡ None
held_past keys times p size l =
    let i = p - 1 in
    let same : p ≡ i + 1 = omega arith in
    let past : nth_key keys i ≡ NO_KEY = get_or_past keys i NO_KEY (omega arith) in
    subst (λ (n : ℕ). tree_time keys times n ≡ None) (sym same) (held_next keys times i ∙ held_none keys times i (omega arith))

-- A port with a time is one of the ports 1 to 16.
has_key : (keys times : List ℕ) (p u : ℕ) → length keys ≡ 16 → tree_time keys times p ≡ Some u → (1 ≤ p) × (p ≤ 16) × (nth_key keys (p - 1) < NO_KEY) × (slice_index times (p - 1) ≡ u)
has_key keys times p u size e = elim (cases_lt p 1) [
  | inl l ↦ (let y : nat_le 1 p ≡ false = grind (arith, nat_tests) in let z : None ≡ Some u = rw y at e in cc)
  | inr l ↦ (
      let same : p ≡ p - 1 + 1 = omega arith in
      let f : nth_time keys times (p - 1) ≡ Some u = sym (held_next keys times (p - 1)) ∙ subst (λ (n : ℕ). tree_time keys times n ≡ Some u) same e in
      elim (cases_lt 16 p) [
        | inl k ↦ absurd (none_some _ u (held_past keys times p size k) e)
        | inr k ↦ elim (cases_lt (nth_key keys (p - 1)) NO_KEY) [
          | inl m ↦ (l, k, m, some_is _ _ u (held_some keys times (p - 1) m) f)
          | inr m ↦ absurd (none_some _ u (held_none keys times (p - 1) m) f)
        ]
      ]
      )
]

-- If the first key has no time, no port has a time.
pub none_least : (a : TreeState) → IsTree a → a.first ≡ NO_KEY → IsLeast (tree_time a.keys a.times) None
none_least a t e = λ p. none_of (tree_time a.keys a.times p) (λ u f.
    let h = has_key a.keys a.times p u t.size f in
    let from = h.0 in
    let to = h.1 in
    let k = h.2 in
    let z = t.root in
    let w = (root a.keys a.firsts t.won).least (p - 1) (omega arith) (omega arith) in
    omega arith)

-- A lesser key of an early time has an earlier time, or an equal time and no higher index.
in_order : (x y t u i j : ℕ) → i < 16 → j < 16 → x < LATE_KEY → x ≡ 16 * min t LATE + i → y ≡ 16 * min u LATE + j → x ≤ y → (t < u) ⊎ ((t ≡ u) × (i ≤ j))
in_order x y t u i j l m early e f le = elim (cases_lt t u) [
  | inl a ↦ inl a
  | inr a ↦ elim (cases_lt u t) [ inl b ↦ absurd (omega arith) | inr b ↦ inr (omega arith, omega arith) ]
]

-- The first key gives the least time and its port, if this time is early.
pub some_least : (a : TreeState) → IsTree a → a.first < LATE_KEY → IsLeast (tree_time a.keys a.times) (Some (a.first % 16 + 1, a.first / 16))
some_least a t l =
    let keys = a.keys in
    let times = a.times in
    let z = t.root in
    let r = root keys a.firsts t.won in
    let i = r.place in
    let to = r.to in
    let has = r.has in
    let key : nth_key keys i ≡ a.first = omega arith in
    let at = slice_index times i in
    let own : nth_key keys i ≡ 16 * min at LATE + i = t.own i to (omega arith) in
    let place : a.first % 16 ≡ i = omega arith in
    let time : a.first / 16 ≡ at = omega arith in (
      subst (λ (n : ℕ). tree_time keys times (n + 1) ≡ Some (a.first / 16)) (sym place) (held_next keys times i ∙ (held_some keys times i (omega arith) ∙ ap Some (sym time))),
      λ p u f.
          let h = has_key keys times p u t.size f in
          let from = h.0 in
          let of = t.own (p - 1) (let w = h.1 in omega arith) h.2 in
          let is = h.3 in
          let least = r.least (p - 1) (omega arith) (let w = h.1 in omega arith) in
          elim (in_order (nth_key keys i) (nth_key keys (p - 1)) at (slice_index times (p - 1)) i (p - 1) to (let w = h.1 in omega arith) (omega arith) own of (omega arith)) [ inl b ↦ inl (omega arith) | inr b ↦ (let v = b.0 in let w = b.1 in inr (omega arith, omega arith)) ],
    )

-- A new key.

-- The new key's group has its new least key; the other groups are the same.
pub settled : (keys firsts : List ℕ) (place key x : ℕ) → place < 16 → length keys ≡ 16 → length firsts ≡ 4 → x ≡ least_of_four (set keys place key) (4 * (place / 4)) → HaveLeastKeys keys firsts → HaveLeastKeys (set keys place key) (set firsts (place / 4) x)
settled keys firsts place key x l size groups is won = λ g m.
    let c = place / 4 in
    let other : (g < c) ⊎ (c < g) → nth_key (set firsts c x) g ≡ least_of_four (set keys place key) (4 * g) = λ apart.
    let same : (k : ℕ) → k < 4 → nth_key (set keys place key) (4 * g + k) ≡ nth_key keys (4 * g + k) = λ k n. get_or-set_other keys place (4 * g + k) key NO_KEY (λ e. elim apart [ inl z ↦ omega arith | inr z ↦ omega arith ]) in
    let zero : nth_key (set keys place key) (4 * g) ≡ nth_key keys (4 * g) = get_or-set_other keys place (4 * g) key NO_KEY (λ e. elim apart [ inl z ↦ omega arith | inr z ↦ omega arith ]) in
    let first : nth_key (set firsts c x) g ≡ nth_key firsts g = get_or-set_other firsts c g x NO_KEY (λ e. elim apart [ inl z ↦ omega arith | inr z ↦ omega arith ]) in
    rw (first, zero, same 1 (omega arith), same 2 (omega arith), same 3 (omega arith)) (won g m) in
    elim (cases_lt g c) [
      | inl z ↦ other (inl z)
      | inr z ↦ elim (cases_lt c g) [
        | inl k ↦ other (inr k)
        | inr k ↦ (
            let same : c ≡ g = omega arith in
            subst (λ (n : ℕ). nth_key (set firsts c x) n ≡ least_of_four (set keys place key) (4 * n)) same (get_or-set_same firsts c x NO_KEY (omega arith) ∙ is)
            )
      ]
    ]

-- A new key of the first group leaves the least key of the other groups.
pub rest_kept : (firsts : List ℕ) (x : ℕ) → least_rest (set firsts 0 x) ≡ least_rest firsts
rest_kept firsts x =
    let one : nth_key (set firsts 0 x) 1 ≡ nth_key firsts 1 = get_or-set_other firsts 0 1 x NO_KEY (λ e. omega (arith, e)) in
    let two : nth_key (set firsts 0 x) 2 ≡ nth_key firsts 2 = get_or-set_other firsts 0 2 x NO_KEY (λ e. omega (arith, e)) in
    let three : nth_key (set firsts 0 x) 3 ≡ nth_key firsts 3 = get_or-set_other firsts 0 3 x NO_KEY (λ e. omega (arith, e)) in
    rw (one, two, three) refl

-- The least key of all groups is the lesser of the first group's and the others'.
pub root_is : (firsts : List ℕ) → min (nth_key firsts 0) (least_rest firsts) ≡ least_of_four firsts 0
root_is firsts = omega arith

-- The new key is the key of its time, or there is no time.
pub own_keys : (keys times : List ℕ) (place key t : ℕ) → place < 16 → length keys ≡ 16 → length times ≡ 16 → (key < NO_KEY → key ≡ 16 * min t LATE + place) → HaveOwnKeys keys times → HaveOwnKeys (set keys place key) (set times place t)
own_keys keys times place key t l size sizes is own = λ i m some.
    let other : (i < place) ⊎ (place < i) → nth_key (set keys place key) i ≡ 16 * min (slice_index (set times place t) i) LATE + i = λ apart.
    let k : nth_key (set keys place key) i ≡ nth_key keys i = get_or-set_other keys place i key NO_KEY (λ e. elim apart [ inl z ↦ omega arith | inr z ↦ omega arith ]) in
    let u : slice_index (set times place t) i ≡ slice_index times i = get_or-set_other times place i t 0 (λ e. elim apart [ inl z ↦ omega arith | inr z ↦ omega arith ]) in
    rw (k, u) (own i m (rw k at some)) in
    elim (cases_lt i place) [
      | inl z ↦ other (inl z)
      | inr z ↦ elim (cases_lt place i) [
        | inl k ↦ other (inr k)
        | inr k ↦ (
            let same : place ≡ i = omega arith in
            let here : nth_key (set keys place key) place ≡ key = get_or-set_same keys place key NO_KEY (omega arith) in
            let time : slice_index (set times place t) place ≡ t = get_or-set_same times place t 0 (omega arith) in
            let less : nth_key (set keys place key) place < NO_KEY = subst (λ (n : ℕ). nth_key (set keys place key) n < NO_KEY) (sym same) some in
            subst (λ (n : ℕ). nth_key (set keys place key) n ≡ 16 * min (slice_index (set times place t) n) LATE + n) same (rw (here, time) (is (rw here at less)))
            )
      ]
    ]

-- Without a time, keys and times of the other ports are the same.
pub own_keys_without : (keys times : List ℕ) (place : ℕ) → place < 16 → length keys ≡ 16 → HaveOwnKeys keys times → HaveOwnKeys (set keys place NO_KEY) times
own_keys_without keys times place l size own = λ i m some.
    let other : (i < place) ⊎ (place < i) → nth_key (set keys place NO_KEY) i ≡ 16 * min (slice_index times i) LATE + i = λ apart.
    let k : nth_key (set keys place NO_KEY) i ≡ nth_key keys i = get_or-set_other keys place i NO_KEY NO_KEY (λ e. elim apart [ inl z ↦ omega arith | inr z ↦ omega arith ]) in
    rw k (own i m (rw k at some)) in
    elim (cases_lt i place) [
      | inl z ↦ other (inl z)
      | inr z ↦ elim (cases_lt place i) [
        | inl k ↦ other (inr k)
        | inr k ↦ absurd (
            let same : place ≡ i = omega arith in
            let here : nth_key (set keys place NO_KEY) place ≡ NO_KEY = get_or-set_same keys place NO_KEY NO_KEY (omega arith) in
            let less : nth_key (set keys place NO_KEY) place < NO_KEY = subst (λ (n : ℕ). nth_key (set keys place NO_KEY) n < NO_KEY) (sym same) some in
            omega arith)
      ]
    ]

-- The other ports keep their times.
other_held : (keys times keys_after times_after : List ℕ) (p : ℕ) → (1 ≤ p → (nth_key keys_after (p - 1) ≡ nth_key keys (p - 1)) × (slice_index times_after (p - 1) ≡ slice_index times (p - 1))) → tree_time keys_after times_after p ≡ tree_time keys times p
other_held keys times keys_after times_after p same = by_bool (nat_le 1 p)
    (λ y. let both = same (grind (arith, nat_tests)) in rw (y, both.0, both.1) refl)
    (λ y. rw y refl)

-- After a new time, the port has this time.
pub set_held : (keys times : List ℕ) (port key t : ℕ) → 1 ≤ port → port ≤ 16 → length keys ≡ 16 → length times ≡ 16 → key < NO_KEY → (p : ℕ) → tree_time (set keys (port - 1) key) (set times (port - 1) t) p ≡ (if nat_eq p port then Some t else tree_time keys times p)
set_held keys times port key t from to size sizes some p = by_bool (nat_eq p port)
    (λ y.
    let place = port - 1 in
    let same : place + 1 ≡ p = grind (arith, nat_tests) in
    let here : nth_key (set keys place key) place ≡ key = get_or-set_same keys place key NO_KEY (omega arith) in
    let time : slice_index (set times place t) place ≡ t = get_or-set_same times place t 0 (omega arith) in
    rw y (subst (λ (n : ℕ). tree_time (set keys place key) (set times place t) n ≡ Some t) same (held_next _ _ place ∙ (held_some (set keys place key) (set times place t) place (omega arith) ∙ ap Some time))))
    (λ y.
    let place = port - 1 in
    rw y (other_held keys times (set keys place key) (set times place t) p (λ l. (
      get_or-set_other keys place (p - 1) key NO_KEY (λ e. grind (arith, nat_tests)),
      get_or-set_other times place (p - 1) t 0 (λ e. grind (arith, nat_tests)),
    ))))

-- Without a time, the port has none.
pub clear_held : (keys times : List ℕ) (port : ℕ) → 1 ≤ port → port ≤ 16 → length keys ≡ 16 → (p : ℕ) → tree_time (set keys (port - 1) NO_KEY) times p ≡ (if nat_eq p port then None else tree_time keys times p)
clear_held keys times port from to size p = by_bool (nat_eq p port)
    (λ y.
    let place = port - 1 in
    let same : place + 1 ≡ p = grind (arith, nat_tests) in
    let here : nth_key (set keys place NO_KEY) place ≡ NO_KEY = get_or-set_same keys place NO_KEY NO_KEY (omega arith) in
    rw y (subst (λ (n : ℕ). tree_time (set keys place NO_KEY) times n ≡ None) same (held_next _ _ place ∙ held_none (set keys place NO_KEY) times place (omega arith))))
    (λ y.
    let place = port - 1 in
    rw y (other_held keys times (set keys place NO_KEY) times p (λ l. (get_or-set_other keys place (p - 1) NO_KEY NO_KEY (λ e. grind (arith, nat_tests)), refl))))
