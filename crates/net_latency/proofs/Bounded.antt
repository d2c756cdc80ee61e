-- Delay bounds, added queue by queue.
use Rattle.std.proofs.Common.{◌≡◌, ℕ, suc, zero, ◌+◌, ◌-◌, ◌<◌, ◌≤◌, List, [], ◌∷◌, ◌++◌, Some, length, slice_get, get_or, refl, sym, ap, ap₂, subst, ◌∙◌, inl, inr, arith, true, false}
use Rattle.std.specs.Prelude.{nat_eq, ◌⊎◌, Vec}
use Rattle.std.specs.Map.{lookup}
use Rattle.std.specs.Prelude.{◌/◌, ◌%◌}
use Rattle.std.proofs.lemmas.Option.{slice_get-get_or, none-some}
use Rattle.std.proofs.lemmas.Nat.{div-add-mod'}
use Rattle.std.proofs.Math.Nat.{mod-lt}
use Rattle.std.proofs.lemmas.Bool.{false≢true, eqb-true}
use Rattle.std.proofs.lemmas.Cmp.{nat_eq_equiv}
use Rattle.bridge_limits.specs.Members.{IsMember, IsOrdered}
use Rattle.bridge_limits.proofs.Members.{in_left, in_push, rising_push, after_at}
use Rattle.bridge_limits.proofs.Cases.{by_bool}
use Rattle.bridge_filter.specs.declared.FilterPlan.{FilterPlan}
use Rattle.bridge_config.specs.declared.ports.PortPlan.{PortPlan}
use Rattle.bridge_config.specs.Model.{Plan}
use Rattle.bridge_config.specs.Rules.{find_port}
use Rattle.bridge_check.specs.Reach.{reaches_queue}
use Rattle.bridge_bounds.specs.Bounds.{HasNoBound, IsQueueBound}
use Rattle.net_latency.specs.declared.bounds.QueueBound.{QueueBound}
use Rattle.net_latency.specs.Streams.{AreQueueBoundsOfPlans}
use Rattle.net_latency.specs.Bounds.{AreBounds, AreBoundsSoFar, AreLeastBounds, PrecedesQueue, IsHandledQueue, queue_index, queue_bound}

some_same : {X : Type 0} (a b : X) → Some a ≡ Some b → a ≡ b
some_same a b e = cc

-- A LIST BY RISING NUMBER

abbrev Filters : Type 0
Filters = List (ℕ × FilterPlan)

abbrev ByNumber : ℕ × FilterPlan → ℕ × FilterPlan → Type 0
ByNumber x y = x.0 < y.0

-- In an ordered list, a lower index has a lower filter number.
sooner : (xs : Filters) (i k : ℕ) (x y : ℕ × FilterPlan) → IsOrdered ByNumber xs → i < k → slice_get xs i ≡ Some x → slice_get xs k ≡ Some y → x.0 < y.0
sooner [] i k x y rises before here there = absurd (none-some x here)
sooner (z ∷ xs) zero zero x y rises before here there = absurd (omega (arith, before))
sooner (z ∷ xs) zero (suc k) x y rises before here there = subst (λ (w : ℕ × FilterPlan). w.0 < y.0) (some_same z x here) (after_at ByNumber z xs k y rises.0 there)
sooner (z ∷ xs) (suc i) zero x y rises before here there = absurd (omega (arith, before))
sooner (z ∷ xs) (suc i) (suc k) x y rises before here there = sooner xs i k x y rises.1 (omega (arith, before)) here there

-- The filter at an index is found by its number.
pub found_at : (xs : Filters) (i n : ℕ) (f : FilterPlan) → IsOrdered ByNumber xs → slice_get xs i ≡ Some (n, f) → lookup (nat_eq n) xs ≡ Some f
found_at [] i n f rises is = absurd (none-some (n, f) is)
found_at (z ∷ xs) zero n f rises is =
    let same : z ≡ (n, f) = some_same z (n, f) is in
    let test : nat_eq n z.0 ≡ true = subst (λ (w : ℕ × FilterPlan). nat_eq n w.0 ≡ true) (sym same) (nat_eq_equiv.refl n) in
    rw test (ap (λ (w : ℕ × FilterPlan). Some w.1) same)
found_at (z ∷ xs) (suc i) n f rises is =
    let less : z.0 < n = after_at ByNumber z xs i (n, f) rises.0 is in
    by_bool (nat_eq n z.0)
    (λ t. absurd (let same = eqb-true n z.0 t in omega (arith, same, less)))
    (λ t. rw t (found_at xs i n f rises.1 is))

found_here : (z : ℕ × FilterPlan) (xs : Filters) (n : ℕ) (f : FilterPlan) → nat_eq n z.0 ≡ true → lookup (nat_eq n) (z ∷ xs) ≡ Some f → Some z.1 ≡ Some f
found_here z xs n f t is = rw t at is

found_behind : (z : ℕ × FilterPlan) (xs : Filters) (n : ℕ) (f : FilterPlan) → nat_eq n z.0 ≡ false → lookup (nat_eq n) (z ∷ xs) ≡ Some f → lookup (nat_eq n) xs ≡ Some f
found_behind z xs n f t is = rw t at is

-- A filter that is found by its number has an index.
pub place_found : (xs : Filters) (n : ℕ) (f : FilterPlan) → lookup (nat_eq n) xs ≡ Some f → (i : ℕ) × (i < length xs) × (slice_get xs i ≡ Some (n, f))
place_found [] n f is = absurd (none-some f is)
place_found (z ∷ xs) n f is = by_bool (nat_eq n z.0)
    (λ t.
    let same : Some z.1 ≡ Some f = found_here z xs n f t is in
    let number : n ≡ z.0 = eqb-true n z.0 t in
    let both : z ≡ (n, f) = ap₂ (λ (a : ℕ) (b : FilterPlan). (a, b)) (sym number) (some_same z.1 f same) in
    (zero, omega arith, ap Some both))
    (λ t.
    let h : lookup (nat_eq n) xs ≡ Some f = found_behind z xs n f t is in
    let rest = place_found xs n f h in
    (suc rest.0, (let less = rest.1 in omega (arith, less)), rest.2))

-- QUEUES BY INDEX

same_class : (q c r d : ℕ) → 1 ≤ q → c < 8 → 1 ≤ r → d < 8 → queue_index q c ≡ queue_index r d → (q ≡ r) × (c ≡ d)
same_class q c r d from to from2 to2 same = (omega (arith, from, to, from2, to2, same), omega (arith, from, to, from2, to2, same))

within : (q c : ℕ) → q ≤ 16 → c < 8 → queue_index q c < 128
within q c most low = omega (arith, most, low)

more : (i j at place : ℕ) → IsHandledQueue i j at place → IsHandledQueue i j at (place + 1)
more i j at place (inl less) = inl less
more i j at place (inr (same, less)) = inr (same, omega (arith, less))

-- A queue handled before the next index was handled before, or is the queue at this index.
last_or_before : (i j at place : ℕ) → IsHandledQueue i j at (place + 1) → IsHandledQueue i j at place ⊎ ((i ≡ at) × (j ≡ place))
last_or_before i j at place (inl less) = inl (inl less)
last_or_before i j at place (inr (same, less)) = by_order j place less
  where
    by_order : (j place : ℕ) → j < place + 1 → IsHandledQueue i j at place ⊎ ((i ≡ at) × (j ≡ place))
    by_order j place less = elim (let cases : (j < place) ⊎ (j ≡ place) = grind (arith, less) in cases) [ inl before ↦ inl (inr (same, before)) | inr here ↦ inr (same, here) ]

-- At first no queue is handled.
pub none_yet : {A : Type 0} (p : Plan A) (order : Filters) → AreBoundsSoFar p order 0 0 []
none_yet p order = record {
  rises = tt;
  each = λ r i. absurd i;
  below = λ r i. absurd i;
  all = λ i q c n f is protected from to low reach done. absurd (elim done [ inl less ↦ omega (arith, less) | inr (same, less) ↦ omega (arith, less) ]);
}

module _ {A : Type 0} (p : Plan A) (order : Filters) (at place n q c : ℕ) (f : FilterPlan) (rows : List QueueBound)
    (up : AreBoundsSoFar p order at place rows) (here : slice_get order at ≡ Some (n, f)) (from : 1 ≤ q) (low : c < 8) (is : queue_index q c ≡ place) where
  -- A queue with a bound.
  pub with_bound : (b : ℕ) → IsOrdered ByNumber order → IsQueueBound p n q c b → AreBoundsSoFar p order at (place + 1) (rows ++ queue_bound n q c b ∷ [])
  with_bound b rises bound =
      let row = queue_bound n q c b in
      let before : (x : QueueBound) → IsMember x rows → PrecedesQueue x row = λ x i.
      let b = up.below x i in
      elim b.3 [
        | inl less ↦ inl (sooner order b.0 at (x.filter, b.1) (n, f) rises less b.2 here)
        | inr (same, less) ↦ inr ((let both : Some (x.filter, b.1) ≡ Some (n, f) = sym b.2 ∙ (ap (slice_get order) same ∙ here) in ap (λ (w : ℕ × FilterPlan). w.0) (some_same (x.filter, b.1) (n, f) both)), (let e = is in omega (arith, e, less)))
      ] in
      record {
        rises = rising_push PrecedesQueue rows row up.rises before;
        each = λ r i. elim (in_push r row rows i) [
          | inl old ↦ up.each r old
          | inr new ↦ subst (λ (z : QueueBound). IsQueueBound p z.filter z.port z.class z.bound) (sym new) bound
        ];
        below = λ r i. elim (in_push r row rows i) [
          | inl old ↦ (let b = up.below r old in (b.0, b.1, b.2, more b.0 (queue_index r.port r.class) at place b.3))
          | inr new ↦ (at, f, (let e : r.filter ≡ n = ap (λ (z : QueueBound). z.filter) new in rw e here), inr (refl, (let e : queue_index r.port r.class ≡ place = ap (λ (z : QueueBound). queue_index z.port z.class) new ∙ is in omega (arith, e))))
        ];
        all = λ i r d m g there protected begins ends small reach done. elim (last_or_before i (queue_index r d) at place done) [
          | inl old ↦ (let z = up.all i r d m g there protected begins ends small reach old in (z.0, in_left (queue_bound m r d z.0) rows (row ∷ []) z.1))
          | inr (same, last) ↦ (
            b,
            in_last rows row (queue_bound m r d b) (
                let both : Some (m, g) ≡ Some (n, f) = sym there ∙ (ap (slice_get order) same ∙ here) in
                let number : m ≡ n = ap (λ (w : ℕ × FilterPlan). w.0) (some_same (m, g) (n, f) both) in
                let queue = same_class r d q c begins small from low (last ∙ sym is) in
                let port = queue.0 in let class = queue.1 in
                cc),
          )
        ];
      }
    where
      in_last : (xs : List QueueBound) (y z : QueueBound) → z ≡ y → IsMember z (xs ++ y ∷ [])
      in_last [] y z e = inl e
      in_last (x ∷ xs) y z e = inr (in_last xs y z e)

  -- A queue that isn't reachable for a protected filter.
  pub without_bound : IsOrdered ByNumber order → ((m : ℕ) → lookup (nat_eq m) order ≡ lookup (nat_eq m) p.filters) → HasNoBound p n q c → AreBoundsSoFar p order at (place + 1) rows
  without_bound rises found none = record {
    rises = up.rises;
    each = up.each;
    below = λ r i. let b = up.below r i in (b.0, b.1, b.2, more b.0 (queue_index r.port r.class) at place b.3);
    all = λ i r d m g there protected begins ends small reach done. elim (last_or_before i (queue_index r d) at place done) [
      | inl old ↦ up.all i r d m g there protected begins ends small reach old
      | inr (same, last) ↦ absurd (
          let both : Some (m, g) ≡ Some (n, f) = sym there ∙ (ap (slice_get order) same ∙ here) in
          let pair : (m, g) ≡ (n, f) = some_same (m, g) (n, f) both in
          let queue = same_class r d q c begins small from low (last ∙ sym is) in
          let filter : g ≡ f = ap (λ (w : ℕ × FilterPlan). w.1) pair in
          let own : lookup (nat_eq n) p.filters ≡ Some f = sym (found n) ∙ found_at order at n f rises here in
          let shut : reaches_queue p f q c ≡ false = none f own (subst (λ (w : FilterPlan). w.protected ≡ true) filter protected) in
          let opened : reaches_queue p f q c ≡ true = (let port = queue.0 in let class = queue.1 in subst (λ (w : FilterPlan). reaches_queue p w q c ≡ true) filter (rw (sym port, sym class) reach)) in
          false≢true (sym shut ∙ opened))
    ];
  }

-- If all queues of a filter are handled, the next filter begins.
pub next_filter : {A : Type 0} (p : Plan A) (order : Filters) (at : ℕ) (rows : List QueueBound) → AreBoundsSoFar p order at 128 rows → AreBoundsSoFar p order (at + 1) 0 rows
next_filter p order at rows up = record {
  rises = up.rises;
  each = up.each;
  below = λ r i. let b = up.below r i in (b.0, b.1, b.2, elim b.3 [ inl less ↦ inl (omega (arith, less)) | inr (same, less) ↦ inl (omega (arith, same)) ]);
  all = λ i q c n f is protected from to low reach done. up.all i q c n f is protected from to low reach (
      elim done [
        | inl less ↦ elim (let cases : (i < at) ⊎ (i ≡ at) = grind (arith, less) in cases) [ inl before ↦ inl before | inr here ↦ inr (here, within q c to low) ]
        | inr (same, less) ↦ absurd (omega (arith, less))
      ]);
}

-- After the last filter, all bounds are present.
pub all_bounds : {A : Type 0} (p : Plan A) (order : Filters) (at : ℕ) (rows : List QueueBound) → length order ≤ at → ((m : ℕ) → lookup (nat_eq m) order ≡ lookup (nat_eq m) p.filters) → AreBoundsSoFar p order at 0 rows → AreBounds p rows
all_bounds p order at rows end found up = record {
  rises = up.rises;
  each = up.each;
  all = λ n q c f is protected from to low reach.
      let place = place_found order n f (found n ∙ is) in
      up.all place.0 q c n f place.2 protected from to low reach (inl (let less = place.1 in omega (arith, less, end)));
}

-- The index of the queue with a given port and class.
placed : (place : ℕ) → queue_index (place / 8 + 1) (place % 8) ≡ place
placed place = let back : place / 8 + 1 - 1 ≡ place / 8 = omega arith in rw back (div-add-mod' place 8)

module _ {A : Type 0} (p : Plan A) (order : Filters) (at place : ℕ) (d : ℕ × FilterPlan) (rows : List QueueBound)
    (within : at < length order) (rises : IsOrdered ByNumber order) (up : AreBoundsSoFar p order at place rows) where
  -- The bound of the queue at an index is added.
  pub one_bound : (b : ℕ) (news : List QueueBound) → IsQueueBound p (get_or order at d).0 (place / 8 + 1) (place % 8) b → news ≡ rows ++ queue_bound (get_or order at d).0 (place / 8 + 1) (place % 8) b ∷ [] → AreBoundsSoFar p order at (place + 1) news
  one_bound b news bound is =
      let x = get_or order at d in
      subst (AreBoundsSoFar p order at (place + 1)) (sym is)
      (with_bound p order at place x.0 (place / 8 + 1) (place % 8) x.1 rows up (slice_get-get_or order at d within) (omega arith) (mod-lt place (omega arith)) (placed place) b rises bound)

  -- The queue at an index has no bound.
  pub no_bound : ((m : ℕ) → lookup (nat_eq m) order ≡ lookup (nat_eq m) p.filters) → HasNoBound p (get_or order at d).0 (place / 8 + 1) (place % 8) → AreBoundsSoFar p order at (place + 1) rows
  no_bound found none =
      let x = get_or order at d in
      without_bound p order at place x.0 (place / 8 + 1) (place % 8) x.1 rows up (slice_get-get_or order at d within) (omega arith) (mod-lt place (omega arith)) (placed place) rises found none

-- The port that a number finds has this number.
pub number_at : {A : Type 0} (ports : List (PortPlan A)) (q : ℕ) (out : PortPlan A) → find_port ports q ≡ Some out → out.number ≡ q
number_at [] q out is = absurd (none-some out is)
number_at (x ∷ xs) q out is = by_bool (nat_eq x.number q)
    (λ t. let here : Some x ≡ Some out = rw t at is in subst (λ (z : PortPlan _). z.number ≡ q) (some_same x out here) (eqb-true x.number q t))
    (λ t. let there : find_port xs q ≡ Some out = rw t at is in number_at xs q out there)

-- The filter that a number finds is unique.
found_same : (xs : Filters) (n : ℕ) (f g : FilterPlan) → lookup (nat_eq n) xs ≡ Some f → lookup (nat_eq n) xs ≡ Some g → g ≡ f
found_same xs n f g here there = some_same g f (sym there ∙ here)

-- An unprotected filter, or an unreachable queue, has no bound.
pub unprotected : {A : Type 0} (p : Plan A) (n q c : ℕ) (f : FilterPlan) → lookup (nat_eq n) p.filters ≡ Some f → f.protected ≡ false → HasNoBound p n q c
unprotected p n q c f found none = λ g there protected. absurd (false≢true (sym none ∙ subst (λ (w : FilterPlan). w.protected ≡ true) (found_same p.filters n f g found there) protected))

pub unreached_by : {A : Type 0} (p : Plan A) (n q c : ℕ) (f : FilterPlan) → lookup (nat_eq n) p.filters ≡ Some f → reaches_queue p f q c ≡ false → HasNoBound p n q c
unreached_by p n q c f found shut = λ g there protected. subst (λ (w : FilterPlan). reaches_queue p w q c ≡ false) (sym (found_same p.filters n f g found there)) shut

-- The filter at an index is found by its number.
pub found_own : {A : Type 0} (p : Plan A) (order : Filters) (at : ℕ) (d : ℕ × FilterPlan) → at < length order → IsOrdered ByNumber order → ((m : ℕ) → lookup (nat_eq m) order ≡ lookup (nat_eq m) p.filters) → lookup (nat_eq (get_or order at d).0) p.filters ≡ Some (get_or order at d).1
found_own p order at d within rises found =
    let x = get_or order at d in
    sym (found x.0) ∙ found_at order at x.0 x.1 rises (slice_get-get_or order at d within)

-- The bounds of one plan more.
pub more_bounds : {A : Type 0} (ps : List (Plan A)) (vs : List (Vec QueueBound A)) (p : Plan A) (v : Vec QueueBound A) → AreQueueBoundsOfPlans ps vs → AreLeastBounds p v.items → AreQueueBoundsOfPlans (ps ++ p ∷ []) (vs ++ v ∷ [])
more_bounds [] [] p v are is = (is, tt)
more_bounds [] (y ∷ ys) p v are is = absurd are
more_bounds (x ∷ xs) [] p v are is = absurd are
more_bounds (x ∷ xs) (y ∷ ys) p v are is = (are.0, more_bounds xs ys p v are.1 is)
