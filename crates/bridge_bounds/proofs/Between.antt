-- The longest time of frames that begin to wait between two times.
use Rattle.std.proofs.Common.{◌≡◌, ℕ, zero, suc, Bool, ◌<◌, ◌≤◌, ◌+◌, ◌-◌, ◌*◌, ◌/◌, ◌%◌, ◌⊎◌, arith, refl, sym, subst, inl, inr}
use Rattle.std.proofs.Math.Nat.{mod-lt}
use Rattle.std.proofs.lemmas.Bool.{cases_lt}
use Rattle.bridge_cycle.specs.Fits.{Fits, IsFirstFit}
use Rattle.bridge_bounds.specs.Bounds.{FramesEnd, IsEdge}
use Rattle.bridge_bounds.specs.Intervals.{IsLatestStart}
use Rattle.bridge_bounds.proofs.Steps.{ends_alike, ends_behind, ends_more, ends_once, ends_rises, ends_some}
use Rattle.bridge_bounds.proofs.Edges.{NoLonger, fits_or}
use Rattle.bridge_port.proofs.Alone.{first_one}

-- Every time has a first fit.
abbrev pub HasFirsts : (ℕ → Bool) → ℕ → Type 0
HasFirsts opens occ = (w : ℕ) → (s : ℕ) × IsFirstFit opens occ w s

-- `k` frames take at least `k` transmission times.
pub ends_least : (opens : ℕ → Bool) (occ k u v : ℕ) → FramesEnd opens occ k u v → u + k * occ ≤ v
ends_least opens occ zero u v e = omega (arith, e)
ends_least opens occ (suc k) u v (w, s, e, first, is) =
    let before = ends_least opens occ k u w e in
    let after = first.after in
    let one : suc k * occ ≡ k * occ + occ = grind arith in
    omega (arith, before, after, is, one)

pub longer_trans : (opens : ℕ → Bool) (occ k u v w : ℕ) → HasFirsts opens occ → NoLonger opens occ k u v → NoLonger opens occ k v w → NoLonger opens occ k u w
longer_trans opens occ k u v w some a b y z e f =
    let (x, g) = ends_some opens occ k v some in
    let one = a y x e g in
    let other = b x z g f in
    omega (arith, one, other)

-- If nothing fits from `u` to `v`, the first fit from `v` is the first fit from `u`.
earlier : (opens : ℕ → Bool) (occ u v s : ℕ) → u ≤ v → ((w : ℕ) → u ≤ w → w ≤ v → ¬ Fits opens occ w) → IsFirstFit opens occ v s → IsFirstFit opens occ u s
earlier opens occ u v s h none first =
    let after = first.after in
    record {
      after = omega (arith, after, h);
      fits = first.fits;
      least = λ w p q. elim (cases_lt w v) [
        | inl l ↦ none w p (omega (arith, l))
        | inr l ↦ first.least w l q
      ];
    }

-- If nothing fits from `u` to `v`, frames that wait from `v` take no longer.
pub later_no_longer : (opens : ℕ → Bool) (occ k u v : ℕ) → u ≤ v → ((w : ℕ) → u ≤ w → w ≤ v → ¬ Fits opens occ w) → NoLonger opens occ k v u
later_no_longer opens occ zero u v h none y z e f = omega (arith, e, f)
later_no_longer opens occ (suc k) u v h none y z e f =
    let same = ends_alike opens occ k v u y (λ s first. earlier opens occ u v s h none first) e in
    let one = ends_once opens occ (suc k) u y z same f in
    omega (arith, one, h)

at_fit : (opens : ℕ → Bool) (occ x : ℕ) → Fits opens occ x → IsFirstFit opens occ x x
at_fit opens occ x here = record { after = omega arith; fits = here; least = λ w p q. absurd (omega (arith, p, q)) }

-- If the first frame fits, the others wait from its end.
pub ends_next : (opens : ℕ → Bool) (occ k x v : ℕ) → Fits opens occ x → FramesEnd opens occ (suc k) x v → FramesEnd opens occ k (x + occ) v
ends_next opens occ k x v here e =
    let (s, first, rest) = ends_behind opens occ k x v e in
    let same = first_one opens occ x s x first (at_fit opens occ x here) in
    subst (λ (i : ℕ). FramesEnd opens occ k (i + occ) v) same rest

-- Frames that fit at a time take no longer than frames that wait one transmission time later.
pub next_no_longer : (opens : ℕ → Bool) (occ k x : ℕ) → Fits opens occ x → NoLonger opens occ k x (x + occ)
next_no_longer opens occ zero x here y z e f = omega (arith, e, f)
next_no_longer opens occ (suc k) x here y z e f =
    let more = ends_more opens occ k (x + occ) y z (ends_next opens occ k x y here e) f in
    omega (arith, more)

-- Frames that fit one after another.
pub ends_run : (opens : ℕ → Bool) (occ j n k x v : ℕ) → n ≡ j + k → ((i : ℕ) → i < j → Fits opens occ (x + i * occ)) → FramesEnd opens occ n x v → FramesEnd opens occ k (x + j * occ) v
ends_run opens occ zero n k x v is fits e =
    let same : n ≡ k = omega (arith, is) in
    let at : x ≡ x + zero * occ = omega arith in
    subst (λ (i : ℕ). FramesEnd opens occ k i v) at (subst (λ (i : ℕ). FramesEnd opens occ i x v) same e)
ends_run opens occ (suc j) n k x v is fits e =
    let same : n ≡ suc (j + k) = omega (arith, is) in
    let at : x ≡ x + 0 * occ = omega arith in
    let here : Fits opens occ x = subst (Fits opens occ) (sym at) (fits 0 (omega arith)) in
    let next = ends_next opens occ (j + k) x v here (subst (λ (i : ℕ). FramesEnd opens occ i x v) same e) in
    let rest = ends_run opens occ j (j + k) k (x + occ) v refl (λ i l. let there : x + suc i * occ ≡ x + occ + i * occ = grind arith in subst (Fits opens occ) there (fits (suc i) (omega (arith, l)))) next in
    let far : x + occ + j * occ ≡ x + suc j * occ = grind arith in
    subst (λ (i : ℕ). FramesEnd opens occ k i v) far rest

-- The last frames of many end no earlier than if they waited by themselves after the others' transmission times.
pub ends_front : (opens : ℕ → Bool) (occ j n k z v w : ℕ) → HasFirsts opens occ → n ≡ j + k → FramesEnd opens occ n z v → FramesEnd opens occ k (z + j * occ) w → w ≤ v
ends_front opens occ zero n k z v w some is e f =
    let same : n ≡ k = omega (arith, is) in
    let at : z + zero * occ ≡ z = omega arith in
    let one = ends_once opens occ k z v w (subst (λ (i : ℕ). FramesEnd opens occ i z v) same e) (subst (λ (i : ℕ). FramesEnd opens occ k i w) at f) in
    omega (arith, one)
ends_front opens occ (suc j) n k z v w some is e f =
    let same : n ≡ suc (j + k) = omega (arith, is) in
    let (s, first, rest) = ends_behind opens occ (j + k) z v (subst (λ (i : ℕ). FramesEnd opens occ i z v) same e) in
    let after = first.after in
    let (x, g) = ends_some opens occ k (s + occ + j * occ) some in
    let upto = ends_front opens occ j (j + k) k (s + occ) v x some refl rest g in
    let far : z + suc j * occ ≡ z + occ + j * occ = grind arith in
    let low = ends_rises opens occ k (z + suc j * occ) (s + occ + j * occ) w x (omega (arith, far, after)) f g in
    omega (arith, low, upto)

-- Nothing fits in the transmission time after an edge.
pub none_after_edge : (opens : ℕ → Bool) (occ c v : ℕ) → IsEdge opens occ c → c < v → v ≤ c + occ → ¬ Fits opens occ v
none_after_edge opens occ c v edge after before f = edge.last (λ u p q. elim (cases_lt u (c + occ)) [
  | inl l ↦ edge.fits u (omega (arith, p)) l
  | inr l ↦ f u (omega (arith, l, before)) (omega (arith, q, after))
])

times_more : (n len : ℕ) → 1 ≤ n → (n - 1) * len + len ≡ n * len
times_more n len some =
    let e : (n - 1) + 1 ≡ n = omega (arith, some) in
    let sums : ((n - 1) + 1) * len ≡ (n - 1) * len + len = grind arith in
    sym (subst (λ (m : ℕ). m * len ≡ (n - 1) * len + len) e sums)

-- Frames that fill the window up to its end take no longer than frames that begin earlier and miss the window's last fit.
pub run_no_longer : (opens : ℕ → Bool) (occ k q x z c : ℕ) → HasFirsts opens occ → IsEdge opens occ c → ((v : ℕ) → x ≤ v → v ≤ c → Fits opens occ v) → 1 ≤ q → z ≤ x → c + 1 ≤ z + q * occ → x + (q - 1) * occ ≤ c → NoLonger opens occ k x z
run_no_longer opens occ k q x z c some edge all one before miss hit y y2 e f = elim (cases_lt q k) [
  | inr few ↦
      let fits : (i : ℕ) → i < k → Fits opens occ (x + i * occ) = λ i l. all (x + i * occ) (omega arith) (let less = times i (q - 1) occ (omega (arith, l, few)) in omega (arith, less, hit)) in
      let plain : FramesEnd opens occ 0 (x + k * occ) y = ends_run opens occ k k 0 x y (omega arith) fits e in
      let least = ends_least opens occ k z y2 f in
      omega (arith, plain, least)
  | inl many ↦
      let fits : (i : ℕ) → i < q → Fits opens occ (x + i * occ) = λ i l. all (x + i * occ) (omega arith) (let less = times i (q - 1) occ (omega (arith, l)) in omega (arith, less, hit)) in
      let rest : FramesEnd opens occ (suc (k - q - 1)) (x + q * occ) y = ends_run opens occ q k (suc (k - q - 1)) x y (omega (arith, many)) fits e in
      let last = times_more q occ one in
      let out : (w : ℕ) → c + 1 ≤ w → w ≤ x + q * occ → ¬ Fits opens occ w = λ w a b. none_after_edge opens occ c w edge (omega (arith, a)) (omega (arith, b, last, hit)) in
      let miss_too : c + 1 ≤ x + q * occ = omega (arith, miss, before) in
      let same : FramesEnd opens occ (suc (k - q - 1)) (c + 1) y = ends_alike opens occ (k - q - 1) (x + q * occ) (c + 1) y (λ s first. earlier opens occ (c + 1) (x + q * occ) s miss_too out first) rest in
      let (w, g) = ends_some opens occ (suc (k - q - 1)) (z + q * occ) some in
      let low = ends_rises opens occ (suc (k - q - 1)) (c + 1) (z + q * occ) y w miss same g in
      let upto = ends_front opens occ q k (suc (k - q - 1)) z y2 w some (omega (arith, many)) f g in
      omega (arith, low, upto, before)
]
  where
    times : (i n len : ℕ) → i ≤ n → i * len ≤ n * len
    times i n len h =
        let parts : i + (n - i) ≡ n = omega (arith, h) in
        let sums : (i + (n - i)) * len ≡ i * len + (n - i) * len = grind arith in
        let whole : n * len ≡ i * len + (n - i) * len = subst (λ (m : ℕ). m * len ≡ i * len + (n - i) * len) parts sums in
        omega (arith, whole)

-- The times from `from` to `x` at which nothing fits, up to `x`, begin at `start`.
record IsStretch (opens : ℕ → Bool) (occ from x start : ℕ) : Type 0 where
  after : from ≤ start
  before : start ≤ x
  none : (v : ℕ) → start ≤ v → v ≤ x → ¬ Fits opens occ v
  begins : (start ≡ from) ⊎ ((c : ℕ) × (start ≡ c + 1) × (from ≤ c) × IsEdge opens occ c)

stretch : (opens : ℕ → Bool) (occ n from : ℕ) → (¬ Fits opens occ (from + n)) → (start : ℕ) × IsStretch opens occ from (from + n) start
stretch opens occ zero from none =
    let at : from + zero ≡ from = omega arith in (
      from,
      record {
        after = omega arith;
        before = omega arith;
        none = λ v p q. let same : v ≡ from + zero = omega (arith, p, q) in subst (λ (i : ℕ). ¬ Fits opens occ i) (sym same) none;
        begins = inl refl;
      },
    )
stretch opens occ (suc n) from none = elim (fits_or opens occ (from + n)) [
  | inl here ↦ (
    from + suc n,
    record {
      after = omega arith;
      before = omega arith;
      none = λ v p q. let same : v ≡ from + suc n = omega (arith, p, q) in subst (λ (i : ℕ). ¬ Fits opens occ i) (sym same) none;
      begins = inr (from + n, omega arith, omega arith, record { fits = here; last = λ f. let same : from + n + 1 ≡ from + suc n = omega arith in none (subst (Fits opens occ) same f) });
    },
  )
  | inr there ↦
      let (start, is) = stretch opens occ n from there in
      let before = is.before in (
        start,
        record {
          after = is.after;
          before = omega (arith, before);
          none = λ v p q. elim (cases_lt (from + n) v) [
            | inl l ↦ let same : v ≡ from + suc n = omega (arith, l, q) in subst (λ (i : ℕ). ¬ Fits opens occ i) (sym same) none
            | inr l ↦ is.none v p l
          ];
          begins = is.begins;
        },
      )
]

-- The set `S` has `from`, the times after edges up to `to`, and the latest start.
pub record IsBetweenCovered (opens : ℕ → Bool) (occ from to : ℕ) (S : ℕ → Type 0) : Type 0 where
  pub start : S from
  pub edges : (c : ℕ) → from ≤ c → c < to → IsEdge opens occ c → S (c + 1)
  pub latest : ℕ
  pub serves : S latest
  pub is_latest : IsLatestStart opens occ from to latest

-- A time at which nothing fits: some time in `S` is no better.
shut_covered : (opens : ℕ → Bool) (occ from to x k : ℕ) (S : ℕ → Type 0) → IsBetweenCovered opens occ from to S → from ≤ x → x ≤ to → (¬ Fits opens occ x) → (z : ℕ) × S z × NoLonger opens occ k x z
shut_covered opens occ from to x k S covered after before none =
    let e : from + (x - from) ≡ x = omega (arith, after) in
    let (start, found) = stretch opens occ (x - from) from (λ f. none (subst (Fits opens occ) e f)) in
    let is : IsStretch opens occ from x start = subst (λ (i : ℕ). IsStretch opens occ from i start) e found in
    let shorter = later_no_longer opens occ k start x is.before is.none in
    elim is.begins [
      | inl same ↦ (from, covered.start, subst (λ (i : ℕ). NoLonger opens occ k x i) same shorter)
      | inr (c, same, from_c, edge) ↦
          let upto = is.before in
          (c + 1, covered.edges c from_c (omega (arith, upto, same, before)) edge, subst (λ (i : ℕ). NoLonger opens occ k x i) same shorter)
    ]

-- The last transmission time before `to`, if nothing fits at `to`.
shut_end_covered : (opens : ℕ → Bool) (occ from to x k : ℕ) (S : ℕ → Type 0) → HasFirsts opens occ → IsBetweenCovered opens occ from to S → from ≤ x → x ≤ to → to < x + occ → Fits opens occ x → (¬ Fits opens occ to) → (z : ℕ) × S z × NoLonger opens occ k x z
shut_end_covered opens occ from to x k S some covered after before near here none =
    let e : x + (to - x) ≡ to = omega (arith, before) in
    let (start, found) = stretch opens occ (to - x) x (λ f. none (subst (Fits opens occ) e f)) in
    let is : IsStretch opens occ x to start = subst (λ (i : ℕ). IsStretch opens occ x i start) e found in
    elim is.begins [
      | inl same ↦ absurd (is.none x (omega (arith, same)) before here)
      | inr (c, same, from_c, edge) ↦
          let upto = is.before in
          let shut : (w : ℕ) → c + 1 ≤ w → w ≤ x + occ → ¬ Fits opens occ w = λ w a b. none_after_edge opens occ c w edge (omega (arith, a)) (omega (arith, b, from_c)) in
          let on = next_no_longer opens occ k x here in
          let back = later_no_longer opens occ k (c + 1) (x + occ) (omega (arith, upto, same, near)) shut in
          (c + 1, covered.edges c (omega (arith, after, from_c)) (omega (arith, upto, same)) edge, longer_trans opens occ k x (x + occ) (c + 1) some on back)
    ]

-- The last transmission time before `to`, if a frame fits at `to`.
open_end_covered : (opens : ℕ → Bool) (occ from to x k : ℕ) (S : ℕ → Type 0) → 1 ≤ occ → HasFirsts opens occ → IsBetweenCovered opens occ from to S → from ≤ x → x ≤ to → to < x + occ → Fits opens occ x → Fits opens occ to → (z : ℕ) × S z × NoLonger opens occ k x z
open_end_covered opens occ from to x k S one some covered after before near here there =
    let both : (v : ℕ) → x ≤ v → v ≤ to → Fits opens occ v = λ v p q u a b. elim (cases_lt u (x + occ)) [
      | inl l ↦ here u (omega (arith, p, a)) l
      | inr l ↦ there u (omega (arith, l, near)) (omega (arith, b, q))
    ] in
    elim (covered.is_latest there) [
      | inl always ↦ (
        from,
        covered.start,
        λ y z e f.
            let fits : (i : ℕ) → i < k → Fits opens occ (x + i * occ) = λ i l. elim (cases_lt to (x + i * occ)) [
              | inl m ↦ always (x + i * occ) (omega (arith, m))
              | inr m ↦ both (x + i * occ) (omega arith) m
            ] in
            let plain : FramesEnd opens occ 0 (x + k * occ) y = ends_run opens occ k k 0 x y (omega arith) fits e in
            let least = ends_least opens occ k from z f in
            omega (arith, plain, least),
      )
      | inr (c, end, is) ↦
          let far = end.after in
          let all : (v : ℕ) → x ≤ v → v ≤ c → Fits opens occ v = λ v p q. elim (cases_lt to v) [
            | inl m ↦ end.all v (omega (arith, m)) q
            | inr m ↦ both v p m
          ] in
          let r = (c - to) % occ in
          let below : r < occ = mod-lt (c - to) one in
          let divided : (c - to) / occ * occ + r ≡ c - to = grind arith in
          let q = (c - to) / occ + 1 in
          let more : q * occ ≡ (c - to) / occ * occ + occ = grind arith in
          let less : (q - 1) * occ ≡ (c - to) / occ * occ = grind arith in
          let latest = covered.latest in
          elim (cases_lt x latest) [
            | inr l ↦ (latest, covered.serves, run_no_longer opens occ k q x latest c some end.edge all (omega arith) l (omega (arith, is, divided, more, far)) (omega (arith, less, divided, before, far)))
            | inl l ↦
                let on = next_no_longer opens occ k x here in
                let run = run_no_longer opens occ k q (x + occ) latest c some end.edge (λ v p h. all v (omega (arith, p)) h) (omega arith) (omega (arith, is, below, near, before)) (omega (arith, is, divided, more, far)) (omega (arith, less, divided, l, is, after, far)) in
                (latest, covered.serves, longer_trans opens occ k x (x + occ) latest some on run)
          ]
    ]

-- The last transmission time before `to`.
end_covered : (opens : ℕ → Bool) (occ from to x k : ℕ) (S : ℕ → Type 0) → 1 ≤ occ → HasFirsts opens occ → IsBetweenCovered opens occ from to S → from ≤ x → x ≤ to → to < x + occ → Fits opens occ x → (z : ℕ) × S z × NoLonger opens occ k x z
end_covered opens occ from to x k S one some covered after before near here = elim (fits_or opens occ to) [
  | inl there ↦ open_end_covered opens occ from to x k S one some covered after before near here there
  | inr none ↦ shut_end_covered opens occ from to x k S some covered after before near here none
]

-- Frames that wait from any time between `from` and `to` take no longer than from some time in `S`.
pub between_no_longer : (opens : ℕ → Bool) (occ from to n x k : ℕ) (S : ℕ → Type 0) → 1 ≤ occ → HasFirsts opens occ → IsBetweenCovered opens occ from to S → from ≤ x → x ≤ to → to ≤ x + n → (z : ℕ) × S z × NoLonger opens occ k x z
between_no_longer opens occ from to zero x k S one some covered after before fuel = elim (fits_or opens occ x) [
  | inr none ↦ shut_covered opens occ from to x k S covered after before none
  | inl here ↦ end_covered opens occ from to x k S one some covered after before (omega (arith, one, fuel)) here
]
between_no_longer opens occ from to (suc n) x k S one some covered after before fuel = elim (fits_or opens occ x) [
  | inr none ↦ shut_covered opens occ from to x k S covered after before none
  | inl here ↦ elim (cases_lt to (x + occ)) [
    | inl near ↦ end_covered opens occ from to x k S one some covered after before near here
    | inr far ↦
        let (z, serves, rest) = between_no_longer opens occ from to n (x + occ) k S one some covered (omega (arith, after)) far (omega (arith, fuel, one)) in
        (z, serves, longer_trans opens occ k x (x + occ) z some (next_no_longer opens occ k x here) rest)
  ]
]
