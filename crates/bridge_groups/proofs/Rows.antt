-- Rows of shared queues, one after another.
use Rattle.std.proofs.Common.{◌≡◌, ◌<◌, ◌≤◌, ◌+◌, ◌-◌, ◌*◌, ◌/◌, ◌%◌, ◌⊎◌, ℕ, true, false, List, [], ◌∷◌, ◌++◌, Option, Some, None, nat_le, refl, sym, ap, ◌∙◌, subst, arith, inl, inr}
use Rattle.std.proofs.lemmas.Bool.{and_parts, cases_lt, false≢true, or_cases}
use Rattle.std.proofs.lemmas.Bool.Decides.{nat_tests}
use Rattle.bridge_limits.specs.Members.{IsMember}
use Rattle.bridge_limits.proofs.Cases.{by_bool}
use Rattle.bridge_limits.proofs.Members.{in_either, in_left, in_right}
use Rattle.bridge_limits.proofs.Orders.{same_eq}
use Rattle.bridge_filter.specs.declared.FilterPlan.{FilterPlan}
use Rattle.bridge_filter.specs.Routes.{lesser_number}
use Rattle.bridge_config.specs.Model.{Plan}
use Rattle.bridge_config.specs.declared.ports.PortPlan.{PortPlan}
use Rattle.bridge_config.specs.Rules.{IsPlan, find_port}
use Rattle.bridge_config.proofs.PlanPorts.{port_is}
use Rattle.bridge_check.specs.Reach.{reaches_queue}
use Rattle.bridge_check.proofs.Told.{unreached}
use Rattle.bridge_semantics.specs.Groups.{IsGroupQueue}
use Rattle.bridge_check.specs.Faults.{is_in_group}
use Rattle.bridge_semantics.proofs.GroupMembers.{grouped_as}
use Rattle.bridge_groups.specs.Sharers.{has_sharer, is_sharer}
use Rattle.bridge_groups.specs.SharedQueues.{IsRowOf, IsSharedQueue}
use Rattle.bridge_groups.specs.GroupRows.{AreRowsSoFar, AreSharedQueues, group_from, least_group}
use Rattle.bridge_groups.specs.declared.shared_queues.SharedQueue.{SharedQueue}

-- THE NEXT GROUP

-- The result is the least group from `from` on, or there is none.
abbrev pub IsNextGroup : List (ℕ × FilterPlan) → ℕ → Option ℕ → Type 0
IsNextGroup filters from None = (n group : ℕ) (f : FilterPlan) → IsMember (n, f) filters → f.group ≡ Some group → group < from
IsNextGroup filters from (Some next) = (from ≤ next) × ((n group : ℕ) (f : FilterPlan) → IsMember (n, f) filters → f.group ≡ Some group → (group < from) ⊎ (next ≤ group))

-- What is known of one filter's group.
abbrev IsCandidate : ℕ → Option ℕ → Option ℕ → Type 0
IsCandidate from own None = (group : ℕ) → own ≡ Some group → group < from
IsCandidate from own (Some next) = (from ≤ next) × ((group : ℕ) → own ≡ Some group → next ≤ group)

candidate : (from : ℕ) (own : Option ℕ) → IsCandidate from own (group_from from own)
candidate from None = λ group e. absurd (cc)
candidate from (Some g) = by_bool (nat_le from g)
    (λ k. rw k (at_least from g k, λ group e. let same : g ≡ group = cc in omega (arith, same)))
    (λ k. rw k (λ group e. let same : g ≡ group = cc in let less = below from g k in omega (arith, same, less)))
  where
    at_least : (a b : ℕ) → nat_le a b ≡ true → a ≤ b
    at_least a b h = grind (arith, nat_tests)

    below : (a b : ℕ) → nat_le a b ≡ false → b < a
    below a b h = grind (arith, nat_tests)

next_of : (f : ℕ × FilterPlan) (fs : List (ℕ × FilterPlan)) (from : ℕ) (a b : Option ℕ) → IsCandidate from f.1.group a → IsNextGroup fs from b → IsNextGroup (f ∷ fs) from (lesser_number a b)
next_of f fs from None None own rest = λ n group g i e. elim i [
  | inl same ↦ own group (ap (λ (x : ℕ × FilterPlan). x.1.group) (sym same) ∙ e)
  | inr j ↦ rest n group g j e
]
next_of f fs from None (Some b) own rest = (
  rest.0,
  λ n group g i e. elim i [
    | inl same ↦ inl (own group (ap (λ (x : ℕ × FilterPlan). x.1.group) (sym same) ∙ e))
    | inr j ↦ rest.1 n group g j e
  ],
)
next_of f fs from (Some a) None own rest = (
  own.0,
  λ n group g i e. elim i [
    | inl same ↦ inr (own.1 group (ap (λ (x : ℕ × FilterPlan). x.1.group) (sym same) ∙ e))
    | inr j ↦ inl (rest n group g j e)
  ],
)
next_of f fs from (Some a) (Some b) own rest = (
  let x = own.0 in let y = rest.0 in omega (arith, x, y),
  λ n group g i e. elim i [
    | inl same ↦ inr (let z = own.1 group (ap (λ (x : ℕ × FilterPlan). x.1.group) (sym same) ∙ e) in omega (arith, z))
    | inr j ↦ elim (rest.1 n group g j e) [ inl l ↦ inl l | inr l ↦ inr (omega (arith, l)) ]
  ],
)

pub least_is_next : (from : ℕ) (fs : List (ℕ × FilterPlan)) → IsNextGroup fs from (least_group from fs)
least_is_next from [] = λ n group f i e. absurd i
least_is_next from (f ∷ fs) = next_of f fs from (group_from from f.1.group) (least_group from fs) (candidate from f.1.group) (least_is_next from fs)

-- ROWS

module _ {A : Type 0} (p : Plan A) where
  pub rows_none : AreRowsSoFar p 0 0 []
  rows_none = record {
    each = λ s i. absurd i;
    all = λ group q c from to low reach done. elim done [ inl l ↦ absurd (omega (arith, l)) | inr r ↦ absurd (let less = r.1 in omega (arith, less)) ];
  }

  -- No group lies between.
  pub rows_up : (from group : ℕ) (rows : List SharedQueue) → IsNextGroup p.filters from (Some group) → AreRowsSoFar p from 0 rows → AreRowsSoFar p group 0 rows
  rows_up from group rows next up = record {
    each = up.each;
    all = λ k q c low high few reached done. elim done [
      | inr r ↦ absurd (let less = r.1 in omega (arith, less))
      | inl l ↦ elim (next.1 reached.number k reached.filter reached.member.listed reached.member.grouped) [
        | inl before ↦ up.all k q c low high few reached (inl before)
        | inr behind ↦ absurd (omega (arith, behind, l))
      ]
    ];
  }

  -- One queue more, which the group doesn't share.
  pub rows_past : (group place q c : ℕ) (rows : List SharedQueue) → q ≡ place / 8 + 1 → c ≡ place % 8 → (IsGroupQueue p group q c → ⊥) → AreRowsSoFar p group place rows → AreRowsSoFar p group (place + 1) rows
  rows_past group place q c rows port class none up = record {
    each = up.each;
    all = λ k r d low high few reached done. elim done [
      | inl l ↦ up.all k r d low high few reached (inl l)
      | inr (same, less) ↦ elim (cases_lt ((r - 1) * 8 + d) place) [
        | inl before ↦ up.all k r d low high few reached (inr (same, before))
        | inr here ↦
            let at : r ≡ q = omega (arith, port, here, less, few, low) in
            let own : d ≡ c = omega (arith, class, here, less, few, low) in
            absurd (none (subst (λ (n : ℕ). IsGroupQueue p n q c) same (subst (λ (n : ℕ). IsGroupQueue p k n c) at (subst (λ (n : ℕ). IsGroupQueue p k r n) own reached))))
      ]
    ];
  }

  -- One queue more, with its row.
  pub rows_more : (group place q c : ℕ) (rows : List SharedQueue) (s : SharedQueue) → q ≡ place / 8 + 1 → c ≡ place % 8 → IsRowOf p group q c s → AreRowsSoFar p group place rows → AreRowsSoFar p group (place + 1) (rows ++ s ∷ [])
  rows_more group place q c rows s port class row up = record {
    each = λ x i. elim (in_either x rows (s ∷ []) i) [
      | inl old ↦ up.each x old
      | inr new ↦ elim new [ inl e ↦ subst (IsSharedQueue p) (sym e) row.is | inr other ↦ absurd other ]
    ];
    all = λ k r d low high few reached done. elim done [
      | inl l ↦ older (up.all k r d low high few reached (inl l))
      | inr (same, less) ↦ elim (cases_lt ((r - 1) * 8 + d) place) [
        | inl before ↦ older (up.all k r d low high few reached (inr (same, before)))
        | inr here ↦
            let at : r ≡ q = omega (arith, port, here, less, few, low) in
            let own : d ≡ c = omega (arith, class, here, less, few, low) in
            (s, in_right s rows (s ∷ []) (inl refl), record { is = row.is; group_is = row.group_is ∙ sym same; port_is = row.port_is ∙ sym at; class_is = row.class_is ∙ sym own })
      ]
    ];
  }
    where
      older : {k r d : ℕ} → (x : SharedQueue) × IsMember x rows × IsRowOf p k r d x → (x : SharedQueue) × IsMember x (rows ++ s ∷ []) × IsRowOf p k r d x
      older (x, i, is) = (x, in_left x rows (s ∷ []) i, is)

  -- All queues of the group have their rows.
  pub rows_next : (group : ℕ) (rows : List SharedQueue) → AreRowsSoFar p group 128 rows → AreRowsSoFar p (group + 1) 0 rows
  rows_next group rows up = record {
    each = up.each;
    all = λ k q c low high few reached done. elim done [
      | inr r ↦ absurd (let less = r.1 in omega (arith, less))
      | inl l ↦ elim (cases_lt k group) [
        | inl before ↦ up.all k q c low high few reached (inl before)
        | inr here ↦ up.all k q c low high few reached (inr (omega (arith, here, l), omega (arith, high, few)))
      ]
    ];
  }

  -- No filter has a later group.
  pub rows_all : (from : ℕ) (rows : List SharedQueue) → IsNextGroup p.filters from None → AreRowsSoFar p from 0 rows → AreSharedQueues p rows
  rows_all from rows none up = record {
    each = up.each;
    all = λ group q c low high few reached. up.all group q c low high few reached (inl (none reached.number group reached.filter reached.member.listed reached.member.grouped));
  }

  -- A missing port has no shared queue.
  pub no_port : (group q c : ℕ) → find_port p.ports q ≡ None → IsGroupQueue p group q c → ⊥
  no_port group q c none reached = false≢true (sym (unreached p reached.filter q c none) ∙ reached.reaches)

  -- If some filter of a list is a sharer, it is found.
  found_sharer : (group q c : ℕ) (fs : List (ℕ × FilterPlan)) → has_sharer p group q c fs ≡ true → (x : ℕ × FilterPlan) × IsMember x fs × (is_sharer p group q c x.1 ≡ true)
  found_sharer group q c [] h = absurd (false≢true h)
  found_sharer group q c (f ∷ fs) h = elim (or_cases (is_sharer p group q c f.1) (has_sharer p group q c fs) h) [
    | inl k ↦ (f, inl refl, k)
    | inr k ↦ let (x, i, own) = found_sharer group q c fs k in (x, inr i, own)
  ]

  -- If a filter of a list is a sharer, the list has one.
  known_sharer : (group q c : ℕ) (fs : List (ℕ × FilterPlan)) (x : ℕ × FilterPlan) → IsMember x fs → is_sharer p group q c x.1 ≡ true → has_sharer p group q c fs ≡ true
  known_sharer group q c [] x i h = absurd i
  known_sharer group q c (f ∷ fs) x (inl e) h = let own : is_sharer p group q c f.1 ≡ true = subst (λ (z : ℕ × FilterPlan). is_sharer p group q c z.1 ≡ true) e h in rw own refl
  known_sharer group q c (f ∷ fs) x (inr i) h = by_bool (is_sharer p group q c f.1) (λ k. rw k refl) (λ k. rw k (known_sharer group q c fs x i h))

  -- The group shares a queue exactly if some filter is a sharer.
  pub shares : (group q c : ℕ) → has_sharer p group q c p.filters ≡ true → IsGroupQueue p group q c
  shares group q c h =
      let (x, i, is) = found_sharer group q c p.filters h in
      let (grouped, reach) = and_parts (is_in_group group x.1.group) (reaches_queue p x.1 q c) is in
      record { number = x.0; filter = x.1; member = record { listed = i; grouped = grouped_as group x.1.group grouped }; reaches = reach }

  pub shares_not : (group q c : ℕ) → has_sharer p group q c p.filters ≡ false → IsGroupQueue p group q c → ⊥
  shares_not group q c h reached =
      let m = reached.member in
      let grouped : is_in_group group reached.filter.group ≡ true = rw m.grouped (same_eq group) in
      let is : is_sharer p group q c reached.filter ≡ true = rw (grouped, reached.reaches) refl in
      false≢true (sym h ∙ known_sharer group q c p.filters (reached.number, reached.filter) m.listed is)

  -- A port that the plan finds has this number, from 1 to 16.
  pub record IsFound (q : ℕ) (port : PortPlan A) : Type 0 where
    pub from : 1 ≤ port.number
    pub to : port.number ≤ 16
    pub number : port.number ≡ q
    pub at : find_port p.ports port.number ≡ Some port

  pub found_port : (q : ℕ) (port : PortPlan A) → IsPlan p → find_port p.ports q ≡ Some port → IsFound q port
  found_port q port plan at =
      let (is, number) = port_is p.ports q port plan.ports at in
      let same : port.number ≡ q = omega (arith, number) in
      let from = is.number_from in
      let to = is.number_to in
      record { from = omega (arith, from); to = omega (arith, to); number = same; at = subst (λ (n : ℕ). find_port p.ports n ≡ Some port) (sym same) at }
