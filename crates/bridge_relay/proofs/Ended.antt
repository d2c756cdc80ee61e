-- The result of a run.
use Rattle.std.proofs.Common.{◌≡◌, ℕ, zero, suc, true, false, ◌+◌, ◌<◌, ◌≤◌, List, [], ◌∷◌, ◌++◌, arith, refl, ap, ◌∙◌, sym, subst, inl, inr, Option, Some, None}
use Rattle.std.specs.Prelude.{nat_eq, nat_lt, ◌⊎◌}
use Rattle.std.specs.Map.{lookup}
use Rattle.std.specs.Option.{is_some}
use Rattle.std.proofs.lemmas.Bool.Decides.{nat_tests}
use Rattle.std.proofs.lemmas.Option.{same_Some}
use Rattle.std.proofs.lemmas.Bool.{eqb-true}
use Rattle.bridge_limits.specs.Members.{RelatesToEach, IsMember, IsOrdered}
use Rattle.bridge_limits.proofs.Members.{rising_push, in_push}
use Rattle.bridge_limits.proofs.Cases.{by_bool}
use Rattle.bridge_limits.proofs.Options.{some_of, none_some}
use Rattle.bridge_capture.specs.Grammar.{CapturedFrame}
use Rattle.bridge_filter.specs.declared.FilterPlan.{FilterPlan}
use Rattle.bridge_filter.specs.declared.Verdict.{Verdict}
use Rattle.bridge_filter.specs.Plans.{is_listed}
use Rattle.bridge_filter.specs.StandsFor as filter
use Rattle.bridge_config.specs.Model.{Plan}
use Rattle.bridge_config.specs.Rules.{find_port}
use Rattle.bridge_port.specs.Schedule.{Copy}
use Rattle.bridge_semantics.specs.declared.outcome.Departure.{Departure}
use Rattle.bridge_semantics.specs.declared.outcome.Dropped.{Dropped}
use Rattle.bridge_semantics.specs.declared.outcome.Origin.{Origin}
use Rattle.bridge_semantics.specs.declared.outcome.Outcome.{Outcome}
use Rattle.bridge_semantics.specs.declared.outcome.PortCount.{PortCount}
use Rattle.bridge_semantics.specs.declared.outcome.View.{View}
use Rattle.bridge_semantics.specs.Events.{Event, filter_inputs, plan_police}
use Rattle.bridge_semantics.specs.Offers.{CarriedFrame}
use Rattle.bridge_semantics.specs.Outputs.{EndsRun}
use Rattle.bridge_semantics.specs.Runs.{HasCopyRecord, IsFilterView, IsPortCount, IsPortCopy}
use Rattle.bridge_relay.specs.declared.port_state.PortState.{PortState}
use Rattle.bridge_relay.specs.Counting.{optional_count, port_counts}
use Rattle.bridge_relay.specs.Ports.{nth_port, ArePortsSound}
use Rattle.bridge_relay.specs.Recorders.{RecorderState}
use Rattle.bridge_relay.specs.Finish.{IsFilterShown, AreFiltersShown}
use Rattle.bridge_relay.specs.RelayState.{RelayState, RelayStandsFor, IsSound, carried_copies}
use Rattle.bridge_relay.specs.Ports.{MatchesPlan}
use Rattle.bridge_relay.proofs.Ending.{stood, run_of, output_of, whole_of, not_before_none}
use Rattle.bridge_relay.proofs.Relayed.{port_is}
use Rattle.bridge_relay.proofs.Standing.{out_of}
use Rattle.bridge_relay.proofs.Viewing.{IsBefore}

not_same : (m n : ℕ) → m < n → nat_eq n m ≡ false
not_same m n l = grind (arith, nat_tests)

-- RECORDS

after_shown : {A : Type 0} (police : filter.PoliceState A) (tables : List (ℕ × RecorderState)) (x : ℕ × FilterPlan) (y : ℕ × View A) (xs : List (ℕ × FilterPlan)) (ys : List (ℕ × View A)) → y.0 ≡ x.0 → RelatesToEach IsBefore x xs → AreFiltersShown police tables xs ys → RelatesToEach IsBefore y ys
after_shown police tables x y [] [] same a s = tt
after_shown police tables x y [] (w ∷ ys) same a s = absurd s
after_shown police tables x y (z ∷ xs) [] same a s = absurd s
after_shown police tables x y (z ∷ xs) (w ∷ ys) same a s = (let low = a.0 in let is = s.0 in omega (arith, low, is, same), after_shown police tables x y xs ys same a.1 s.2)

rising_shown : {A : Type 0} (police : filter.PoliceState A) (tables : List (ℕ × RecorderState)) (xs : List (ℕ × FilterPlan)) (ys : List (ℕ × View A)) → IsOrdered IsBefore xs → AreFiltersShown police tables xs ys → IsOrdered IsBefore ys
rising_shown police tables [] [] a s = tt
rising_shown police tables [] (w ∷ ys) a s = absurd s
rising_shown police tables (z ∷ xs) [] a s = absurd s
rising_shown police tables (z ∷ xs) (w ∷ ys) a s = (after_shown police tables z w xs ys s.0 a.0 s.2, rising_shown police tables xs ys a.1 s.2)

found_view : {A : Type 0} (police : filter.PoliceState A) (tables : List (ℕ × RecorderState)) (xs : List (ℕ × FilterPlan)) (ys : List (ℕ × View A)) (n : ℕ) (f : FilterPlan) → AreFiltersShown police tables xs ys → lookup (nat_eq n) xs ≡ Some f → (v : View A) × (lookup (nat_eq n) ys ≡ Some v)
found_view police tables [] ys n f s h = absurd (cc)
found_view police tables (z ∷ xs) [] n f s h = absurd s
found_view police tables (z ∷ xs) (w ∷ ys) n f s h = by_bool (nat_eq n z.0)
    (λ e. let there : nat_eq n w.0 ≡ true = subst (λ (k : ℕ). nat_eq n k ≡ true) (sym s.0) e in (w.1, rw there refl))
    (λ e.
    let there : nat_eq n w.0 ≡ false = subst (λ (k : ℕ). nat_eq n k ≡ false) (sym s.0) e in
    let r = found_view police tables xs ys n f s.2 (rw e at h) in
    (r.0, rw there r.1))

found_filter : {A : Type 0} (police : filter.PoliceState A) (tables : List (ℕ × RecorderState)) (xs : List (ℕ × FilterPlan)) (ys : List (ℕ × View A)) (n : ℕ) (v : View A) → AreFiltersShown police tables xs ys → lookup (nat_eq n) ys ≡ Some v → (f : FilterPlan) × (lookup (nat_eq n) xs ≡ Some f) × IsFilterShown police tables n f v
found_filter police tables [] [] n v s h = absurd (cc)
found_filter police tables [] (w ∷ ys) n v s h = absurd s
found_filter police tables (z ∷ xs) [] n v s h = absurd s
found_filter {A} police tables (z ∷ xs) (w ∷ ys) n v s h = by_bool (nat_eq n z.0)
    (λ e.
    let there : nat_eq n w.0 ≡ true = subst (λ (k : ℕ). nat_eq n k ≡ true) (sym s.0) e in
    let is : w.1 ≡ v = same_Some w.1 v (rw there at h) in
    (z.1, rw e refl, subst (λ (k : ℕ). IsFilterShown police tables k z.1 v) (sym (eqb-true n z.0 e)) (subst (IsFilterShown police tables z.0 z.1) is s.1)))
    (λ e.
    let there : nat_eq n w.0 ≡ false = subst (λ (k : ℕ). nat_eq n k ≡ false) (sym s.0) e in
    let r = found_filter police tables xs ys n v s.2 (rw there at h) in
    (r.0, rw e r.1, r.2))

told_as : {A : Type 0} (p : Plan A) (n : ℕ) (lists : ℕ → List (Copy CarriedFrame)) (ds es : List Departure) (xs ys : List Dropped) (a b : Option ℕ) → es ≡ ds → ys ≡ xs → b ≡ a → HasCopyRecord p n (IsPortCopy lists) ds xs a → HasCopyRecord p n (IsPortCopy lists) es ys b
told_as {A} p n lists ds es xs ys a b d x l t =
    subst (λ (z : List Departure). HasCopyRecord p n (IsPortCopy lists) z ys b) (sym d) (subst (λ (z : List Dropped). HasCopyRecord p n (IsPortCopy lists) ds z b) (sym x) (subst (λ (z : Option ℕ). HasCopyRecord p n (IsPortCopy lists) ds xs z) (sym l) t))

view_is : {G A : Type 0} (held : G → ℕ → Option ℕ) (p : Plan A) (b : RelayState G A) (es : List Event) (left : ℕ → List CapturedFrame) (st : RelayStandsFor p b es left) → IsSound held b → (n : ℕ) (f : FilterPlan) (v : View A) → lookup (nat_eq n) p.filters ≡ Some f → IsFilterShown b.police b.tables n f v → IsFilterView p n f es (IsPortCopy (carried_copies st.lists)) v
view_is {G} {A} held p b es left st sound n f v e s =
    let at : lookup (nat_eq n) b.plan.filters ≡ Some f = subst (λ (w : Plan A). lookup (nat_eq n) w.filters ≡ Some f) (sym st.plan) e in
    let listed : is_listed n b.plan.filters ≡ true = ap is_some at in
    let t = some_of (lookup (nat_eq n) b.tables) (sound.there n listed) in
    let shown = s.told t.0 t.1 in
    record {
      protected = s.protected;
      verdicts = shown.verdicts ∙ ap (λ (z : List Verdict × List Origin). z.0) (st.verdicts n t.0 t.1);
      origins = shown.origins ∙ ap (λ (z : List Verdict × List Origin). z.1) (st.verdicts n t.0 t.1);
      counters = s.counters (plan_police p) (filter_inputs p es) st.police;
      flags = s.flags (plan_police p) (filter_inputs p es) f st.police e;
      buckets = s.buckets (plan_police p) (filter_inputs p es) f st.police e;
      told = told_as p n (carried_copies st.lists) t.0.departures v.departures.items t.0.drops v.drops.items t.0.delay v.delay shown.departures shown.drops shown.delay (st.told n t.0 t.1);
    }

-- COUNTS

abbrev count_of : {A : Type 0} → Option (PortState A) → Option PortCount
count_of None = None
count_of (Some s) = Some s.count

few_one : {A : Type 0} (n : ℕ) (xs : List (ℕ × PortCount)) (o : Option (PortState A)) → ((x : ℕ × PortCount) → IsMember x xs → x.0 ≤ n) → (x : ℕ × PortCount) → IsMember x (xs ++ optional_count (n + 1) o) → x.0 ≤ n + 1
few_one n [] None h x i = absurd i
few_one {A} n (y ∷ ys) None h x i = elim i [
  | inl e ↦ (let z = h x (inl e) in omega (arith, z))
  | inr l ↦ few_one {A = A} n ys None (λ w j. h w (inr j)) x l
]
few_one {A} n xs (Some s) h x i = elim (in_push x (n + 1, s.count) xs i) [
  | inl j ↦ (let z = h x j in omega (arith, z))
  | inr e ↦ (let z : x.0 ≡ n + 1 = ap (λ (w : ℕ × PortCount). w.0) e in omega (arith, z))
]

few_counts : {A : Type 0} (slots : List (Option (PortState A))) (n : ℕ) (x : ℕ × PortCount) → IsMember x (port_counts slots n) → x.0 ≤ n
few_counts slots zero x i = absurd i
few_counts slots (suc n) x i = let z = few_one n (port_counts slots n) (nth_port slots (n + 1)) (few_counts slots n) x i in omega (arith, z)

no_more : {X : Type 0} (xs : List X) → xs ++ [] ≡ xs
no_more [] = refl
no_more (x ∷ xs) = ap (λ z. x ∷ z) (no_more xs)

rising_one : {A : Type 0} (n : ℕ) (xs : List (ℕ × PortCount)) (o : Option (PortState A)) → IsOrdered IsBefore xs → ((x : ℕ × PortCount) → IsMember x xs → x.0 ≤ n) → IsOrdered IsBefore (xs ++ optional_count (n + 1) o)
rising_one n xs None r h = subst (IsOrdered IsBefore) (sym (no_more xs)) r
rising_one n xs (Some s) r h = rising_push IsBefore xs (n + 1, s.count) r (λ x i. let z = h x i in omega (arith, z))

rising_counts : {A : Type 0} (slots : List (Option (PortState A))) (n : ℕ) → IsOrdered IsBefore (port_counts slots n)
rising_counts slots zero = tt
rising_counts slots (suc n) = rising_one n (port_counts slots n) (nth_port slots (n + 1)) (rising_counts slots n) (few_counts slots n)

lookup_after : {X : Type 0} (q : ℕ) (xs ys : List (ℕ × X)) → lookup (nat_eq q) xs ≡ None → lookup (nat_eq q) (xs ++ ys) ≡ lookup (nat_eq q) ys
lookup_after q [] ys h = refl
lookup_after {X} q (x ∷ xs) ys h = by_bool (nat_eq q x.0)
    (λ e. absurd (let z : Some x.1 ≡ None = rw e at h in cc))
    (λ e. let k : lookup (nat_eq q) xs ≡ None = rw e at h in rw e (lookup_after q xs ys k))

lookup_before : {X : Type 0} (q : ℕ) (xs ys : List (ℕ × X)) → lookup (nat_eq q) ys ≡ None → lookup (nat_eq q) (xs ++ ys) ≡ lookup (nat_eq q) xs
lookup_before q [] ys h = h
lookup_before q (x ∷ xs) ys h = by_bool (nat_eq q x.0) (λ e. rw e refl) (λ e. rw e (lookup_before q xs ys h))

one_other : {A : Type 0} (q m : ℕ) (o : Option (PortState A)) → nat_eq q m ≡ false → lookup (nat_eq q) (optional_count m o) ≡ None
one_other q m None h = refl
one_other q m (Some s) h = rw h refl

one_same : {A : Type 0} (q m : ℕ) (o : Option (PortState A)) → nat_eq q m ≡ true → lookup (nat_eq q) (optional_count m o) ≡ count_of o
one_same q m None h = refl
one_same q m (Some s) h = rw h refl

none_counted : {A : Type 0} (slots : List (Option (PortState A))) (q n : ℕ) → (q ≡ 0) ⊎ (n < q) → lookup (nat_eq q) (port_counts slots n) ≡ None
none_counted slots q zero h = refl
none_counted slots q (suc n) h =
    let apart : nat_eq q (n + 1) ≡ false = elim h [ inl e ↦ grind (arith, nat_tests) | inr l ↦ not_same (n + 1) q (omega (arith, l)) ] in
    let less : (q ≡ 0) ⊎ (n < q) = elim h [ inl e ↦ inl e | inr l ↦ inr (omega (arith, l)) ] in
    lookup_before q (port_counts slots n) (optional_count (n + 1) (nth_port slots (n + 1))) (one_other q (n + 1) (nth_port slots (n + 1)) apart) ∙ none_counted slots q n less

counted : {A : Type 0} (slots : List (Option (PortState A))) (q n : ℕ) → 1 ≤ q → q ≤ n → lookup (nat_eq q) (port_counts slots n) ≡ count_of (nth_port slots q)
counted slots q zero from to = absurd (omega (arith, from, to))
counted {A} slots q (suc n) from to = by_bool (nat_eq q (n + 1))
    (λ e.
    let same : q ≡ n + 1 = eqb-true q (n + 1) e in
    lookup_after q (port_counts slots n) (optional_count (n + 1) (nth_port slots (n + 1))) (none_counted slots q n (inr (omega (arith, same))))
    ∙ (one_same q (n + 1) (nth_port slots (n + 1)) e ∙ ap (λ (k : ℕ). count_of (nth_port slots k)) (sym same)))
    (λ e.
    let apart : (q ≡ n + 1) → ⊥ = λ k. (let z : nat_eq q (n + 1) ≡ true = grind (arith, nat_tests) in let w : true ≡ false = sym z ∙ e in cc) in
    let low : q ≤ n = omega (arith, to, apart) in
    lookup_before q (port_counts slots n) (optional_count (n + 1) (nth_port slots (n + 1))) (one_other q (n + 1) (nth_port slots (n + 1)) e) ∙ counted slots q n from low)

slot_by : {A : Type 0} (o : Option (PortState A)) (c : PortCount) → count_of o ≡ Some c → (s : PortState A) × (o ≡ Some s) × (s.count ≡ c)
slot_by None c h = absurd (cc)
slot_by (Some s) c h = (s, refl, same_Some s.count c h)

-- A counted port exists.
counted_there : {A : Type 0} (slots : List (Option (PortState A))) (q : ℕ) (c : PortCount) → lookup (nat_eq q) (port_counts slots 16) ≡ Some c → (1 ≤ q) × ((s : PortState A) × (nth_port slots q ≡ Some s) × (s.count ≡ c))
counted_there {A} slots q c h = by_bool (nat_eq q 0)
    (λ e. let z : q ≡ 0 = eqb-true q 0 e in absurd (none_some (lookup (nat_eq q) (port_counts slots 16)) c (none_counted slots q 16 (inl z)) h))
    (λ e.
    let from : 1 ≤ q = grind (arith, nat_tests) in
    by_bool (nat_lt 16 q)
    (λ l. let z : 16 < q = grind (arith, nat_tests) in absurd (none_some (lookup (nat_eq q) (port_counts slots 16)) c (none_counted slots q 16 (inr z)) h))
    (λ l. let z : q ≤ 16 = grind (arith, nat_tests) in (from, slot_by (nth_port slots q) c (sym (counted slots q 16 from z) ∙ h))))

-- The result of a run in which no start is due.
pub ends_of : {G A : Type 0} (held : G → ℕ → Option ℕ) (p : Plan A) (b : RelayState G A) (es : List Event) (left : ℕ → List CapturedFrame) (order : List (ℕ × FilterPlan)) (o : Outcome A) → RelayStandsFor p b es left → IsSound held b → ArePortsSound held b.ports.slots b.ports.agenda → ((q : ℕ) → held b.ports.agenda q ≡ None) → IsOrdered IsBefore order → ((n : ℕ) → lookup (nat_eq n) order ≡ lookup (nat_eq n) b.plan.filters) → AreFiltersShown b.police b.tables order o.filters.items → o.ports.items ≡ port_counts b.ports.slots 16 → EndsRun p es left o
ends_of {G} {A} held p b es left order o st sound kept idle rises same shown counts =
    let listed : (n : ℕ) → lookup (nat_eq n) order ≡ lookup (nat_eq n) p.filters = λ n. subst (λ (w : Plan A). lookup (nat_eq n) order ≡ lookup (nat_eq n) w.filters) st.plan (same n) in
    let there : (q : ℕ) (c : PortCount) → lookup (nat_eq q) o.ports.items ≡ Some c → (1 ≤ q) × ((s : PortState A) × (nth_port b.ports.slots q ≡ Some s) × (s.count ≡ c)) = λ q c e.
    counted_there b.ports.slots q c (subst (λ (z : List (ℕ × PortCount)). lookup (nat_eq q) z ≡ Some c) counts e) in
    record {
      lists = carried_copies st.lists;
      outcome = record {
        moments = λ q. b.earliest;
        run = run_of held p b es left b.earliest st sound kept (omega arith) (not_before_none (held b.ports.agenda) b.earliest idle);
        whole = whole_of held p b es left st sound kept idle;
        filters_rise = rising_shown b.police b.tables order o.filters.items rises shown;
        filters_are = λ n. (
          (λ h. found_view b.police b.tables order o.filters.items n h.0 shown (listed n ∙ h.1)),
          (λ h. let r = found_filter b.police b.tables order o.filters.items n h.0 shown h.1 in (r.0, sym (listed n) ∙ r.1)),
        );
        views = λ n f v e h.
            let r = found_filter b.police b.tables order o.filters.items n v shown h in
            let is : r.0 ≡ f = same_Some r.0 f (sym r.1 ∙ (listed n ∙ e)) in
            view_is held p b es left st sound n f v e (subst (λ (w : FilterPlan). IsFilterShown b.police b.tables n w v) is r.2);
        ports_rise = subst (IsOrdered IsBefore) (sym counts) (rising_counts b.ports.slots 16);
        ports_are = λ q. (
          (λ h.
              let s = stood held p b st.plan sound q h.0 h.1 in
              let at : find_port b.plan.ports q ≡ Some h.0 = subst (λ (w : Plan A). find_port w.ports q ≡ Some h.0) (sym st.plan) h.1 in
              let is = port_is b.plan.ports q h.0 sound.rules.ports.each at in
              let high = is.0.number_to in
              let number = is.1 in
              let to : q ≤ 16 = omega (arith, high, number) in
              (s.slot.count, ap (lookup (nat_eq q)) counts ∙ (counted b.ports.slots q 16 s.from to ∙ ap count_of s.there))),
          (λ h.
              let r = there q h.0 h.1 in
              let s = r.1 in
              let z = out_of (find_port b.plan.ports q) s.0 (subst (MatchesPlan (find_port b.plan.ports q)) s.1 (sound.alike q r.0)) in
              (z.0, subst (λ (w : Plan A). find_port w.ports q ≡ Some z.0) st.plan z.1)),
        );
        counts = λ q c e.
            let r = there q c e in
            let s = r.1 in
            subst (IsPortCount p es q (carried_copies st.lists q)) s.2 (st.counts q s.0 r.0 s.1);
      };
      output = output_of held p b es left st sound;
    }
