-- A filter whose stream gate is apart in time from the other gates of its queues is isolated by itself.
use Rattle.std.proofs.Common.{◌≡◌, ◌≢◌, ◌≤◌, ◌+◌, ℕ, suc, Bool, true, false, not, List, [], ◌∷◌, Option, Some, arith, refl, ap, sym, subst, ◌∙◌, inl, inr}
use Rattle.std.specs.Prelude.{nat_eq, slice_get}
use Rattle.std.specs.Map.{lookup}
use Rattle.std.proofs.lemmas.Bool.{false≢true}
use Rattle.std.proofs.lemmas.Option.{same_Some}
use Rattle.bridge_limits.specs.Members.{IsMember}
use Rattle.bridge_limits.proofs.Cases.{by_bool}
use Rattle.bridge_cycle.specs.Cyclic.{Cyclic}
use Rattle.bridge_frame.proofs.Times.{occupied_some}
use Rattle.bridge_gate.specs.declared.schedule.GateEntry.{GateEntry}
use Rattle.bridge_filter.specs.declared.FilterPlan.{FilterPlan}
use Rattle.bridge_filter.proofs.Members.{member_found}
use Rattle.bridge_filter.proofs.Owned.{told_listed}
use Rattle.bridge_port.specs.Schedule.{AreOffersInOrder, Copy, Fate, Full, Never, PortRules, Queued, Started}
use Rattle.bridge_port.specs.Solo.{IsSolo, class_copies}
use Rattle.bridge_config.specs.declared.ports.PortPlan.{PortPlan}
use Rattle.bridge_config.specs.Model.{Plan}
use Rattle.bridge_config.specs.Rules.{IsPlan, find_port}
use Rattle.bridge_config.proofs.PlanPorts.{at_own}
use Rattle.bridge_check.specs.Acceptable.{HasAcceptableGroups}
use Rattle.bridge_check.specs.Reach.{reaches_queue}
use Rattle.bridge_semantics.specs.declared.outcome.Outcome.{Outcome}
use Rattle.bridge_semantics.specs.declared.outcome.View.{View}
use Rattle.bridge_semantics.specs.Events.{Arrived, Event, filter_inputs, own_events, plan_police}
use Rattle.bridge_semantics.specs.Offers.{CarriedFrame, Offer, class_offers, copy_offers, egress_rules, port_offers}
use Rattle.bridge_semantics.specs.Runs.{AreFinished, AreSameViews, AreSolo, IsOutcome, IsPortCopy, IsRun, IsSoloView}
use Rattle.bridge_semantics.proofs.GroupMembers as members
use Rattle.bridge_semantics.proofs.Grouped as group_of
use Rattle.bridge_semantics.proofs.Headline.{as_offer, in_in_class, in_offered, in_only, only_in, origins_own, view_as}
use Rattle.bridge_semantics.proofs.Steps.{steps_own}
use Rattle.bridge_semantics.proofs.Views.{told_once}
use Rattle.bridge_groups.specs.ApartMembers.{HasApartQueue, IsApartMember}
use Rattle.bridge_groups.specs.ApartParts.{AreApart, HasLeftBy, part_copies}
use Rattle.bridge_groups.specs.Curves.{AreArrivalsInOrder, has_filter_number}
use Rattle.bridge_groups.specs.GateBounds.{HaveSdus}
use Rattle.bridge_groups.specs.GateIntervals.{gate_opens}
use Rattle.bridge_groups.specs.MergedGates.{AreGateLists, IsGateList}
use Rattle.bridge_groups.specs.SharedQueues.{IsSharedQueue, least_shared_bound}
use Rattle.bridge_groups.specs.Sharers.{longest_sdu, queue_sharers}
use Rattle.bridge_groups.specs.declared.shared_queues.SharedQueue.{SharedQueue}
use Rattle.bridge_groups.proofs.ApartParts.{part_alone}
use Rattle.bridge_groups.proofs.GroupGates.{left_in_least_time, own_gate_open}
use Rattle.bridge_groups.proofs.OfferLists.{offers_keep}
use Rattle.bridge_groups.proofs.PartOffers.{is_own_item, number_of, own_number, own_offers, part_class, part_copied, part_offers}
use Rattle.bridge_groups.proofs.SharedQueues.{sharers_are}
use Rattle.bridge_groups.proofs.Sharing as sharing
use Rattle.bridge_groups.proofs.Sharing.{of_class, only_order}

-- COPIES THAT ARE APART

-- A copy of the list was offered no later than the list's newest one.
offered_before : {X : Type 0} (h : ℕ) (xs : List (Copy X)) (y : Copy X) → AreOffersInOrder h xs → IsMember y xs → y.at ≤ h
offered_before h [] y order i = absurd i
offered_before h (x ∷ xs) y order (inl same) = let upto = order.0 in subst (λ (z : Copy _). z.at ≤ h) (sym same) (omega (arith, upto))
offered_before h (x ∷ xs) y order (inr i) = let before = offered_before x.at xs y order.1 i in let upto = order.0 in omega (arith, before, upto)

-- If a copy arrives after the bound of each older copy of the other part, the parts are apart.
copies_apart : {X : Type 0} (r : PortRules X) (own : X → Bool) (b h : ℕ) (xs : List (Copy X)) → AreOffersInOrder h xs
    → ((y : Copy X) → IsMember y xs → HasLeftBy r (y.at + b) y)
    → ((x y : Copy X) → IsMember x xs → IsMember y xs → own y.item ≡ not (own x.item) → y.at ≤ x.at → y.at + b ≤ x.at)
    → AreApart r own xs
copies_apart r own b h [] order left gap = tt
copies_apart r own b h (x ∷ xs) order left gap = (
  (λ y i other.
      let before = offered_before x.at xs y order.1 i in
      let by = left y (inr i) in
      let late = gap x y (inl refl) (inr i) other before in
      omega (arith, by, late)),
  copies_apart r own b x.at xs order.1 (λ y i. left y (inr i)) (λ y z i j. gap y z (inr i) (inr j)),
)

-- If no copy is in the part, the part is empty.
no_part : {X : Type 0} (own : X → Bool) (xs : List (Copy X)) → ((y : Copy X) → IsMember y xs → own y.item ≡ true → ⊥) → part_copies own xs ≡ []
no_part own [] none = refl
no_part own (x ∷ xs) none = by_bool (own x.item)
    (λ k. absurd (none x (inl refl) k))
    (λ k. rw k (no_part own xs (λ y i. none y (inr i))))

part_in : {X : Type 0} (own : X → Bool) (xs : List (Copy X)) (y : Copy X) → IsMember y (part_copies own xs) → IsMember y xs × (own y.item ≡ true)
part_in own [] y i = absurd i
part_in own (x ∷ xs) y i = by_bool (own x.item)
    (λ k.
    let j : IsMember y (x ∷ part_copies own xs) = rw k at i in
    elim j [
      | inl same ↦ (inl same, subst (λ (z : Copy _). own z.item ≡ true) (sym same) k)
      | inr later ↦ let r = part_in own xs y later in (inr r.0, r.1)
    ])
    (λ k. let j : IsMember y (part_copies own xs) = rw k at i in let r = part_in own xs y j in (inr r.0, r.1))

in_part : {X : Type 0} (own : X → Bool) (xs : List (Copy X)) (y : Copy X) → IsMember y xs → own y.item ≡ true → IsMember y (part_copies own xs)
in_part own [] y i mine = absurd i
in_part own (x ∷ xs) y i mine = by_bool (own x.item)
    (λ k. rw k (elim i [ inl same ↦ inl same | inr later ↦ inr (in_part own xs y later mine) ]))
    (λ k. rw k (elim i [ inl same ↦ absurd (false≢true (sym k ∙ subst (λ (z : Copy _). own z.item ≡ true) same mine)) | inr later ↦ in_part own xs y later mine ]))

-- LISTS OF GATES

-- Holds if a filter has index `i` in the list of filters, and `l` is the list of its stream gate with this index.
record HasListAt {A : Type 0} (p : Plan A) (gs : List (ℕ × FilterPlan)) (ls : List (Cyclic GateEntry)) (n : ℕ) (f : FilterPlan) : Type 0 where
  pub index : ℕ
  pub list : Cyclic GateEntry
  pub filter : slice_get gs index ≡ Some (n, f)
  pub at : slice_get ls index ≡ Some list
  pub is : IsGateList p f list

list_at : {A : Type 0} (p : Plan A) (gs : List (ℕ × FilterPlan)) (ls : List (Cyclic GateEntry)) → AreGateLists p gs ls → (n : ℕ) (f : FilterPlan) → IsMember (n, f) gs → HasListAt p gs ls n f
list_at p [] ls are n f i = absurd i
list_at p (g ∷ gs) [] are n f i = absurd are
list_at p (g ∷ gs) (l ∷ ls) are n f (inl same) = record { index = 0; list = l; filter = ap Some (sym same); at = refl; is = subst (λ (x : ℕ × FilterPlan). IsGateList p x.1 l) (sym same) are.0 }
list_at p (g ∷ gs) (l ∷ ls) are n f (inr i) = let r = list_at p gs ls are.1 n f i in record { index = suc r.index; list = r.list; filter = r.filter; at = r.at; is = r.is }

module _ {A : Type 0} (p : Plan A) (group : ℕ) (plan : IsPlan p) (good : HasAcceptableGroups p) (es : List Event) (moments : ℕ → ℕ) (lists : ℕ → List (Copy CarriedFrame)) (run : IsRun p es moments lists) (whole : AreFinished lists) (order : AreArrivalsInOrder es) (long : HaveSdus 2 es) where
  -- ONE QUEUE

  module _ (s : SharedQueue) (is : IsSharedQueue p s) (apart : s.is_apart ≡ true) where
    abbrev sharers : List (ℕ × FilterPlan)
    sharers = queue_sharers p s.group s.port s.class p.filters

    abbrev copies : List (Copy CarriedFrame)
    copies = class_copies s.class (lists s.port)

    -- Holds if an offer belongs to a filter that shares the queue, and this filter's gate is open at the time of the offer.
    record HasOpenGate (o : Offer) : Type 0 where
      pub number : ℕ
      pub filter : FilterPlan
      pub shares : IsMember (number, filter) sharers
      pub flow : o.item.flow ≡ Some number
      pub lets : (l : Cyclic GateEntry) → IsGateList p filter l → gate_opens l o.at ≡ true

    all_open : (o : Offer) → IsMember o (class_offers s.class (port_offers p is.out es)) → HasOpenGate o
    all_open =
        let are = sharers_are p s.group s.port s.class plan good in
        offers_keep p is.out s.class (λ (ds : List Event). AreArrivalsInOrder ds × HaveSdus 2 ds) (λ (os : List Offer). (o : Offer) → IsMember o os → HasOpenGate o)
        (λ o i. absurd i)
        (λ a ds fine. (fine.0.1, fine.1.1))
        (λ d k ds fine. fine)
        (λ a ds o fine list moment before x i.
        elim i [
          | inl same ↦
              let (n, f, j, flow) = sharing.offers_of p s.group sharers s.port s.class (longest_sdu sharers) is.out plan good is.at is.reached are (Arrived a ∷ ds) o (subst (IsMember o) (sym list) (inl refl)) in
              subst HasOpenGate (sym same) (record {
                number = n;
                filter = f;
                shares = j;
                flow = flow;
                lets = λ l gate. subst (λ (t : ℕ). gate_opens l t ≡ true) (sym moment) (own_gate_open p s.group sharers s.port s.class (longest_sdu sharers) 2 (omega arith) (omega arith) is.out plan good is.at is.reached are a ds o (class_offers s.class (port_offers p is.out ds)) fine.0 fine.1 list moment n f l j flow gate);
              })
          | inr later ↦ before x later
        ])
        es (order, long)

    opened : (x : Copy CarriedFrame) → IsMember x copies → HasOpenGate (as_offer x)
    opened x i =
        let class = of_class s.class x (lists s.port) i in
        let among : IsMember (as_offer x) (port_offers p is.out es) = subst (IsMember (as_offer x)) (run.offers s.port is.out is.at) (in_offered x (lists s.port) (only_in s.class x (lists s.port) i)) in
        all_open (as_offer x) (in_in_class s.class (as_offer x) (port_offers p is.out es) among class)

    left : (y : Copy CarriedFrame) → IsMember y copies → HasLeftBy (egress_rules is.out) (y.at + least_shared_bound s) y
    left y i = by_fate y.fate refl
      where
        by_fate : (z : Fate) → y.fate ≡ z → HasLeftBy (egress_rules is.out) (y.at + least_shared_bound s) y
        by_fate Never e = rw e (omega arith)
        by_fate Full e = rw e (omega arith)
        by_fate Queued e = rw e (omega arith)
        by_fate (Started start) e = rw e (left_in_least_time p s is plan good es moments lists run whole order long start y (only_in s.class y (lists s.port) i) (of_class s.class y (lists s.port) i) e)

    -- A copy of another filter arrives after the bound.
    gap : (n : ℕ) (x y : Copy CarriedFrame) → IsMember x copies → IsMember y copies → is_own_item n y.item ≡ not (is_own_item n x.item) → y.at ≤ x.at → y.at + least_shared_bound s ≤ x.at
    gap n x y i j other before =
        let gates = is.apart apart in
        let a = opened x i in
        let b = opened y j in
        let la = list_at p sharers gates.lists gates.are a.number a.filter a.shares in
        let lb = list_at p sharers gates.lists gates.are b.number b.filter b.shares in
        let apart_of : lb.index ≢ la.index = λ same.
        let both : Some (b.number, b.filter) ≡ Some (a.number, a.filter) = sym lb.filter ∙ (ap (slice_get sharers) same ∙ la.filter) in
        let number : b.number ≡ a.number = ap (λ (z : ℕ × FilterPlan). z.0) (same_Some (b.number, b.filter) (a.number, a.filter) both) in
        let flows : y.item.flow ≡ x.item.flow = b.flow ∙ (ap Some number ∙ sym a.flow) in
        let equal : is_own_item n y.item ≡ is_own_item n x.item = ap (λ (z : Option ℕ). has_filter_number z n) flows in
        not_self (is_own_item n x.item) (sym equal ∙ other) in
        gates.apart lb.index la.index y.at x.at lb.list la.list lb.at la.at apart_of (b.lets lb.list lb.is) (a.lets la.list la.is) before
      where
        not_self : (b : Bool) → b ≡ not b → ⊥
        not_self true e = absurd (cc)
        not_self false e = absurd (cc)

    pub part_solo : (n : ℕ) → IsSolo (egress_rules is.out) (part_copies (is_own_item n) copies)
    part_solo n =
        let are = sharers_are p s.group s.port s.class plan good in
        let alone = sharing.alone p s.group sharers s.port s.class (longest_sdu sharers) is.out plan good is.at is.reached are es moments lists run whole in
        let sorted = only_order s.class (moments s.port) (lists s.port) (run.lawful s.port is.out is.at).offers in
        part_alone (egress_rules is.out) (is_own_item n) copies alone (λ y i. occupied_some y.item.len is.out.speed)
        (copies_apart (egress_rules is.out) (is_own_item n) (least_shared_bound s) (moments s.port) copies sorted left (gap n))

  -- ONE FILTER

  module _ (n : ℕ) (f : FilterPlan) (apart : IsApartMember p group n f) where
    abbrev own_lists : ℕ → ℕ → List (Copy CarriedFrame)
    own_lists q c = part_copies (is_own_item n) (class_copies c (lists q))

    own_offered : (q c : ℕ) (out : PortPlan A) → find_port p.ports q ≡ Some out → copy_offers (own_lists q c) ≡ class_offers c (port_offers p out (own_events p n f es))
    own_offered q c out at =
        let own = own_offers p group plan good n f apart.member out (at_own p.ports q out at) es in
        part_copied n (class_copies c (lists q))
        ∙ (ap (part_offers n) (members.offered_only c (lists q))
        ∙ (ap (λ (os : List Offer). part_offers n (class_offers c os)) (run.offers q out at)
        ∙ (part_class n c (port_offers p out es)
        ∙ ap (class_offers c) (sym own))))

    own_solo : (q c : ℕ) (out : PortPlan A) → find_port p.ports q ≡ Some out → IsSolo (egress_rules out) (own_lists q c)
    own_solo q c out at = by_bool (reaches_queue p f q c)
        (λ reach. by_row (apart.queues q c out at reach))
        (λ other.
        let none : own_lists q c ≡ [] = no_part (is_own_item n) (class_copies c (lists q)) (λ y i mine.
        let class = of_class c y (lists q) i in
        let reach = group_of.member_in_reach p group plan good es moments lists run n f apart.member q out y at (only_in c y (lists q) i) (number_of y.item.flow n mine) in
        let here : reaches_queue p f q c ≡ true = subst (λ (k : ℕ). reaches_queue p f q k ≡ true) class reach in
        false≢true (sym other ∙ here)) in
        subst (IsSolo (egress_rules out)) (sym none) tt)
      where
        by_row : HasApartQueue p group q c → IsSolo (egress_rules out) (own_lists q c)
        by_row h =
            let s = h.row in
            let is = h.is_row.is in
            let solo = part_solo s is h.apart n in
            let here : IsSolo (egress_rules is.out) (own_lists q c) = subst (λ (k : ℕ). IsSolo (egress_rules is.out) (own_lists q k)) h.is_row.class_is (subst (λ (k : ℕ). IsSolo (egress_rules is.out) (own_lists k s.class)) h.is_row.port_is solo) in
            let there : find_port p.ports q ≡ Some is.out = subst (λ (k : ℕ). find_port p.ports k ≡ Some is.out) h.is_row.port_is is.at in
            let same : is.out ≡ out = same_Some is.out out (sym there ∙ at) in
            subst (λ (o : PortPlan A). IsSolo (egress_rules o) (own_lists q c)) same here

    own_alone : AreSolo p (own_events p n f es) own_lists
    own_alone = record {
      offers = own_offered;
      solo = own_solo;
      others = λ q c none. ap (λ (xs : List (Copy CarriedFrame)). part_copies (is_own_item n) (class_copies c xs)) (run.others q none);
    }

-- The record of a filter that is apart in time is its record with only its own events.
pub member_alone : {A : Type 0} (p : Plan A) (group n : ℕ) (f : FilterPlan) (es : List Event) (lists : ℕ → List (Copy CarriedFrame)) (o : Outcome A) (v : View A) → IsPlan p → HasAcceptableGroups p → IsApartMember p group n f → AreArrivalsInOrder es → HaveSdus 2 es → IsOutcome p es lists o → lookup (nat_eq n) o.filters.items ≡ Some v → IsSoloView p n f (own_events p n f es) v
member_alone {A} p group n f es lists o v plan good apart order long out found =
    let instances = group_of.apart p group plan good n f apart.member in
    let listed : lookup (nat_eq n) p.filters ≡ Some f = member_found p.filters n f plan.filters.own apart.member.listed in
    let own : ℕ → ℕ → List (Copy CarriedFrame) = λ q c. part_copies (is_own_item n) (class_copies c (lists q)) in
    let P : ℕ → Copy CarriedFrame → Type 0 = IsPortCopy lists in
    let Q : ℕ → Copy CarriedFrame → Type 0 = λ q x. (c : ℕ) × IsMember x (own q c) in
    let to : (q : ℕ) (x : Copy CarriedFrame) → x.item.flow ≡ Some n → P q x → Q q x = λ q x flow i. (x.class, in_part (is_own_item n) (class_copies x.class (lists q)) x (in_only x.class x (lists q) i refl) (own_number x.item.flow n flow)) in
    let from : (q : ℕ) (x : Copy CarriedFrame) → x.item.flow ≡ Some n → Q q x → P q x = λ q x flow i. only_in i.0 x (lists q) (part_in (is_own_item n) (class_copies i.0 (lists q)) x i.1).0 in
    record {
      lists = own;
      solo = own_alone p group plan good es out.moments lists out.run out.whole order long n f apart;
      view = view_as p n f instances es (own_events p n f es) (told_listed (plan_police p) (filter_inputs p es)) (steps_own p n f instances es) (origins_own p n f es) P Q to from v (out.views n f v listed found);
    }

-- Two runs with equal own events of the filter give it equal records.
pub members_change_nothing : {A : Type 0} (p : Plan A) (group n : ℕ) (f : FilterPlan) (es others : List Event) (lists more : ℕ → List (Copy CarriedFrame)) (o q : Outcome A) (u v : View A) → IsPlan p → HasAcceptableGroups p → IsApartMember p group n f → own_events p n f es ≡ own_events p n f others → AreArrivalsInOrder es → AreArrivalsInOrder others → HaveSdus 2 es → HaveSdus 2 others → IsOutcome p es lists o → IsOutcome p others more q → lookup (nat_eq n) o.filters.items ≡ Some u → lookup (nat_eq n) q.filters.items ≡ Some v → AreSameViews u v
members_change_nothing p group n f es others lists more o q u v plan good apart same order other_order long other_long a b found there =
    let x = member_alone p group n f es lists o u plan good apart order long a found in
    let y = member_alone p group n f others more q v plan good apart other_order other_long b there in
    told_once p n f (own_events p n f others) u v (subst (λ (ds : List Event). IsSoloView p n f ds u) same x) y
