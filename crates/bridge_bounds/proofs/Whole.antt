-- Delays of a protected filter's frames in a complete run.
use Rattle.std.proofs.Common.{arith, ◌≡◌, ◌+◌, ◌-◌, ◌≤◌, ◌⊎◌, ℕ, true, List, [], ◌∷◌, refl, ap, sym, subst, inl, inr, Option, None, Some, ◌∙◌}
use Rattle.std.specs.Prelude.{MatchOption, nat_eq}
use Rattle.std.specs.Map.{lookup}
use Rattle.std.proofs.lemmas.Bool.{eqb-true}
use Rattle.std.proofs.lemmas.Option.{same_Some}
use Rattle.bridge_limits.specs.Members.{IsMember}
use Rattle.bridge_limits.proofs.Cases.{by_bool}
use Rattle.bridge_cycle.specs.Cyclic.{Cyclic}
use Rattle.bridge_frame.specs.Link.{transmission_time}
use Rattle.bridge_frame.proofs.Times.{occupied_some}
use Rattle.bridge_gate.specs.declared.schedule.Schedule.{Schedule}
use Rattle.bridge_gate.specs.declared.schedule.GateEntry.{GateEntry}
use Rattle.bridge_gate.specs.declared.schedule.GatePlan.{GatePlan}
use Rattle.bridge_gate.specs.declared.schedule.Schedule.TheVariants as schedule
use Rattle.bridge_gate.specs.Gates.{GateRules}
use Rattle.bridge_gate.specs.Schedules.{gate_rules, turn_by_time}
use Rattle.bridge_filter.specs.declared.FilterPlan.{FilterPlan}
use Rattle.bridge_filter.specs.Plans.{gate_or_closed}
use Rattle.bridge_filter.proofs.Members.{member_found}
use Rattle.bridge_port.specs.GateSchedule.{lists_open}
use Rattle.bridge_port.specs.Schedule.{Copy, AreOffersInOrder, Started}
use Rattle.bridge_port.specs.Solo.{class_copies}
use Rattle.bridge_port.proofs.Laws.{offered_later}
use Rattle.bridge_config.specs.declared.ports.PortPlan.{PortPlan}
use Rattle.bridge_config.specs.Model.{Plan}
use Rattle.bridge_config.specs.Rules.{IsPlan, find_port}
use Rattle.bridge_check.specs.Acceptable.{IsAcceptable}
use Rattle.bridge_check.specs.Reach.{reaches_queue}
use Rattle.bridge_check.specs.Windows.{longest_frame}
use Rattle.bridge_semantics.specs.Events.{Event, plan_police}
use Rattle.bridge_semantics.specs.Offers.{CarriedFrame, egress_rules, port_offers}
use Rattle.bridge_semantics.specs.Runs.{AreFinished, IsPortCopy, IsFilterDelay, IsGreatestNumber, IsOutcome, IsRun}
use Rattle.bridge_semantics.specs.declared.outcome.Outcome.{Outcome}
use Rattle.bridge_semantics.specs.declared.outcome.View.{View}
use Rattle.bridge_semantics.proofs.Facts.{own_queues, served_alone}
use Rattle.bridge_semantics.proofs.Headline.{as_offer, in_offered, in_only, only_in}
use Rattle.bridge_bounds.specs.Bounds.{HaveShortFrames, IsQueueBound, IsLesserBound, IsLongestTime, IsOpeningsTime, IsTightBound, IsTightenedBound}
use Rattle.bridge_bounds.specs.GateFrames.{AreWithinLengths, LetsFew, frames_below_room, max_list_frames}
use Rattle.bridge_bounds.specs.Openings.{fills_at}
use Rattle.bridge_bounds.proofs.Among.{started_seldom}
use Rattle.bridge_bounds.proofs.Apart.{fewer_is, turn_few}
use Rattle.bridge_bounds.proofs.Filled.{offers_fill}
use Rattle.bridge_bounds.proofs.Gated.{within_gate}
use Rattle.bridge_bounds.proofs.Queued.{each_from_openings, each_in_time}
use Rattle.bridge_bounds.proofs.Reached.{found_in}
use Rattle.bridge_bounds.proofs.Seldom.{each_seldom_in_time}
use Rattle.bridge_bounds.proofs.Sizes.{occupied_rises, within_size}

-- The copies of a class have this class.
of_class : {X : Type 0} (c : ℕ) (y : Copy X) (xs : List (Copy X)) → IsMember y (class_copies c xs) → y.class ≡ c
of_class c y [] i = absurd i
of_class c y (x ∷ xs) i = by_bool (nat_eq x.class c)
    (λ k. let j : (y ≡ x) ⊎ IsMember y (class_copies c xs) = rw k at i in elim j [ inl same ↦ subst (λ (z : Copy _). z.class ≡ c) (sym same) (eqb-true x.class c k) | inr later ↦ of_class c y xs later ])
    (λ k. let j : IsMember y (class_copies c xs) = rw k at i in of_class c y xs j)

-- The copies of a class come in order.
only_order : {X : Type 0} (c h : ℕ) (xs : List (Copy X)) → AreOffersInOrder h xs → AreOffersInOrder h (class_copies c xs)
only_order c h [] o = tt
only_order c h (x ∷ xs) o = by_bool (nat_eq x.class c)
    (λ k. rw k (o.0, only_order c x.at xs o.1))
    (λ k. rw k (offered_later x.at h (class_copies c xs) o.0 (only_order c x.at xs o.1)))

-- Each frame of a filter in its queues is at most as long as its longest frame.
short_in : {A : Type 0} (p : Plan A) (n m : ℕ) (f : FilterPlan) (es : List Event) (moments : ℕ → ℕ) (lists : ℕ → List (Copy CarriedFrame)) (q c : ℕ) (out : PortPlan A) → IsPlan p → IsAcceptable p → IsMember (n, f) p.filters → f.protected ≡ true → f.max_sdu ≡ Some m → IsRun p es moments lists → find_port p.ports q ≡ Some out → reaches_queue p f q c ≡ true → HaveShortFrames (egress_rules out) c (transmission_time (longest_frame m) out.speed) (class_copies c (lists q))
short_in p n m f es moments lists q c out plan good listed is size run at reach y i =
    let class = of_class c y (lists q) i in
    let there = only_in c y (lists q) i in
    let flow = (own_queues p n f es moments lists q out y plan good listed is run at there).1 (subst (λ (k : ℕ). reaches_queue p f q k ≡ true) (sym class) reach) in
    let among : IsMember (as_offer y) (port_offers p out es) = subst (IsMember (as_offer y)) (run.offers q out at) (in_offered y (lists q) there) in
    (class, occupied_rises y.item.len (longest_frame m) out.speed (within_size p n m f out es (as_offer y) plan listed size flow among))

-- Each sent copy of the filter leaves in time.
pub in_time : {A : Type 0} (p : Plan A) (n m d : ℕ) (f : FilterPlan) (es : List Event) (moments : ℕ → ℕ) (lists : ℕ → List (Copy CarriedFrame)) (q s : ℕ) (out : PortPlan A) (x : Copy CarriedFrame) → IsPlan p → IsAcceptable p → IsMember (n, f) p.filters → f.protected ≡ true → f.max_sdu ≡ Some m → IsRun p es moments lists → AreFinished lists → find_port p.ports q ≡ Some out → IsMember x (lists q) → x.item.flow ≡ Some n → x.fate ≡ Started s → IsLongestTime (lists_open out.list x.class) (transmission_time (longest_frame m) out.speed) ((egress_rules out).room x.class) d → s + transmission_time x.item.len out.speed ≤ x.at + (transmission_time (longest_frame m) out.speed - 1) + d
in_time p n m d f es moments lists q s out x plan good listed is size run whole at i flow started longest =
    let reach = (own_queues p n f es moments lists q out x plan good listed is run at i).0 flow in
    let solo = served_alone p n f q x.class (moments q) out (lists q) plan good listed is at reach (run.lawful q out at) (whole q) in
    let short = short_in p n m f es moments lists q x.class out plan good listed is size run at reach in
    let order = only_order x.class (moments q) (lists q) (run.lawful q out at).offers in
    each_in_time (egress_rules out) x.class (transmission_time (longest_frame m) out.speed) d s (moments q) x (class_copies x.class (lists q)) (occupied_some (longest_frame m) out.speed) longest solo short order (in_only x.class x (lists q) i refl) started

-- If the stream gate passes few frames in their longest time, this time bounds the delay of a sent copy.
pub few_in_time : {A : Type 0} (p : Plan A) (n m k d : ℕ) (f : FilterPlan) (es : List Event) (moments : ℕ → ℕ) (lists : ℕ → List (Copy CarriedFrame)) (q s : ℕ) (out : PortPlan A) (x : Copy CarriedFrame) → IsPlan p → IsAcceptable p → IsMember (n, f) p.filters → f.protected ≡ true → f.max_sdu ≡ Some m → IsRun p es moments lists → AreFinished lists → AreWithinLengths es → find_port p.ports q ≡ Some out → IsMember x (lists q) → x.item.flow ≡ Some n → x.fate ≡ Started s → LetsFew ((plan_police p).gates f.gate).turn_at k d → IsLongestTime (lists_open out.list x.class) (transmission_time (longest_frame m) out.speed) k d → s + transmission_time x.item.len out.speed ≤ x.at + (transmission_time (longest_frame m) out.speed - 1) + d
few_in_time p n m k d f es moments lists q s out x plan good listed is size run whole within at i flow started few longest =
    let reach = (own_queues p n f es moments lists q out x plan good listed is run at i).0 flow in
    let solo = served_alone p n f q x.class (moments q) out (lists q) plan good listed is at reach (run.lawful q out at) (whole q) in
    let short = short_in p n m f es moments lists q x.class out plan good listed is size run at reach in
    let order = only_order x.class (moments q) (lists q) (run.lawful q out at).offers in
    let seldom = started_seldom p n f plan listed q x.class k d out es moments lists good is run within at reach few in
    each_seldom_in_time (egress_rules out) x.class (transmission_time (longest_frame m) out.speed) k d s (moments q) x (class_copies x.class (lists q)) (occupied_some (longest_frame m) out.speed) longest seldom solo short order (in_only x.class x (lists q) i refl) started

-- The copies in a queue of the filter were offered while the stream gate's only list could put them there.
offered_in_openings : {A : Type 0} (p : Plan A) (n : ℕ) (f : FilterPlan) (g : GatePlan A) (l : Cyclic GateEntry) (es : List Event) (moments : ℕ → ℕ) (lists : ℕ → List (Copy CarriedFrame)) (q c : ℕ) (out : PortPlan A) → IsPlan p → IsAcceptable p → IsMember (n, f) p.filters → f.protected ≡ true → lookup (nat_eq f.gate) p.gates ≡ Some g → g.schedule ≡ schedule.Cyclic l → IsRun p es moments lists → find_port p.ports q ≡ Some out → reaches_queue p f q c ≡ true → (y : Copy CarriedFrame) → IsMember y (class_copies c (lists q)) → fills_at out f.priority c l y.at ≡ true
offered_in_openings p n f g l es moments lists q c out plan good listed is gated one run at reach y i =
    let class = of_class c y (lists q) i in
    let there = only_in c y (lists q) i in
    let flow = (own_queues p n f es moments lists q out y plan good listed is run at there).1 (subst (λ (k : ℕ). reaches_queue p f q k ≡ true) (sym class) reach) in
    let among : IsMember (as_offer y) (port_offers p out es) = subst (IsMember (as_offer y)) (run.offers q out at) (in_offered y (lists q) there) in
    let filled = offers_fill p n f g l out plan listed gated one es (as_offer y) among flow in
    subst (λ (k : ℕ). fills_at out f.priority k l y.at ≡ true) class filled

-- A sent copy leaves within the longest time from the openings of the stream gate's only list.
in_openings : {A : Type 0} (p : Plan A) (n m d : ℕ) (f : FilterPlan) (g : GatePlan A) (l : Cyclic GateEntry) (es : List Event) (moments : ℕ → ℕ) (lists : ℕ → List (Copy CarriedFrame)) (q s : ℕ) (out : PortPlan A) (x : Copy CarriedFrame) → IsPlan p → IsAcceptable p → IsMember (n, f) p.filters → f.protected ≡ true → f.max_sdu ≡ Some m → lookup (nat_eq f.gate) p.gates ≡ Some g → g.schedule ≡ schedule.Cyclic l → IsRun p es moments lists → AreFinished lists → find_port p.ports q ≡ Some out → IsMember x (lists q) → x.item.flow ≡ Some n → x.fate ≡ Started s → IsOpeningsTime (fills_at out f.priority x.class l) (lists_open out.list x.class) (transmission_time (longest_frame m) out.speed) ((egress_rules out).room x.class) d → s + transmission_time x.item.len out.speed ≤ x.at + (transmission_time (longest_frame m) out.speed - 1) + d
in_openings p n m d f g l es moments lists q s out x plan good listed is size gated one run whole at i flow started time =
    let reach = (own_queues p n f es moments lists q out x plan good listed is run at i).0 flow in
    let solo = served_alone p n f q x.class (moments q) out (lists q) plan good listed is at reach (run.lawful q out at) (whole q) in
    let short = short_in p n m f es moments lists q x.class out plan good listed is size run at reach in
    let order = only_order x.class (moments q) (lists q) (run.lawful q out at).offers in
    let offered = offered_in_openings p n f g l es moments lists q x.class out plan good listed is gated one run at reach in
    each_from_openings (egress_rules out) (fills_at out f.priority x.class l) x.class (transmission_time (longest_frame m) out.speed) d s (moments q) x (class_copies x.class (lists q)) (occupied_some (longest_frame m) out.speed) time.longest offered solo short order (in_only x.class x (lists q) i refl) started

-- A sent copy leaves within its queue's bound.
pub in_bound : {A : Type 0} (p : Plan A) (n b : ℕ) (es : List Event) (moments : ℕ → ℕ) (lists : ℕ → List (Copy CarriedFrame)) (q s : ℕ) (out : PortPlan A) (x : Copy CarriedFrame) → IsPlan p → IsAcceptable p → IsRun p es moments lists → AreFinished lists → find_port p.ports q ≡ Some out → IsMember x (lists q) → x.item.flow ≡ Some n → x.fate ≡ Started s → IsQueueBound p n q x.class b → s + transmission_time x.item.len out.speed ≤ x.at + b
in_bound {A} p n b es moments lists q s out x plan good run whole at i flow started bound =
    let same : bound.out ≡ out = same_Some bound.out out (sym bound.at ∙ at) in
    let listed = found_in p.filters n bound.filter bound.found in
    let own : s + transmission_time x.item.len bound.out.speed ≤ x.at + b = within_gate bound.gate.schedule bound.filter.priority bound.out x.class bound.max_sdu b (s + transmission_time x.item.len bound.out.speed) x.at bound.is
    (λ room.
    let done = in_time p n bound.max_sdu room.longest bound.filter es moments lists q s bound.out x plan good listed bound.protected bound.size run whole bound.at i flow started room.is_longest in
    let sum = room.bound in
    omega (arith, done, sum))
    (λ l one openings.
    let done = in_openings p n bound.max_sdu openings.longest bound.filter bound.gate l es moments lists q s bound.out x plan good listed bound.protected bound.size bound.gated one run whole bound.at i flow started openings.is in
    let sum = openings.bound in
    omega (arith, done, sum)) in
    subst (λ (o : PortPlan A). s + transmission_time x.item.len o.speed ≤ x.at + b) same own

-- The greatest recorded delay of a filter is at most the greatest bound of its queues.
pub delay_bound : {A : Type 0} (p : Plan A) (n b k : ℕ) (f : FilterPlan) (es : List Event) (lists : ℕ → List (Copy CarriedFrame)) (o : Outcome A) (v : View A) → IsPlan p → IsAcceptable p → IsMember (n, f) p.filters → f.protected ≡ true → IsOutcome p es lists o → lookup (nat_eq n) o.filters.items ≡ Some v → ((q c : ℕ) → reaches_queue p f q c ≡ true → (d : ℕ) × IsQueueBound p n q c d × (d ≤ b)) → v.delay ≡ Some k → k ≤ b
delay_bound {A} p n b k f es lists o v plan good listed is out found bounds delay =
    let known : lookup (nat_eq n) p.filters ≡ Some f = member_found p.filters n f plan.filters.own listed in
    let longest : IsGreatestNumber (IsFilterDelay p n (IsPortCopy lists)) (Some k) = subst (IsGreatestNumber (IsFilterDelay p n (IsPortCopy lists))) delay (out.views n f v known found).told.longest in
    let late : IsFilterDelay p n (IsPortCopy lists) k = longest.0 in
    let reach = (own_queues p n f es out.moments lists late.port late.out late.copy plan good listed is out.run late.at late.lies).0 late.flow in
    let (d, bound, upto) = bounds late.port late.copy.class reach in
    let done = in_bound p n d es out.moments lists late.port late.start late.out late.copy plan good out.run out.whole late.at late.lies late.flow late.started bound in
    let was = late.delay in
    omega (arith, done, upto, was)

-- A copy leaves within the tightened bound if it leaves within both bounds: by capacity, and by the frames that the stream gate passes.
within_tightened : {A : Type 0} (s : Schedule A) (out : PortPlan A) (c m a b done at : ℕ) → IsTightenedBound s out c m a b → done ≤ at + a
    → ((k d : ℕ) → LetsFew (turn_by_time s) k d → IsLongestTime (lists_open out.list c) (transmission_time (longest_frame m) out.speed) k d → done ≤ at + (transmission_time (longest_frame m) out.speed - 1) + d)
    → done ≤ at + b
within_tightened (schedule.Fixed lets ipv) out c m a b done at is before few = omega (arith, is, before)
within_tightened (schedule.Joined j) out c m a b done at is before few = omega (arith, is, before)
within_tightened (schedule.Cyclic l) out c m a b done at is before few = by_most (frames_below_room ((egress_rules out).room c) (max_list_frames l.entries)) refl is
  where
    by_most : (o : Option ℕ) → frames_below_room ((egress_rules out).room c) (max_list_frames l.entries) ≡ o → MatchOption o (b ≡ a) (λ k. IsLesserBound l out c m k a b) → done ≤ at + b
    by_most None same is = omega (arith, is, before)
    by_most (Some k) same is = elim is.lesser [
      | inr other ↦ let own = other.1 in omega (arith, own, before)
      | inl lesser ↦
          let most : max_list_frames l.entries ≡ Some k = fewer_is ((egress_rules out).room c) k (max_list_frames l.entries) same in
          let within = few k is.is.longest (record { few = λ t x there lets. turn_few l k t x most there lets; apart = lesser.0 }) is.is.is_longest in
          let bound = is.is.bound in
          let own = lesser.1 in
          omega (arith, within, before, bound, own)
    ]

-- A sent copy leaves within its queue's tight bound.
pub in_tight_bound : {A : Type 0} (p : Plan A) (n b : ℕ) (es : List Event) (moments : ℕ → ℕ) (lists : ℕ → List (Copy CarriedFrame)) (q s : ℕ) (out : PortPlan A) (x : Copy CarriedFrame) → IsPlan p → IsAcceptable p → IsRun p es moments lists → AreFinished lists → AreWithinLengths es → find_port p.ports q ≡ Some out → IsMember x (lists q) → x.item.flow ≡ Some n → x.fate ≡ Started s → IsTightBound p n q x.class b → s + transmission_time x.item.len out.speed ≤ x.at + b
in_tight_bound {A} p n b es moments lists q s out x plan good run whole within at i flow started tight =
    let bound : IsQueueBound p n q x.class tight.by_room = tight.is_bound in
    let same : bound.out ≡ out = same_Some bound.out out (sym bound.at ∙ at) in
    let listed = found_in p.filters n bound.filter bound.found in
    let before = in_bound p n tight.by_room es moments lists q s bound.out x plan good run whole bound.at i flow started bound in
    let rules : (plan_police p).gates bound.filter.gate ≡ gate_rules tight.gate = ap gate_or_closed tight.gated in
    let own : s + transmission_time x.item.len bound.out.speed ≤ x.at + b = within_tightened tight.gate.schedule bound.out x.class bound.max_sdu tight.by_room b (s + transmission_time x.item.len bound.out.speed) x.at tight.tightened before
    (λ k d few longest. few_in_time p n bound.max_sdu k d bound.filter es moments lists q s bound.out x plan good listed bound.protected bound.size run whole within bound.at i flow started (subst (λ (r : GateRules). LetsFew r.turn_at k d) (sym rules) few) longest) in
    subst (λ (o : PortPlan A). s + transmission_time x.item.len o.speed ≤ x.at + b) same own
