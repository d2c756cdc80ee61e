-- At most as many frames leave a port as arrive at the bridge.
use Rattle.std.proofs.Common.{◌≡◌, ◌≤◌, ◌+◌, ℕ, Bool, true, false, List, [], ◌∷◌, Some, length, map, arith, refl, ap, ◌∙◌, sym, subst, inl, inr}
use Rattle.std.specs.Prelude.{nat_eq, ◌||◌, if◌then◌else◌}
use Rattle.std.specs.List.{IsDistinct, AllByRecursion, list_any}
use Rattle.std.specs.Set.{is_member}
use Rattle.std.proofs.lemmas.Bool.{or_cases, eqb-true, false≢true}
use Rattle.std.proofs.lemmas.List.{length-append, length-map}
use Rattle.std.proofs.lemmas.Cmp.{nat_eq_equiv}
use Rattle.std.proofs.lemmas.Map.Made.{length-le_from_is_member}
use Rattle.bridge_limits.specs.Members.{IsMember, RelatesToEach, IsOrdered}
use Rattle.bridge_limits.proofs.Orders.{apart, same_eq}
use Rattle.bridge_capture.specs.Grammar.{CapturedFrame}
use Rattle.bridge_frame.specs.declared.Speed.{Speed}
use Rattle.bridge_frame.specs.Link.{transmission_time}
use Rattle.bridge_filter.specs.declared.Verdict.{Verdict}
use Rattle.bridge_filter.specs.declared.Verdict.TheVariants as verdict
use Rattle.bridge_filter.specs.Verdicts as verdicts
use Rattle.bridge_forward.specs.Ports.{has_port}
use Rattle.bridge_port.specs.Schedule.{Copy, Fate, Never, Full, Queued, Started}
use Rattle.bridge_config.specs.declared.ports.PortPlan.{PortPlan}
use Rattle.bridge_config.specs.Model.{Plan}
use Rattle.bridge_config.specs.Rules.{find_port}
use Rattle.bridge_semantics.specs.declared.outcome.Outcome.{Outcome}
use Rattle.bridge_semantics.specs.declared.destination.Destination.{Destination}
use Rattle.bridge_semantics.specs.declared.destination.Destination.TheVariants as way
use Rattle.bridge_semantics.specs.Events.{Arrival, Event, Arrived, Cleared, arrivals, frame_destination}
use Rattle.bridge_semantics.specs.Offers.{CarriedFrame, verdict_offer, arrival_offer, step_offer, destination_offer, copy_offers, port_offers, frame_step}
use Rattle.bridge_semantics.specs.Outputs.{EndsRun, IsOutput, IsDeparture, LeavesEarlier}
use Rattle.bridge_semantics.specs.Runs.{IsRun}

-- The end of transmission of a copy, 0 without a start.
abbrev end_of : ℕ → Fate → ℕ
end_of n Never = 0
end_of n Full = 0
end_of n Queued = 0
end_of n (Started s) = s + n

abbrev ends_of : Speed → List (Copy CarriedFrame) → List ℕ
ends_of speed xs = map (λ (x : Copy CarriedFrame). end_of (transmission_time x.item.len speed) x.fate) xs

abbrev times : List CapturedFrame → List ℕ
times xs = map (λ (d : CapturedFrame). d.time) xs

or_left : (a b : Bool) → a ≡ true → a || b ≡ true
or_left a b e = rw e refl

or_right : (a b : Bool) → b ≡ true → a || b ≡ true
or_right true b e = refl
or_right false b e = e

after_times : (d : CapturedFrame) (ds : List CapturedFrame) → RelatesToEach LeavesEarlier d ds → AllByRecursion (λ y. nat_eq d.time y ≡ false) (times ds)
after_times d [] h = tt
after_times d (e ∷ es) h = (apart d.time e.time h.0, after_times d es h.1)

distinct_times : (ds : List CapturedFrame) → IsOrdered LeavesEarlier ds → IsDistinct nat_eq (times ds)
unfolding IsDistinct
distinct_times [] h = tt
distinct_times (d ∷ ds) h = (after_times d ds h.0, distinct_times ds h.1)

-- A listed end of transmission belongs to a frame that has left.
found : (ds : List CapturedFrame) (t : ℕ) → is_member nat_eq (times ds) t ≡ true → (d : CapturedFrame) × IsMember d ds × (t ≡ d.time)
found [] t e = absurd (false≢true e)
found (d ∷ ds) t e = elim (or_cases (nat_eq t d.time) (list_any (nat_eq t) (times ds)) e) [
  | inl h ↦ (d, inl refl, eqb-true t d.time h)
  | inr h ↦ let f = found ds t h in (f.0, inr f.1, f.2)
]

there : (speed : Speed) (xs : List (Copy CarriedFrame)) (x : Copy CarriedFrame) (s : ℕ) → IsMember x xs → x.fate ≡ Started s → is_member nat_eq (ends_of speed xs) (s + transmission_time x.item.len speed) ≡ true
there speed [] x s i e = absurd i
there speed (y ∷ ys) x s (inl h) e =
    let fate : y.fate ≡ Started s = subst (λ (z : Copy CarriedFrame). z.fate ≡ Started s) h e in
    let q = s + transmission_time x.item.len speed in
    let is : end_of (transmission_time y.item.len speed) y.fate ≡ q = ap (end_of (transmission_time y.item.len speed)) fate ∙ ap (λ (z : Copy CarriedFrame). s + transmission_time z.item.len speed) (sym h) in
    or_left (nat_eq q (end_of (transmission_time y.item.len speed) y.fate)) (list_any (nat_eq q) (ends_of speed ys)) (ap (nat_eq q) is ∙ same_eq q)
there speed (y ∷ ys) x s (inr i) e =
    let q = s + transmission_time x.item.len speed in
    or_right (nat_eq q (end_of (transmission_time y.item.len speed) y.fate)) (list_any (nat_eq q) (ends_of speed ys)) (there speed ys x s i e)

-- At most as many frames have left a port as it has copies.
few_left : (speed : Speed) (xs : List (Copy CarriedFrame)) (left : List CapturedFrame) → IsOutput speed xs left → length left ≤ length xs
few_left speed xs left o =
    let known : (t : ℕ) → is_member nat_eq (times left) t ≡ true → is_member nat_eq (ends_of speed xs) t ≡ true = λ t h.
    let f = found left t h in
    let l : IsDeparture speed xs f.0 = (o.members f.0).0 f.1 in
    let is : t ≡ l.start + transmission_time l.copy.item.len speed = f.2 ∙ ap (λ (d : CapturedFrame). d.time) l.is in
    subst (λ u. is_member nat_eq (ends_of speed xs) u ≡ true) (sym is) (there speed xs l.copy l.start l.listed l.started) in
    let most = length-le_from_is_member nat_eq_equiv (times left) (ends_of speed xs) (distinct_times left o.rises) known in
    let one = length-map left (λ (d : CapturedFrame). d.time) in
    let two = length-map xs (λ (x : Copy CarriedFrame). end_of (transmission_time x.item.len speed) x.fate) in
    omega (arith, most, one, two)

-- A frame offers a port at most one copy.
few_by : {A : Type 0} (out : PortPlan A) (a : Arrival) (priority n own : ℕ) (v : Verdict) → length (verdict_offer out a priority n own v) ≤ 1
few_by out a priority n own verdict.Blocked = omega (arith)
few_by out a priority n own verdict.Oversize = omega (arith)
few_by out a priority n own verdict.GateClosed = omega (arith)
few_by out a priority n own verdict.ShutByRx = omega (arith)
few_by out a priority n own verdict.ShutByOctets = omega (arith)
few_by out a priority n own verdict.OctetsExceeded = omega (arith)
few_by out a priority n own verdict.Red = omega (arith)
few_by out a priority n own verdict.YellowDropped = omega (arith)
few_by out a priority n own (verdict.Pass ipv eligible) = omega (arith)

few_of_step : {A : Type 0} (p : Plan A) (out : PortPlan A) (a : Arrival) (es : List Event) (priority : ℕ) (s : verdicts.FilterStep) → length (step_offer p out a es priority s) ≤ 1
few_of_step p out a es priority (verdicts.Unfiltered c) = omega (arith)
few_of_step p out a es priority (verdicts.Judged c n f v) = few_by out a priority n _ v
few_of_step p out a es priority (verdicts.Commanded v m) = omega (arith)

few_if : {X : Type 0} (b : Bool) (xs : List X) → length xs ≤ 1 → length (if b then xs else []) ≤ 1
few_if true xs h = h
few_if false xs h = omega (arith)

few_on : {A : Type 0} (p : Plan A) (out : PortPlan A) (a : Arrival) (es : List Event) (w : Destination) → length (destination_offer p out a es w) ≤ 1
few_on p out a es way.Malformed = omega (arith)
few_on p out a es way.Nowhere = omega (arith)
few_on p out a es (way.Forwarded set c) = few_if (has_port set out.number) _ (few_of_step p out a es c.priority (frame_step p es c))

few_offers : {A : Type 0} (p : Plan A) (out : PortPlan A) (es : List Event) → length (port_offers p out es) ≤ length (arrivals es)
few_offers p out [] = omega (arith)
few_offers p out (Arrived a ∷ es) =
    let one = few_on p out a es (frame_destination p a) in
    let rest = few_offers p out es in
    let both = length-append (arrival_offer p out a es) (port_offers p out es) in
    omega (arith, one, rest, both)
few_offers p out (Cleared clear n ∷ es) = few_offers p out es

-- In a run so far, at most as many frames have left a port as have arrived.
pub few_so_far : {A : Type 0} (p : Plan A) (es : List Event) (moments : ℕ → ℕ) (lists : ℕ → List (Copy CarriedFrame)) (left : ℕ → List CapturedFrame) (q : ℕ) (out : PortPlan A) → IsRun p es moments lists → IsOutput out.speed (lists q) (left q) → find_port p.ports q ≡ Some out → length (left q) ≤ length (arrivals es)
few_so_far p es moments lists left q out run output at =
    let most = few_left out.speed (lists q) (left q) output in
    let many = ap length (run.offers q out at) in
    let same : length (copy_offers (lists q)) ≡ length (lists q) = length-map (lists q) (λ (x : Copy CarriedFrame). record { at = x.at; class = x.class; item = x.item }) in
    let rest = few_offers p out es in
    omega (arith, most, many, same, rest)

-- In a complete run, at most as many frames leave a port as arrive.
pub few_leave : {A : Type 0} (p : Plan A) (es : List Event) (left : ℕ → List CapturedFrame) (o : Outcome A) (q : ℕ) (out : PortPlan A) → EndsRun p es left o → find_port p.ports q ≡ Some out → length (left q) ≤ length (arrivals es)
few_leave p es left o q out ends at = few_so_far p es _ ends.lists left q out ends.outcome.run (ends.output q out at) at
