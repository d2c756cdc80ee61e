-- Guarantees of an accepted plan for a protected filter at a port: its queues, and the link while they are open.
use Rattle.std.proofs.Common.{◌≡◌, ℕ, true, max, List, [], ◌∷◌, ◌++◌, ◌↔◌, refl, sym, subst, inl, inr, Some}
use Rattle.std.proofs.lemmas.Bool.{eq-eqb}
use Rattle.std.specs.Prelude.{nat_eq}
use Rattle.bridge_limits.specs.Members.{IsMember}
use Rattle.bridge_limits.proofs.Cases.{by_bool}
use Rattle.bridge_cycle.specs.Fits.{IsFirstFit}
use Rattle.bridge_frame.specs.Link.{transmission_time}
use Rattle.bridge_frame.proofs.Times.{occupied_some}
use Rattle.bridge_filter.specs.declared.FilterPlan.{FilterPlan}
use Rattle.bridge_port.specs.GateSchedule.{lists_open}
use Rattle.bridge_port.specs.Schedule.{Copy, PortRules, Started, IsLawfulStart, AreLawfulStarts, IsLawful}
use Rattle.bridge_port.specs.Solo.{class_copies, last_done_time, IsSolo, IsSoloFate, IsFinished}
use Rattle.bridge_port.proofs.Isolation.{solo}
use Rattle.bridge_config.specs.declared.ports.PortPlan.{PortPlan}
use Rattle.bridge_config.specs.Model.{Plan}
use Rattle.bridge_config.specs.Rules.{IsPlan, find_port}
use Rattle.bridge_config.proofs.PlanPorts.{at_port, at_own}
use Rattle.bridge_check.specs.Acceptable.{IsAcceptable}
use Rattle.bridge_check.specs.Reach.{reaches_queue}
use Rattle.bridge_semantics.specs.Events.{Event, own_events}
use Rattle.bridge_semantics.specs.Offers.{CarriedFrame, egress_rules, port_offers, class_offers}
use Rattle.bridge_semantics.specs.Runs.{IsOnLink, IsRun, AreFinished}
use Rattle.bridge_semantics.proofs.Safe.{IsSafe, alone}
use Rattle.bridge_semantics.proofs.Offering.{offers_own}
use Rattle.bridge_semantics.proofs.Headline.{as_offer, in_offered, in_in_class, in_class_in, flow_reaches, own_flow}

-- A PORT OF THE PLAN

-- A port found by a number has this number.
numbered : {A : Type 0} (p : Plan A) (q : ℕ) (out : PortPlan A) → find_port p.ports q ≡ Some out → (P : ℕ → Type 0) → P out.number → P q
numbered p q out at P h = subst P (at_port p.ports q out at).number h

-- THE QUEUES

-- A copy of the filter is in one of its reachable queues.
own_in_reach : {A : Type 0} (p : Plan A) (n : ℕ) (f : FilterPlan) → IsSafe p n f → (es : List Event) (moments : ℕ → ℕ) (lists : ℕ → List (Copy CarriedFrame)) → IsRun p es moments lists → (q : ℕ) (out : PortPlan A) (x : Copy CarriedFrame) → find_port p.ports q ≡ Some out → IsMember x (lists q) → x.item.flow ≡ Some n → reaches_queue p f q x.class ≡ true
own_in_reach p n f safe es moments lists run q out x at i e =
    let among : IsMember (as_offer x) (port_offers p out es) = subst (IsMember (as_offer x)) (run.offers q out at) (in_offered x (lists q) i) in
    numbered p q out at (λ k. reaches_queue p f k x.class ≡ true) (flow_reaches p n f out safe (at_own p.ports q out at) es (as_offer x) among e)

-- A reachable queue contains only copies of the filter.
reach_has_own : {A : Type 0} (p : Plan A) (n : ℕ) (f : FilterPlan) → IsSafe p n f → (es : List Event) (moments : ℕ → ℕ) (lists : ℕ → List (Copy CarriedFrame)) → IsRun p es moments lists → (q : ℕ) (out : PortPlan A) (x : Copy CarriedFrame) → find_port p.ports q ≡ Some out → IsMember x (lists q) → reaches_queue p f q x.class ≡ true → x.item.flow ≡ Some n
reach_has_own p n f safe es moments lists run q out x at i r =
    let there = at_own p.ports q out at in
    let among : IsMember (as_offer x) (port_offers p out es) = subst (IsMember (as_offer x)) (run.offers q out at) (in_offered x (lists q) i) in
    let reach : reaches_queue p f out.number x.class ≡ true = subst (λ k. reaches_queue p f k x.class ≡ true) (sym (at_port p.ports q out at).number) r in
    let here : IsMember (as_offer x) (class_offers x.class (port_offers p out (own_events p n f es))) = subst (IsMember (as_offer x)) (sym (offers_own p n f out safe there x.class reach es)) (in_in_class x.class (as_offer x) (port_offers p out es) among refl) in
    own_flow p n f out safe.plan there es (as_offer x) (in_class_in x.class (as_offer x) (port_offers p out (own_events p n f es)) here).0

-- The reachable queues contain exactly the copies of the filter's frames.
pub own_queues : {A : Type 0} (p : Plan A) (n : ℕ) (f : FilterPlan) (es : List Event) (moments : ℕ → ℕ) (lists : ℕ → List (Copy CarriedFrame)) (q : ℕ) (out : PortPlan A) (x : Copy CarriedFrame) → IsPlan p → IsAcceptable p → IsMember (n, f) p.filters → f.protected ≡ true → IsRun p es moments lists → find_port p.ports q ≡ Some out → IsMember x (lists q) → (x.item.flow ≡ Some n) ↔ (reaches_queue p f q x.class ≡ true)
own_queues p n f es moments lists q out x plan good listed is run at i =
    let safe : IsSafe p n f = record { plan = plan; listed = listed; passes = good n f listed is } in
    (own_in_reach p n f safe es moments lists run q out x at i, reach_has_own p n f safe es moments lists run q out x at i)

-- THE LINK

-- A started copy of a schedule started as the rules state.
start_of : {X : Type 0} (r : PortRules X) (h : ℕ) (x : Copy X) (xs : List (Copy X)) → IsMember x xs → AreLawfulStarts r h xs → IsLawfulStart r h x x.fate
start_of r h x [] i k = absurd i
start_of r h x (y ∷ ys) (inl same) k = subst (λ (v : Copy _). IsLawfulStart r h v v.fate) (sym same) k.0
start_of r h x (y ∷ ys) (inr later) k = start_of r h x ys later k.1

-- While a reachable class is open, no copy of another class occupies the link.
pub class_alone : {A : Type 0} (p : Plan A) (n : ℕ) (f : FilterPlan) (q c h u : ℕ) (out : PortPlan A) (xs : List (Copy CarriedFrame)) (x : Copy CarriedFrame) → IsPlan p → IsAcceptable p → IsMember (n, f) p.filters → f.protected ≡ true → find_port p.ports q ≡ Some out → reaches_queue p f q c ≡ true → lists_open out.list c u ≡ true → IsLawful (egress_rules out) h xs → IsMember x xs → IsOnLink out x u → x.class ≡ c
class_alone p n f q c h u out xs x plan good listed is at reach opens lawful i on =
    let safe : IsSafe p n f = record { plan = plan; listed = listed; passes = good n f listed is } in
    let start : IsLawfulStart (egress_rules out) h x (Started on.start) = subst (IsLawfulStart (egress_rules out) h x) on.started (start_of (egress_rules out) h x xs i lawful.starts) in
    (alone p n f safe).window q c out at reach x.class u opens (start.2 u on.begun on.going_on)

-- STARTS

-- The copies of a reachable class fare as if they had the link to themselves.
pub served_alone : {A : Type 0} (p : Plan A) (n : ℕ) (f : FilterPlan) (q c h : ℕ) (out : PortPlan A) (xs : List (Copy CarriedFrame)) → IsPlan p → IsAcceptable p → IsMember (n, f) p.filters → f.protected ≡ true → find_port p.ports q ≡ Some out → reaches_queue p f q c ≡ true → IsLawful (egress_rules out) h xs → IsFinished xs → IsSolo (egress_rules out) (class_copies c xs)
served_alone p n f q c h out xs plan good listed is at reach lawful whole =
    let safe : IsSafe p n f = record { plan = plan; listed = listed; passes = good n f listed is } in
    solo (egress_rules out) c h xs (λ x. occupied_some x.len out.speed) ((alone p n f safe).window q c out at reach) lawful whole

in_middle : {X : Type 0} (newer : List X) (x : X) (older : List X) → IsMember x (newer ++ x ∷ older)
in_middle [] x older = inl refl
in_middle (y ∷ newer) x older = inr (in_middle newer x older)

-- The fate of a copy among the copies of its class.
fate_among : {X : Type 0} (r : PortRules X) (c : ℕ) (newer : List (Copy X)) (x : Copy X) (older : List (Copy X)) → x.class ≡ c → IsSolo r (class_copies c (newer ++ x ∷ older)) → IsSoloFate r x (class_copies c older) x.fate
fate_among r c [] x older e h =
    let k : nat_eq x.class c ≡ true = eq-eqb x.class c e in
    let own_events : IsSolo r (x ∷ class_copies c older) = rw k at h in
    own_events.0
fate_among r c (y ∷ newer) x older e h = by_bool (nat_eq y.class c)
    (λ k. let more : IsSolo r (y ∷ class_copies c (newer ++ x ∷ older)) = rw k at h in fate_among r c newer x older e more.1)
    (λ k. let more : IsSolo r (class_copies c (newer ++ x ∷ older)) = rw k at h in fate_among r c newer x older e more)

-- Each started copy of a reachable class started at the first time that fits.
pub starts_at_once : {A : Type 0} (p : Plan A) (n : ℕ) (f : FilterPlan) (q c h s : ℕ) (out : PortPlan A) (newer : List (Copy CarriedFrame)) (x : Copy CarriedFrame) (older : List (Copy CarriedFrame)) → IsPlan p → IsAcceptable p → IsMember (n, f) p.filters → f.protected ≡ true → find_port p.ports q ≡ Some out → reaches_queue p f q c ≡ true → IsLawful (egress_rules out) h (newer ++ x ∷ older) → IsFinished (newer ++ x ∷ older) → x.class ≡ c → x.fate ≡ Started s → IsFirstFit (lists_open out.list c) (transmission_time x.item.len out.speed) (max x.at (last_done_time (egress_rules out) (class_copies c older))) s
starts_at_once p n f q c h s out newer x older plan good listed is at reach lawful whole e started =
    let all = served_alone p n f q c h out (newer ++ x ∷ older) plan good listed is at reach lawful whole in
    let fate : IsSoloFate (egress_rules out) x (class_copies c older) (Started s) = subst (IsSoloFate (egress_rules out) x (class_copies c older)) started (fate_among (egress_rules out) c newer x older e all) in
    subst (λ (k : ℕ). IsFirstFit (lists_open out.list k) (transmission_time x.item.len out.speed) (max x.at (last_done_time (egress_rules out) (class_copies c older))) s) e fate.2

-- In a complete run, each started copy of the filter started at the first time that fits.
pub own_at_once : {A : Type 0} (p : Plan A) (n : ℕ) (f : FilterPlan) (es : List Event) (moments : ℕ → ℕ) (lists : ℕ → List (Copy CarriedFrame)) (q s : ℕ) (out : PortPlan A) (newer : List (Copy CarriedFrame)) (x : Copy CarriedFrame) (older : List (Copy CarriedFrame)) → IsPlan p → IsAcceptable p → IsMember (n, f) p.filters → f.protected ≡ true → IsRun p es moments lists → AreFinished lists → find_port p.ports q ≡ Some out → lists q ≡ newer ++ x ∷ older → x.item.flow ≡ Some n → x.fate ≡ Started s → IsFirstFit (lists_open out.list x.class) (transmission_time x.item.len out.speed) (max x.at (last_done_time (egress_rules out) (class_copies x.class older))) s
own_at_once p n f es moments lists q s out newer x older plan good listed is run whole at split e started =
    let here : IsMember x (lists q) = subst (IsMember x) (sym split) (in_middle newer x older) in
    let reach = (own_queues p n f es moments lists q out x plan good listed is run at here).0 e in
    starts_at_once p n f q x.class (moments q) s out newer x older plan good listed is at reach (subst (IsLawful (egress_rules out) (moments q)) split (run.lawful q out at)) (subst IsFinished split (whole q)) refl started
