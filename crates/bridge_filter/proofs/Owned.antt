use Rattle.std.proofs.Common.{◌≡◌, ℕ, true, false, List, [], ◌∷◌, arith, refl, ap, sym, subst, inl, inr, Option, Some, None}
use Rattle.std.proofs.lemmas.Bool.Decides.{nat_tests}
use Rattle.std.specs.Prelude.{if◌then◌else◌, nat_eq, nat_lt, ◌&&◌}
use Rattle.std.proofs.lemmas.Option.{same_Some}
use Rattle.std.proofs.lemmas.Bool.{eqb-true, eqb-false}
use Rattle.bridge_limits.specs.Members.{IsMember}
use Rattle.bridge_limits.proofs.Cases.{by_bool}
use Rattle.bridge_filter.specs.declared.Clear.TheVariants as clear
use Rattle.bridge_filter.specs.declared.FilterPlan.{FilterPlan}
use Rattle.bridge_filter.specs.declared.Verdict.{Verdict}
use Rattle.bridge_filter.specs.declared.Verdict.TheVariants as verdict
use Rattle.bridge_gate.specs.declared.stream_gate.GateAnswer.{GateAnswer}
use Rattle.bridge_gate.specs.declared.stream_gate.GateAnswer.TheVariants as gate
use Rattle.bridge_filter.specs.Verdicts.{PolicePlans, FilterInput, FilterEvent, Arrived, Cleared, FilterStep, Unfiltered, Judged, Commanded, gate_share, meter_share, is_blocked, is_meter, is_match, lesser_filter, frame_filter, frame_verdict, input_step, filter_steps, is_above_max, answer_verdict, meter_verdict, gate_answer}
use Rattle.bridge_filter.specs.OwnEvents.{own_filter_events, is_own_command, is_own_step, own_steps, HasOwnInstances}

-- Holds if a judged frame has a filter of the plan.
abbrev pub IsListed : PolicePlans → FilterStep → Type 0
IsListed p (Judged c n g v) = IsMember (n, g) p.filters
IsListed p x = Unit {0}

abbrev pub AreListed : PolicePlans → List FilterStep → Type 0
AreListed p [] = Unit {0}
AreListed p (x ∷ xs) = IsListed p x × AreListed p xs

lesser_listed : (f x : ℕ × FilterPlan) (fs : List (ℕ × FilterPlan)) (o : Option (ℕ × FilterPlan)) → ((y : ℕ × FilterPlan) → o ≡ Some y → IsMember y fs) → lesser_filter f o ≡ Some x → IsMember x (f ∷ fs)
lesser_listed f x fs None ih h = inl (sym (same_Some f x h))
lesser_listed f x fs (Some g) ih h = by_bool (nat_lt g.0 f.0)
    (λ e. let k : Some g ≡ Some x = rw e at h in inr (ih x k))
    (λ e. let k : Some f ≡ Some x = rw e at h in inl (sym (same_Some f x k)))

-- A frame's filter is in the list of filters.
pub flow_listed : (fs : List (ℕ × FilterPlan)) (c : FilterInput) (x : ℕ × FilterPlan) → frame_filter fs c ≡ Some x → IsMember x fs
flow_listed [] c x h = absurd (cc)
flow_listed (f ∷ fs) c x h = by_bool (is_match f.1 c)
    (λ e. let k : lesser_filter f (frame_filter fs c) ≡ Some x = rw e at h in lesser_listed f x fs (frame_filter fs c) (flow_listed fs c) k)
    (λ e. let k : frame_filter fs c ≡ Some x = rw e at h in inr (flow_listed fs c x k))

judged_listed : (p : PolicePlans) (ss : List FilterStep) (c : FilterInput) (o : Option (ℕ × FilterPlan)) → ((x : ℕ × FilterPlan) → o ≡ Some x → IsMember x p.filters) → IsListed p (input_step p ss c o)
judged_listed p ss c None h = tt
judged_listed p ss c (Some x) h = h x refl

pub told_listed : (p : PolicePlans) (es : List FilterEvent) → AreListed p (filter_steps p es)
told_listed p [] = tt
told_listed p (Arrived c ∷ es) = (judged_listed p (filter_steps p es) c (frame_filter p.filters c) (flow_listed p.filters c), told_listed p es)
told_listed p (Cleared c n ∷ es) = (tt, told_listed p es)

pub differs : (m n : ℕ) → (m ≡ n → ⊥) → nat_eq m n ≡ false
differs m n h = by_bool (nat_eq m n) (λ k. absurd (h (eqb-true m n k))) (λ k. k)

pub gate_own : (p : PolicePlans) (s : ℕ) (f : FilterPlan) → HasOwnInstances p s f → (ss : List FilterStep) → AreListed p ss → gate_share f.gate (own_steps s f ss) ≡ gate_share f.gate ss
gate_own p s f a [] l = refl
gate_own p s f a (Unfiltered c ∷ ss) l = gate_own p s f a ss l.1
gate_own p s f a (Judged c n g v ∷ ss) l = by_bool (nat_eq n s)
    (λ k. rw (k, gate_own p s f a ss l.1) refl)
    (λ k. let e : nat_eq g.gate f.gate ≡ false = differs g.gate f.gate (λ q. eqb-false n s k (a.gate n g l.0 q)) in rw (k, e) (gate_own p s f a ss l.1))
gate_own p s f a (Commanded clear.Blocked n ∷ ss) l = by_bool (nat_eq n s) (λ k. rw k (gate_own p s f a ss l.1)) (λ k. rw k (gate_own p s f a ss l.1))
gate_own p s f a (Commanded clear.Rx n ∷ ss) l = by_bool (nat_eq n f.gate) (λ k. rw (k, k, gate_own p s f a ss l.1) refl) (λ k. rw k (gate_own p s f a ss l.1))
gate_own p s f a (Commanded clear.Octets n ∷ ss) l = by_bool (nat_eq n f.gate) (λ k. rw (k, k, gate_own p s f a ss l.1) refl) (λ k. rw k (gate_own p s f a ss l.1))
gate_own p s f a (Commanded clear.Red n ∷ ss) l = by_bool (is_meter f.meter n) (λ k. rw k (gate_own p s f a ss l.1)) (λ k. rw k (gate_own p s f a ss l.1))

is_meter_some : (o : Option ℕ) (m : ℕ) → is_meter o m ≡ true → o ≡ Some m
is_meter_some None m h = cc
is_meter_some (Some n) m h = ap Some (eqb-true n m h)

swapped : (m n : ℕ) → nat_eq n m ≡ true → nat_eq m n ≡ true
swapped m n h = grind (arith, nat_tests)

-- A command for the filter's meter is an own command. Other commands aren't events of this meter.
command_own : (p : PolicePlans) (s m n : ℕ) (f : FilterPlan) → f.meter ≡ Some m → (ss : List FilterStep) → meter_share m (own_steps s f ss) ≡ meter_share m ss → meter_share m (own_steps s f (Commanded clear.Red n ∷ ss)) ≡ meter_share m (Commanded clear.Red n ∷ ss)
command_own p s m n f e ss h = by_bool (nat_eq n m)
    (λ k.
    let named : is_meter f.meter n ≡ true = rw e (swapped m n k) in
    rw (named, k, h) refl)
    (λ k. by_bool (is_meter f.meter n)
    (λ y. rw (y, k) h)
    (λ y. rw (y, k) h))

pub meter_own : (p : PolicePlans) (s m : ℕ) (f : FilterPlan) → HasOwnInstances p s f → f.meter ≡ Some m → (ss : List FilterStep) → AreListed p ss → meter_share m (own_steps s f ss) ≡ meter_share m ss
meter_own p s m f a e [] l = refl
meter_own p s m f a e (Unfiltered c ∷ ss) l = meter_own p s m f a e ss l.1
meter_own p s m f a e (Judged c n g v ∷ ss) l = by_bool (nat_eq n s)
    (λ k. rw (k, meter_own p s m f a e ss l.1) refl)
    (λ k. let z : is_meter g.meter m ≡ false = by_bool (is_meter g.meter m) (λ y. absurd (eqb-false n s k (a.meter n m g e l.0 (is_meter_some g.meter m y)))) (λ y. y) in rw (k, z) (meter_own p s m f a e ss l.1))
meter_own p s m f a e (Commanded clear.Blocked n ∷ ss) l = by_bool (nat_eq n s) (λ k. rw k (meter_own p s m f a e ss l.1)) (λ k. rw k (meter_own p s m f a e ss l.1))
meter_own p s m f a e (Commanded clear.Rx n ∷ ss) l = by_bool (nat_eq n f.gate) (λ k. rw k (meter_own p s m f a e ss l.1)) (λ k. rw k (meter_own p s m f a e ss l.1))
meter_own p s m f a e (Commanded clear.Octets n ∷ ss) l = by_bool (nat_eq n f.gate) (λ k. rw k (meter_own p s m f a e ss l.1)) (λ k. rw k (meter_own p s m f a e ss l.1))
meter_own p s m f a e (Commanded clear.Red n ∷ ss) l = command_own p s m n f e ss (meter_own p s m f a e ss l.1)

pub blocked_own : (s : ℕ) (f : FilterPlan) (ss : List FilterStep) → is_blocked s (own_steps s f ss) ≡ is_blocked s ss
blocked_own s f [] = refl
blocked_own s f (Unfiltered c ∷ ss) = blocked_own s f ss
blocked_own s f (Judged c n g v ∷ ss) = by_bool (nat_eq n s) (λ k. rw (k, k, blocked_own s f ss) refl) (λ k. rw (k) (blocked_own s f ss))
blocked_own s f (Commanded clear.Blocked n ∷ ss) = by_bool (nat_eq n s) (λ k. rw (k, k) refl) (λ k. rw (k) (blocked_own s f ss))
blocked_own s f (Commanded clear.Rx n ∷ ss) = by_bool (nat_eq n f.gate) (λ k. rw k (blocked_own s f ss)) (λ k. rw k (blocked_own s f ss))
blocked_own s f (Commanded clear.Octets n ∷ ss) = by_bool (nat_eq n f.gate) (λ k. rw k (blocked_own s f ss)) (λ k. rw k (blocked_own s f ss))
blocked_own s f (Commanded clear.Red n ∷ ss) = by_bool (is_meter f.meter n) (λ k. rw k (blocked_own s f ss)) (λ k. rw k (blocked_own s f ss))

by_meter_own : (p : PolicePlans) (s : ℕ) (f : FilterPlan) → HasOwnInstances p s f → (ss : List FilterStep) → AreListed p ss → (c : FilterInput) (ipv m : Option ℕ) → f.meter ≡ m → meter_verdict p (own_steps s f ss) c ipv m ≡ meter_verdict p ss c ipv m
by_meter_own p s f a ss l c ipv None e = refl
by_meter_own p s f a ss l c ipv (Some m) e = rw (meter_own p s m f a e ss l) refl

by_answer_own : (p : PolicePlans) (s : ℕ) (f : FilterPlan) → HasOwnInstances p s f → (ss : List FilterStep) → AreListed p ss → (c : FilterInput) (g : GateAnswer) → answer_verdict p (own_steps s f ss) c f g ≡ answer_verdict p ss c f g
by_answer_own p s f a ss l c (gate.Through ipv) = by_meter_own p s f a ss l c ipv f.meter refl
by_answer_own p s f a ss l c gate.Closed = refl
by_answer_own p s f a ss l c gate.ShutByRx = refl
by_answer_own p s f a ss l c gate.ShutByOctets = refl
by_answer_own p s f a ss l c gate.OctetsExceeded = refl

-- The verdict of a filter depends only on its own steps.
pub verdict_own : (p : PolicePlans) (s : ℕ) (f : FilterPlan) → HasOwnInstances p s f → (ss : List FilterStep) → AreListed p ss → (c : FilterInput) → frame_verdict p (own_steps s f ss) c s f ≡ frame_verdict p ss c s f
verdict_own p s f a ss l c = rw (blocked_own s f ss, gate_own p s f a ss l) (ap (λ (v : Verdict). if f.block_oversize && is_blocked s ss then verdict.Blocked else if is_above_max f.max_sdu c.sdu then verdict.Oversize else v) (by_answer_own p s f a ss l c (gate_answer p ss c f.gate)))

listed_own : (p : PolicePlans) (s : ℕ) (f : FilterPlan) (ss : List FilterStep) → AreListed p ss → AreListed p (own_steps s f ss)
listed_own p s f [] l = tt
listed_own p s f (x ∷ xs) l = by_bool (is_own_step s f x) (λ k. rw k (l.0, listed_own p s f xs l.1)) (λ k. rw k (listed_own p s f xs l.1))

came_own : (p : PolicePlans) (s : ℕ) (f : FilterPlan) → HasOwnInstances p s f → (c : FilterInput) (es : List FilterEvent) → filter_steps p (own_filter_events p s f es) ≡ own_steps s f (filter_steps p es) → (o : Option (ℕ × FilterPlan)) → frame_filter p.filters c ≡ o → filter_steps p (own_filter_events p s f (Arrived c ∷ es)) ≡ own_steps s f (filter_steps p (Arrived c ∷ es))
came_own p s f a c es ih None e = rw e ih
came_own p s f a c es ih (Some x) e = by_bool (nat_eq x.0 s)
    (λ k.
    let same : x.0 ≡ s = eqb-true x.0 s k in
    let there : IsMember x p.filters = flow_listed p.filters c x e in
    let plan : f ≡ x.1 = a.one x.1 (subst (λ (n : ℕ). IsMember (n, x.1) p.filters) same there) in
    let v : frame_verdict p (own_steps s f (filter_steps p es)) c s f ≡ frame_verdict p (filter_steps p es) c s f = verdict_own p s f a (filter_steps p es) (told_listed p es) c in
    let both : (n : ℕ) (g : FilterPlan) → n ≡ s → f ≡ g → frame_verdict p (own_steps s f (filter_steps p es)) c n g ≡ frame_verdict p (filter_steps p es) c n g = λ n g q r. rw (q, ← r) v in
    rw (e, k, ih, e, both x.0 x.1 same plan) refl)
    (λ k. rw (e, k) ih)

-- The results of a filter's own events are its own steps of all results.
pub told_own : (p : PolicePlans) (s : ℕ) (f : FilterPlan) → HasOwnInstances p s f → (es : List FilterEvent) → filter_steps p (own_filter_events p s f es) ≡ own_steps s f (filter_steps p es)
told_own p s f a [] = refl
told_own p s f a (Arrived c ∷ es) = came_own p s f a c es (told_own p s f a es) (frame_filter p.filters c) refl
told_own p s f a (Cleared c n ∷ es) = by_bool (is_own_command s f c n) (λ k. rw (k, told_own p s f a es) refl) (λ k. rw k (told_own p s f a es))
