-- Frames that a filter passes are no longer than its largest service data unit allows.
use Rattle.std.proofs.Common.{◌≡◌, ◌+◌, ◌-◌, ◌≤◌, ℕ, Bool, true, false, List, [], ◌∷◌, length, refl, ap, ◌∙◌, sym, subst, inl, inr, Option, Some, None, Result, Ok, Err, arith, cond}
use Rattle.std.specs.Prelude.{nat_lt}
use Rattle.std.proofs.lemmas.Option.{same_Some}
use Rattle.std.proofs.lemmas.Bool.{ltb-false}
use Rattle.bridge_limits.specs.Members.{IsMember}
use Rattle.bridge_limits.specs.declared.TheConstants.{LONGEST_FRAME}
use Rattle.bridge_limits.proofs.Members.{in_either}
use Rattle.bridge_limits.proofs.Cases.{by_bool}
use Rattle.bridge_frame.specs.declared.Head.{Head}
use Rattle.bridge_frame.specs.declared.FrameFault.{FrameFault}
use Rattle.bridge_frame.specs.declared.FrameFault.TheVariants.{TooShort, TooLong}
use Rattle.bridge_frame.specs.declared.Speed.{Speed}
use Rattle.bridge_frame.specs.declared.Speed.TheVariants.{Mbps10, Mbps100, Mbps1000, Mbps2500, Mbps10000}
use Rattle.bridge_frame.specs.Frames.{parsed_head, head_octets, is_tagged, sdu_octets}
use Rattle.bridge_frame.specs.Link.{transmission_time}
use Rattle.bridge_forward.specs.Ports.{has_port}
use Rattle.bridge_filter.specs.declared.FilterInput.{FilterInput}
use Rattle.bridge_filter.specs.declared.FilterPlan.{FilterPlan}
use Rattle.bridge_filter.specs.declared.Verdict.{Verdict}
use Rattle.bridge_filter.specs.declared.Verdict.TheVariants as verdict
use Rattle.bridge_filter.specs.Verdicts as verdicts
use Rattle.bridge_filter.specs.Verdicts.{is_above_max}
use Rattle.bridge_filter.proofs.Members.{one_number}
use Rattle.bridge_filter.proofs.Owned.{flow_listed}
use Rattle.bridge_config.specs.declared.ports.PortPlan.{PortPlan}
use Rattle.bridge_config.specs.Model.{Plan}
use Rattle.bridge_config.specs.Rules.{IsPlan}
use Rattle.bridge_check.specs.Windows.{longest_frame}
use Rattle.bridge_semantics.specs.declared.destination.Destination.{Destination}
use Rattle.bridge_semantics.specs.declared.destination.Destination.TheVariants.{Malformed, Nowhere, Forwarded}
use Rattle.bridge_semantics.specs.Events.{Arrival, Event, Arrived, Cleared, frame_destination, plan_police, police_steps, count_filter_frames}
use Rattle.bridge_semantics.specs.Offers.{Offer, verdict_offer, step_offer, destination_offer, arrival_offer, port_offers}
use Rattle.bridge_semantics.proofs.Offering.{going}

-- THE TRANSMISSION TIME

-- A longer frame has no shorter transmission time.
pub occupied_rises : (a b : ℕ) (speed : Speed) → a ≤ b → transmission_time a speed ≤ transmission_time b speed
unfolding transmission_time
occupied_rises a b Mbps10 h = omega arith
occupied_rises a b Mbps100 h = omega arith
occupied_rises a b Mbps1000 h = omega arith
occupied_rises a b Mbps2500 h = omega arith
occupied_rises a b Mbps10000 h = omega arith

-- THE LENGTH OF A FRAME

abbrev sdu_of : Result Head FrameFault → ℕ
sdu_of (Ok h) = h.sdu
sdu_of (Err e) = 0

by_tag : (b : Bool) (len : ℕ) → len ≤ cond b (len - 16) (len - 12) + 16
by_tag true len = omega arith
by_tag false len = omega arith

-- Properties of a frame whose head was parsed.
pub record IsRead (octets : List ℕ) (len : ℕ) (h : Head) : Type 0 where
  pub whole : head_octets octets ≤ length octets
  pub short : len ≤ LONGEST_FRAME
  pub sdu : sdu_octets octets len ≡ h.sdu

pub head_read : (octets : List ℕ) (len : ℕ) (h : Head) → parsed_head octets len ≡ Ok h → IsRead octets len h
head_read octets len h e = by_bool (nat_lt (length octets) 14)
    (λ k. let z : Err TooShort ≡ Ok h = rw k at e in absurd (cc))
    (λ k. by_bool (nat_lt (length octets) (head_octets octets))
    (λ m. let z : Err TooShort ≡ Ok h = rw (k, m) at e in absurd (cc))
    (λ m. by_bool (nat_lt LONGEST_FRAME len)
    (λ n. let z : Err TooLong ≡ Ok h = rw (k, m, n) at e in absurd (cc))
    (λ n. record {
      whole = ltb-false (length octets) (head_octets octets) m;
      short = ltb-false LONGEST_FRAME len n;
      sdu = ap sdu_of (rw (k, m, n) at e);
    })))

-- A parsed frame is no longer than its service data unit with addresses and a tag.
head_len : (octets : List ℕ) (len : ℕ) (h : Head) → parsed_head octets len ≡ Ok h → len ≤ longest_frame h.sdu
head_len octets len h e =
    let read = head_read octets len h e in
    let is = read.sdu in
    let short = read.short in
    let tag = by_tag (is_tagged octets) len in
    omega (arith, is, short, tag)

longest_rises : (a b : ℕ) → a ≤ b → longest_frame a ≤ longest_frame b
longest_rises a b h = omega (arith, h)

-- THE FRAMES OF A FILTER

-- A frame that passes isn't oversize.
not_above : (a b : Bool) (v : Verdict) (ipv : Option ℕ) (eligible : Bool) → cond a verdict.Blocked (cond b verdict.Oversize v) ≡ verdict.Pass ipv eligible → b ≡ false
not_above true b v ipv eligible h = absurd (cc)
not_above false true v ipv eligible h = absurd (cc)
not_above false false v ipv eligible h = refl

-- The offer of a passed frame has the frame's length.
record IsSent (a : Arrival) (n : ℕ) (v : Verdict) (o : Offer) : Type 0 where
  len : o.item.len ≡ a.len
  flow : o.item.flow ≡ Some n
  ipv : Option ℕ
  eligible : Bool
  verdict : v ≡ verdict.Pass ipv eligible

sent_by : {A : Type 0} (out : PortPlan A) (a : Arrival) (priority n number : ℕ) (v : Verdict) (o : Offer) → IsMember o (verdict_offer out a priority n number v) → IsSent a n v o
sent_by out a priority n number (verdict.Pass ipv e) o (inl same) = record { len = ap (λ z. z.item.len) same; flow = ap (λ z. z.item.flow) same; ipv = ipv; eligible = e; verdict = refl }
sent_by out a priority n number (verdict.Pass ipv e) o (inr i) = absurd i
sent_by out a priority n number verdict.Blocked o i = absurd i
sent_by out a priority n number verdict.Oversize o i = absurd i
sent_by out a priority n number verdict.GateClosed o i = absurd i
sent_by out a priority n number verdict.ShutByRx o i = absurd i
sent_by out a priority n number verdict.ShutByOctets o i = absurd i
sent_by out a priority n number verdict.OctetsExceeded o i = absurd i
sent_by out a priority n number verdict.Red o i = absurd i
sent_by out a priority n number verdict.YellowDropped o i = absurd i

-- The offer has the frame's length, and the frame's service data unit is at most the largest.
record IsWithin (a : Arrival) (sdu m : ℕ) (o : Offer) : Type 0 where
  len : o.item.len ≡ a.len
  few : sdu ≤ m

within_by : {A : Type 0} (p : Plan A) (n m : ℕ) (f : FilterPlan) (out : PortPlan A) (a : Arrival) (es : List Event) (priority : ℕ) (c : FilterInput) (o : Offer) (x : Option (ℕ × FilterPlan)) → IsPlan p → IsMember (n, f) p.filters → f.max_sdu ≡ Some m → o.item.flow ≡ Some n → verdicts.frame_filter p.filters c ≡ x → IsMember o (step_offer p out a es priority (verdicts.input_step (plan_police p) (police_steps p es) c x)) → IsWithin a c.sdu m o
within_by p n m f out a es priority c o None plan listed size flow fl (inl same) = let none : o.item.flow ≡ None = ap (λ z. z.item.flow) same in absurd (cc)
within_by p n m f out a es priority c o None plan listed size flow fl (inr i) = absurd i
within_by p n m f out a es priority c o (Some x) plan listed size flow fl i =
    let s = sent_by out a priority x.0 (count_filter_frames p x.0 es + 1) (verdicts.frame_verdict (plan_police p) (police_steps p es) c x.0 x.1) o i in
    let number : x.0 ≡ n = same_Some x.0 n (sym s.flow ∙ flow) in
    let there : IsMember x p.filters = flow_listed p.filters c x fl in
    let same : f ≡ x.1 = one_number p.filters n f x.1 plan.filters.own listed (subst (λ (k : ℕ). IsMember (k, x.1) p.filters) number there) in
    let above : is_above_max x.1.max_sdu c.sdu ≡ false = not_above _ _ _ s.ipv s.eligible s.verdict in
    let own : nat_lt m c.sdu ≡ false = subst (λ (z : Option ℕ). is_above_max z c.sdu ≡ false) size (subst (λ (g : FilterPlan). is_above_max g.max_sdu c.sdu ≡ false) (sym same) above) in
    record { len = s.len; few = ltb-false m c.sdu own }

within_way : {A : Type 0} (p : Plan A) (n m : ℕ) (f : FilterPlan) (out : PortPlan A) (a : Arrival) (es : List Event) (o : Offer) (w : Destination) → IsPlan p → IsMember (n, f) p.filters → f.max_sdu ≡ Some m → o.item.flow ≡ Some n → frame_destination p a ≡ w → IsMember o (destination_offer p out a es w) → o.item.len ≤ longest_frame m
within_way p n m f out a es o Malformed plan listed size flow w i = absurd i
within_way p n m f out a es o Nowhere plan listed size flow w i = absurd i
within_way {A} p n m f out a es o (Forwarded set made) plan listed size flow w i = by_bool (has_port set out.number)
    (λ k.
    let j : IsMember o (step_offer p out a es made.priority (verdicts.input_step (plan_police p) (police_steps p es) made (verdicts.frame_filter p.filters made))) = rw k at i in
    let within = within_by p n m f out a es made.priority made o (verdicts.frame_filter p.filters made) plan listed size flow refl j in
    let g = going p a set made w in
    let short = head_len a.octets a.len g.parsed g.is in
    let more = longest_rises made.sdu m within.few in
    let own : a.len ≤ longest_frame made.sdu = subst (λ (z : FilterInput). a.len ≤ longest_frame z.sdu) g.call_is short in
    subst (λ (z : ℕ). z ≤ longest_frame m) (sym within.len) (le-trans a.len (longest_frame made.sdu) (longest_frame m) own more))
    (λ k. let j : ⊥ = rw k at i in absurd j)
  where
    le-trans : (x y z : ℕ) → x ≤ y → y ≤ z → x ≤ z
    le-trans x y z h k = omega (arith, h, k)

-- Each frame of a filter at a port is no longer than the filter's longest frame.
pub within_size : {A : Type 0} (p : Plan A) (n m : ℕ) (f : FilterPlan) (out : PortPlan A) (es : List Event) (o : Offer) → IsPlan p → IsMember (n, f) p.filters → f.max_sdu ≡ Some m → o.item.flow ≡ Some n → IsMember o (port_offers p out es) → o.item.len ≤ longest_frame m
within_size p n m f out [] o plan listed size flow i = absurd i
within_size p n m f out (Cleared clear k ∷ es) o plan listed size flow i = within_size p n m f out es o plan listed size flow i
within_size p n m f out (Arrived a ∷ es) o plan listed size flow i = elim (in_either o (arrival_offer p out a es) (port_offers p out es) i) [
  | inl now ↦ within_way p n m f out a es o (frame_destination p a) plan listed size flow refl now
  | inr later ↦ within_size p n m f out es o plan listed size flow later
]
