-- A policed frame that was offered or refused.
use Rattle.std.proofs.Common.{◌≡◌, ℕ, Bool, true, false, ◌+◌, ◌≤◌, ◌<◌, List, [], ◌∷◌, length, length-set, arith, refl, ap, ◌∙◌, sym, subst, Option, Some, None}
use Rattle.std.specs.Prelude.{All, nat_eq, not, IfSome, unwrap_or, slice_index}
use Rattle.std.specs.Map.{lookup}
use Rattle.bridge_limits.proofs.Cases.{by_bool}
use Rattle.bridge_capture.specs.Grammar.{CapturedFrame}
use Rattle.bridge_frame.specs.Frames.{has_tag, drop_eligible_octet}
use Rattle.bridge_filter.specs.declared.FilterInput.{FilterInput}
use Rattle.bridge_filter.specs.declared.FilterPlan.{FilterPlan}
use Rattle.bridge_filter.specs.declared.Ruling.{Ruling}
use Rattle.bridge_filter.specs.declared.Verdict.{Verdict}
use Rattle.bridge_filter.specs.declared.Verdict.TheVariants as verdict
use Rattle.bridge_filter.specs.Plans.{is_listed}
use Rattle.bridge_filter.specs.Verdicts as verdicts
use Rattle.bridge_config.specs.declared.ports.PortPlan.{PortPlan}
use Rattle.bridge_config.specs.Model.{Plan}
use Rattle.bridge_config.specs.Rules.{IsPort}
use Rattle.bridge_semantics.specs.declared.outcome.Origin.{Origin}
use Rattle.bridge_semantics.specs.Events.{Arrival, Event, Arrived, count_filter_frames, plan_police, police_steps}
use Rattle.bridge_semantics.specs.Offers.{CarriedFrame, Offer, port_offers, step_offer, leaving_octets, frame_step}
use Rattle.bridge_relay.specs.declared.port_state.PortState.{PortState}
use Rattle.bridge_relay.specs.Recorders.{RecorderState}
use Rattle.bridge_relay.specs.Ports.{port_state, count_outputs, StartsNoEarlier}
use Rattle.bridge_relay.specs.RelayState.{RelayState, IsSound, OwesSpareCopies, RelayStandsFor, is_filter_unknown}
use Rattle.bridge_relay.specs.RelayedFrames.{CarriesOffers, HasPoliced, HasUncountedFrame, HasSequence, IsOfferingSet, AwaitsCopies, CanRelay, priority_offer, offers_to_set, relay_before_frame, relay_with_release}
use Rattle.bridge_relay.proofs.Relayed.{offering_start, offering_done, passed_offers, kept_offers, own_count, port_is}
use Rattle.bridge_relay.proofs.Policed.{IsPoliced, carries_ruled, judged_step, stands_policed, unfiltered_step}
use Rattle.bridge_relay.proofs.Spares.{after_offering, after_released, carries_released, may_relay_ruled, outs_ruled}

pub numbered_none : (tables : List (ℕ × RecorderState)) (r : Option Ruling) → HasSequence tables r None → r ≡ None
numbered_none tables None n = refl
numbered_none tables (Some r) n = absurd n

pub numbered_some : (tables : List (ℕ × RecorderState)) (r : Option Ruling) (j : Ruling × ℕ) → HasSequence tables r (Some j) → (r ≡ Some j.0) × ((t : RecorderState) → lookup (nat_eq j.0.filter) tables ≡ Some t → j.1 ≡ length t.verdicts + 1)
numbered_some tables None j n = absurd n
numbered_some tables (Some r) j n = (ap Some (sym n.0), λ t e. n.1 t (subst (λ (x : Ruling). lookup (nat_eq x.filter) tables ≡ Some t) n.0 e))

pub stray_not : (fs : List (ℕ × FilterPlan)) (o : Option ℕ) → IfSome o (λ n. is_listed n fs ≡ true) → is_filter_unknown fs o ≡ false
stray_not fs None h = refl
stray_not fs (Some n) h = ap not h

-- A policed frame can be offered to its egress ports.
pub may_offer : {G A : Type 0} (held : G → ℕ → Option ℕ) (old new : RelayState G A) (q : ℕ) (s : PortState A) (c : FilterInput) (r : Option Ruling) (set priority : ℕ) (x : CarriedFrame) → IsSound held old → IsSound held new → HasUncountedFrame old → HasPoliced old new q s c r → port_state old.ports q ≡ Some s → 1 ≤ q → is_filter_unknown old.plan.filters x.flow ≡ false → x.len ≤ 9216 → length x.octets ≤ x.len → x.at < 4000000000000000000 → c.at ≡ x.at → StartsNoEarlier (held old.ports.agenda) x.at → IfSome x.flow (AwaitsCopies new (count_outputs old.ports.slots set 16) x.own 1) → CanRelay new x × IsOfferingSet held new new set priority x 1
may_offer {G} {A} held old new q s c r set priority x sound sound_new fresh h there low right short within range at due pending =
    let time = h.earliest in (
      may_relay_ruled held old new q s c r x sound fresh h there low right short within range,
      offering_start held new set priority x sound_new (subst (λ (g : G). StartsNoEarlier (held g) x.at) (sym h.agenda) due) (omega (arith, time, at))
          (subst (λ (n : ℕ). IfSome x.flow (AwaitsCopies new n x.own 1)) (sym (outs_ruled old new q s c r set 16 h there low)) pending),
    )

-- The relay stands for the events and one more frame, which was offered.
pub stands_offered : {G A : Type 0} (held : G → ℕ → Option ℕ) (p : Plan A) (es : List Event) (left : ℕ → List CapturedFrame) (a : Arrival) (old ruled last : RelayState G A) (s : PortState A) (set : ℕ) (call : FilterInput) (r : Option Ruling) (k : ℕ) (x : CarriedFrame) → IsSound held old → RelayStandsFor p (relay_before_frame old) es left → IsPoliced p es a set call r → HasPoliced old ruled a.port s call r → port_state old.ports a.port ≡ Some s → 1 ≤ a.port → 1 ≤ old.arrived → IsOfferingSet held ruled last set k x 17 → ((out : PortPlan A) → step_offer p out a es call.priority (frame_step p es call) ≡ priority_offer out k x ∷ []) → RelayStandsFor p last (Arrived a ∷ es) left
stands_offered {G} {A} held p es left a old ruled last s set call r k x sound st po h there low came off is =
    let plan : ruled.plan ≡ p = h.plan ∙ st.plan in
    let os : ℕ → PortPlan A → List Offer = λ q out. port_offers p out es in
    let carried = carries_ruled p old ruled a.port s call r es left h there low st in
    let done : CarriesOffers p last (offers_to_set set k x os) left = subst (λ (v : Plan A). CarriesOffers v last (offers_to_set set k x os) left) plan (offering_done held ruled last set k x off os left (subst (λ (v : Plan A). CarriesOffers v ruled os left) (sym plan) carried)) in
    stands_policed p es left a old ruled last s set call r (offers_to_set set k x os) st po h there low came (after_offering held ruled last set k x 17 off) done
    (λ q out e. passed_offers p out q a es set call (frame_step p es call) k x po.way (port_is p.ports q out (subst (λ (v : Plan A). All IsPort v.ports) st.plan sound.rules.ports.each) e).1 refl (is out))

-- The relay stands for the events and one more frame, which its filter refused.
pub stands_let_go : {G A : Type 0} (held : G → ℕ → Option ℕ) (p : Plan A) (es : List Event) (left : ℕ → List CapturedFrame) (a : Arrival) (old ruled : RelayState G A) (s : PortState A) (set : ℕ) (call : FilterInput) (r : Option Ruling) (n k : ℕ) → IsSound held old → RelayStandsFor p (relay_before_frame old) es left → IsPoliced p es a set call r → HasPoliced old ruled a.port s call r → port_state old.ports a.port ≡ Some s → 1 ≤ a.port → 1 ≤ old.arrived → ((out : PortPlan A) → step_offer p out a es call.priority (frame_step p es call) ≡ []) → RelayStandsFor p (relay_with_release ruled n k) (Arrived a ∷ es) left
stands_let_go {G} {A} held p es left a old ruled s set call r n k sound st po h there low came is =
    let os : ℕ → PortPlan A → List Offer = λ q out. port_offers p out es in
    let carried = carries_ruled p old ruled a.port s call r es left h there low st in
    stands_policed p es left a old ruled (relay_with_release ruled n k) s set call r os st po h there low came (after_released ruled n k) (carries_released p ruled n k os left carried)
    (λ q out e. kept_offers p out q a es set call (frame_step p es call) po.way (port_is p.ports q out (subst (λ (v : Plan A). All IsPort v.ports) st.plan sound.rules.ports.each) e).1 refl (is out))

-- The offers of a frame by its verdict.
pub offers_unfiltered : {A : Type 0} (p : Plan A) (out : PortPlan A) (a : Arrival) (es : List Event) (set : ℕ) (call : FilterInput) → IsPoliced p es a set call None → step_offer p out a es call.priority (frame_step p es call) ≡ priority_offer out call.priority (record { at = a.at; flow = None; own = 0; len = a.len; octets = leaving_octets false a.octets }) ∷ []
offers_unfiltered p out a es set call po = ap (step_offer p out a es call.priority) (unfiltered_step (plan_police p) (police_steps p es) call (verdicts.frame_filter p.filters call) po.answer)

pub offers_passed : {A : Type 0} (p : Plan A) (out : PortPlan A) (a : Arrival) (es : List Event) (set : ℕ) (call : FilterInput) (n own : ℕ) (ipv : Option ℕ) (eligible : Bool) → IsPoliced p es a set call (Some (record { filter = n; verdict = verdict.Pass ipv eligible })) → own ≡ count_filter_frames p n es + 1 → step_offer p out a es call.priority (frame_step p es call) ≡ priority_offer out (unwrap_or ipv call.priority) (record { at = a.at; flow = Some n; own = own; len = a.len; octets = leaving_octets eligible a.octets }) ∷ []
offers_passed p out a es set call n own ipv eligible po is =
    let s = judged_step (plan_police p) (police_steps p es) call (verdicts.frame_filter p.filters call) (record { filter = n; verdict = verdict.Pass ipv eligible }) po.answer in
    ap (step_offer p out a es call.priority) s.1 ∙ ap (λ (m : ℕ). priority_offer out (unwrap_or ipv call.priority) (record { at = a.at; flow = Some n; own = m; len = a.len; octets = leaving_octets eligible a.octets }) ∷ []) (sym is)

abbrev pub IsRefused : Verdict → Type 0
IsRefused (verdict.Pass ipv eligible) = ⊥
IsRefused v = Unit {0}

offers_none_by : {A : Type 0} (p : Plan A) (out : PortPlan A) (a : Arrival) (es : List Event) (priority : ℕ) (c : FilterInput) (n : ℕ) (f : FilterPlan) (v : Verdict) → IsRefused v → step_offer p out a es priority (verdicts.Judged c n f v) ≡ []
offers_none_by p out a es priority c n f verdict.Blocked h = refl
offers_none_by p out a es priority c n f verdict.Oversize h = refl
offers_none_by p out a es priority c n f verdict.GateClosed h = refl
offers_none_by p out a es priority c n f verdict.ShutByRx h = refl
offers_none_by p out a es priority c n f verdict.ShutByOctets h = refl
offers_none_by p out a es priority c n f verdict.OctetsExceeded h = refl
offers_none_by p out a es priority c n f verdict.Red h = refl
offers_none_by p out a es priority c n f verdict.YellowDropped h = refl
offers_none_by p out a es priority c n f (verdict.Pass ipv eligible) h = absurd h

pub offers_refused : {A : Type 0} (p : Plan A) (out : PortPlan A) (a : Arrival) (es : List Event) (set : ℕ) (call : FilterInput) (r : Ruling) → IsRefused r.verdict → IsPoliced p es a set call (Some r) → step_offer p out a es call.priority (frame_step p es call) ≡ []
offers_refused p out a es set call r none po =
    let s = judged_step (plan_police p) (police_steps p es) call (verdicts.frame_filter p.filters call) r po.answer in
    ap (step_offer p out a es call.priority) s.1 ∙ offers_none_by p out a es call.priority call r.filter s.0 r.verdict none

-- The frame's number among the frames of its filter.
pub own_is : {G A : Type 0} (p : Plan A) (b : RelayState G A) (es : List Event) (left : ℕ → List CapturedFrame) (n own : ℕ) (k : ℕ) → RelayStandsFor p (relay_before_frame b) es left → OwesSpareCopies b k n → ((t : RecorderState) → lookup (nat_eq n) b.tables ≡ Some t → own ≡ length t.verdicts + 1) → own ≡ count_filter_frames p n es + 1
own_is p b es left n own k st spare numbered =
    let z = numbered spare.0 spare.1 in
    let v = ap (λ (z : List Verdict × List Origin). length z.0) (st.verdicts n spare.0 spare.1) ∙ own_count p n es in
    omega (arith, z, v)

pub refused_by : (v : Verdict) → ((ipv : Option ℕ) (eligible : Bool) → v ≡ verdict.Pass ipv eligible → ⊥) → IsRefused v
refused_by verdict.Blocked h = tt
refused_by verdict.Oversize h = tt
refused_by verdict.GateClosed h = tt
refused_by verdict.ShutByRx h = tt
refused_by verdict.ShutByOctets h = tt
refused_by verdict.OctetsExceeded h = tt
refused_by verdict.Red h = tt
refused_by verdict.YellowDropped h = tt
refused_by (verdict.Pass ipv eligible) h = h ipv eligible refl

-- A frame leaves with as many octets as arrived.
pub leaving_length : (b : Bool) (octets : List ℕ) → length (leaving_octets b octets) ≡ length octets
leaving_length false octets = refl
leaving_length true octets = by_bool (has_tag octets)
    (λ k. rw k (length-set octets 14 (drop_eligible_octet (slice_index octets 14))))
    (λ k. rw k refl)
