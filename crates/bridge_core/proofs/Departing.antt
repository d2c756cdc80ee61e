-- Starts that are made and written, one after the other.
use Rattle.std.proofs.Common.{◌≡◌, ℕ, ◌+◌, ◌<◌, ◌≤◌, max, List, Option, Some, None, Err, inl, inr, refl, sym, ◌∙◌, subst, arith, IfSome}
use Rattle.std.proofs.lemmas.Option.{same_Some, none-some}
use Rattle.bridge_capture.specs.Grammar.{CapturedFrame}
use Rattle.bridge_capture.specs.declared.fault.RunFault.{RunFault}
use Rattle.bridge_capture.specs.declared.fault.RunFault.TheVariants as run
use Rattle.bridge_events.specs.Least.{IsLeast}
use Rattle.bridge_config.specs.Model.{Plan}
use Rattle.bridge_semantics.specs.Events.{Event}
use Rattle.bridge_relay.specs.Ports.{HasLaterStarts, StartsNoEarlier}
use Rattle.bridge_relay.specs.RelayState.{RelayState}
use Rattle.bridge_core.specs.CaptureWriters.{AreWrittenExceptOne, SendsDueFrames, MakesStart, WritesFrame}

-- Two least times of an agenda are equal.
pub least_same : (held : ℕ → Option ℕ) (q k r l : ℕ) → IsLeast held (Some (q, k)) → IsLeast held (Some (r, l)) → k ≡ l
least_same held q k r l a b = elim (a.1 r l b.0) [
  | inl less ↦ elim (b.1 q k a.0) [ inl more ↦ absurd (omega arith) | inr same ↦ sym same.0 ]
  | inr same ↦ same.0
]

-- After a start, every due time is at or after an earlier lower bound.
pub after_start : (held : ℕ → Option ℕ) (p t h : ℕ) → HasLaterStarts held p t → h ≤ t → StartsNoEarlier held h
after_start held p t h after low q k is = elim (after q k is) [ inl less ↦ omega (arith, less, low) | inr same ↦ let e = same.0 in omega (arith, e, low) ]

-- The least due time is at or after a lower bound of all due times.
pub from_on : (held : ℕ → Option ℕ) (q k h : ℕ) → IsLeast held (Some (q, k)) → StartsNoEarlier held h → h ≤ k
from_on held q k h least waits = waits q k least.0

-- No due time is before the least one.
pub none_before : (held : ℕ → Option ℕ) (q k t : ℕ) → IsLeast held (Some (q, k)) → t ≤ k → StartsNoEarlier held t
none_before held q k t least after r u is = elim (least.1 r u is) [ inl less ↦ omega arith | inr same ↦ let e = same.0 in omega arith ]

-- A property of a time that is present.
if_some : (until : Option ℕ) (P : ℕ → Type 0) (t : ℕ) → until ≡ Some t → P t → IfSome until P
if_some until P t is p = subst (λ o. IfSome o P) (sym is) p

-- No due time is before the time up to which starts were made.
pub waits_there : (held : ℕ → Option ℕ) (until : Option ℕ) (q k t : ℕ) → until ≡ Some t → IsLeast held (Some (q, k)) → t ≤ k → IfSome until (StartsNoEarlier held)
waits_there held until q k t is least after = if_some until (StartsNoEarlier held) t is (none_before held q k t least after)

-- After a start before `until`, the earliest time of the next frame is at most `until`.
pub early_next : (until : Option ℕ) (old new start : ℕ) → IfSome until (λ t. old ≤ t) → ((t : ℕ) → until ≡ Some t → start < t) → new ≡ max old (start + 1) → IfSome until (λ t. new ≤ t)
early_next None old new start early sooner is = tt
early_next (Some t) old new start early sooner is = let less = sooner t refl in omega arith

-- The limit of time is missing.
pub none_then : (now until : Option ℕ) (t : ℕ) → now ≡ until → until ≡ Some t → now ≡ None → ⊥
none_then now until t same is none = none-some t (sym none ∙ (same ∙ is))

-- The next start is before the limit.
pub sooner : (held : ℕ → Option ℕ) (until : Option ℕ) (q k r l t u : ℕ) → IsLeast held (Some (q, k)) → IsLeast held (Some (r, l)) → until ≡ Some u → k < u → until ≡ Some t → l < t
sooner held until q k r l t u due start at less is =
    let same = least_same held q k r l due start in
    let moment = same_Some u t (sym at ∙ is) in
    omega arith

-- The limit bounds every start.
before_all : (until : Option ℕ) (start : ℕ) → ((t : ℕ) → until ≡ Some t → start < t) → IfSome until (λ t. start < t)
before_all None start h = tt
before_all (Some t) start h = h t refl

-- The sink failed.
pub departs_stop : {G A W : Type 0} (contents : W → Option (List ℕ)) (p : Plan A) (es : List Event) (from : ℕ) (until : Option ℕ) (b : RelayState G A) (port moment : ℕ) (ports : List ℕ) (olds news : List W) (left : ℕ → List CapturedFrame) (fault : RunFault) → from ≤ moment → ((t : ℕ) → until ≡ Some t → moment < t) → MakesStart p es moment port left → WritesFrame contents port ports olds news left (Err fault) → SendsDueFrames contents p es from until b ports olds news (Err fault)
departs_stop contents p es from until b port moment ports olds news left (run.Write q) late before makes w = record {
  left = left;
  moment = moment;
  late = late;
  early = before_all until moment before;
  makes = subst (λ z. MakesStart p es moment z left) (sym w.0) makes;
  written = subst (λ z. AreWrittenExceptOne contents z ports olds news left) (sym w.0) w.1;
}
departs_stop contents p es from until b port moment ports olds news left run.NoMemory late before makes w = absurd w
departs_stop contents p es from until b port moment ports olds news left (run.Capture q fault) late before makes w = absurd w
