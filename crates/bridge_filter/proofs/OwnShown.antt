-- Counters, flags and bucket levels of a filter depend only on its own steps.
use Rattle.std.proofs.Common.{◌≡◌, ℕ, List, [], ◌∷◌, refl, ap, ◌∙◌, sym, Option, Some, None, append-nil}
use Rattle.std.specs.Prelude.{nat_eq}
use Rattle.bridge_limits.proofs.Cases.{by_bool}
use Rattle.bridge_meter.specs.Colours as meter
use Rattle.bridge_filter.specs.declared.FilterPlan.{FilterPlan}
use Rattle.bridge_filter.specs.Verdicts.{PolicePlans, FilterStep, Unfiltered, Judged, Commanded}
use Rattle.bridge_filter.specs.Counts.{filter_verdicts, filter_flags, is_meter_red, filter_buckets}
use Rattle.bridge_filter.specs.OwnEvents.{HasOwnInstances, own_steps, is_own_command}
use Rattle.bridge_filter.proofs.Owned.{AreListed, gate_own, meter_own, blocked_own}

pub verdicts_own : (s : ℕ) (f : FilterPlan) (ss : List FilterStep) → filter_verdicts s (own_steps s f ss) ≡ filter_verdicts s ss
verdicts_own s f [] = refl
verdicts_own s f (Unfiltered c ∷ ss) = verdicts_own s f ss
verdicts_own s f (Judged c n g v ∷ ss) = by_bool (nat_eq n s) (λ k. rw (k, k, verdicts_own s f ss) refl) (λ k. rw k (verdicts_own s f ss ∙ sym (append-nil (filter_verdicts s ss))))
verdicts_own s f (Commanded c n ∷ ss) = by_bool (is_own_command s f c n) (λ k. rw k (verdicts_own s f ss)) (λ k. rw k (verdicts_own s f ss))

pub red_own : (p : PolicePlans) (s : ℕ) (f : FilterPlan) → HasOwnInstances p s f → (ss : List FilterStep) → AreListed p ss → (m : Option ℕ) → f.meter ≡ m → is_meter_red p m (own_steps s f ss) ≡ is_meter_red p m ss
red_own p s f a ss l None e = refl
red_own p s f a ss l (Some m) e = ap (λ (es : List meter.MeterEvent). (meter.meter_history (p.meters m) es).all_red) (meter_own p s m f a e ss l)

pub buckets_own : (p : PolicePlans) (s : ℕ) (f : FilterPlan) → HasOwnInstances p s f → (ss : List FilterStep) → AreListed p ss → (m : Option ℕ) → f.meter ≡ m → filter_buckets p m (own_steps s f ss) ≡ filter_buckets p m ss
buckets_own p s f a ss l None e = refl
buckets_own p s f a ss l (Some m) e = ap (λ (es : List meter.MeterEvent). Some (meter.history_buckets (p.meters m) (meter.meter_history (p.meters m) es))) (meter_own p s m f a e ss l)

pub flags_own : (p : PolicePlans) (s : ℕ) (f : FilterPlan) → HasOwnInstances p s f → (ss : List FilterStep) → AreListed p ss → filter_flags p s f (own_steps s f ss) ≡ filter_flags p s f ss
flags_own p s f a ss l = rw (blocked_own s f ss, gate_own p s f a ss l, red_own p s f a ss l f.meter refl) refl
