-- Curves of the work and of the frames that meters let pass.
use Rattle.std.proofs.Common.{◌≡◌, ◌<◌, ◌≤◌, ◌+◌, ℕ, true, ◌&&◌, nat_eq, nat_le, List, [], ◌∷◌, ◌++◌, length, drop, get_or, refl, arith}
use Rattle.std.specs.Map.{lookup}
use Rattle.std.proofs.lemmas.Bool.{and_parts}
use Rattle.std.proofs.lemmas.Bool.Decides.{nat_tests}
use Rattle.std.proofs.lemmas.List.{at_drop_more}
use Rattle.bridge_limits.proofs.Cases.{by_bool}
use Rattle.bridge_meter.specs.declared.MeterPlan.{MeterPlan}
use Rattle.bridge_meter.specs.declared.TheConstants.{HIGHEST_RATE, LARGEST_BURST}
use Rattle.bridge_meter.specs.Colours.{is_within_limits}
use Rattle.bridge_filter.specs.declared.FilterPlan.{FilterPlan}
use Rattle.bridge_filter.specs.Plans.{all_within_limits, meter_or_empty}
use Rattle.bridge_config.specs.Model.{Plan}
use Rattle.bridge_config.specs.Rules.{IsPlan}
use Rattle.bridge_groups.specs.declared.linear_curve.LinearCurve.{LinearCurve}
use Rattle.bridge_groups.specs.LinearCurves.{count_at, curve_at}
use Rattle.bridge_groups.specs.Curves.{sharers_frame_limit}
use Rattle.bridge_groups.specs.Sharers.{IsFilterCountCurve}

-- Each meter has at most 2^32 - 1 octets in a bucket, and a rate of at most 10^11 bit/s.
pub record IsSmallMeter (m : MeterPlan) : Type 0 where
  pub cir : m.cir ≤ 100000000000
  pub cbs : m.cbs ≤ 4294967295
  pub eir : m.eir ≤ 100000000000
  pub ebs : m.ebs ≤ 4294967295

at_most : (a b : ℕ) → nat_le a b ≡ true → a ≤ b
at_most a b h = grind (arith, nat_tests)

small : (m : MeterPlan) → is_within_limits m ≡ true → IsSmallMeter m
small m h =
    let (first, ebs) = and_parts (nat_le m.cir HIGHEST_RATE && nat_le m.eir HIGHEST_RATE && nat_le m.cbs LARGEST_BURST) (nat_le m.ebs LARGEST_BURST) h in
    let (rates, cbs) = and_parts (nat_le m.cir HIGHEST_RATE && nat_le m.eir HIGHEST_RATE) (nat_le m.cbs LARGEST_BURST) first in
    let (cir, eir) = and_parts (nat_le m.cir HIGHEST_RATE) (nat_le m.eir HIGHEST_RATE) rates in
    record { cir = at_most m.cir HIGHEST_RATE cir; cbs = at_most m.cbs LARGEST_BURST cbs; eir = at_most m.eir HIGHEST_RATE eir; ebs = at_most m.ebs LARGEST_BURST ebs }

found_within : (ms : List (ℕ × MeterPlan)) (n : ℕ) → all_within_limits ms ≡ true → is_within_limits (meter_or_empty (lookup (nat_eq n) ms)) ≡ true
found_within [] n h = refl
found_within (m ∷ ms) n h =
    let (here, rest) = and_parts (is_within_limits m.1) (all_within_limits ms) h in
    by_bool (nat_eq n m.0) (λ e. rw e here) (λ e. rw e (found_within ms n rest))

-- Each meter of a plan is small.
pub small_meter : {A : Type 0} (p : Plan A) (n : ℕ) → IsPlan p → IsSmallMeter (meter_or_empty (lookup (nat_eq n) p.meters))
small_meter p n plan = small (meter_or_empty (lookup (nat_eq n) p.meters)) (found_within p.meters n plan.meters.limits)

-- One curve more adds its frames.
pub count_more : (cs : List LinearCurve) (c : LinearCurve) (w : ℕ) → count_at (cs ++ c ∷ []) w ≡ count_at cs w + curve_at c w
count_more [] c w = omega arith
count_more (d ∷ ds) c w = let rest = count_more ds c w in omega (arith, rest)

-- The frames of the filters from index `k` on: those of this filter, and those of the later filters.
pub limit_more : {A : Type 0} (p : Plan A) (fs : List (ℕ × FilterPlan)) (k w : ℕ) (f : ℕ × FilterPlan) (cs : List LinearCurve) (c : LinearCurve) → k < length fs → IsFilterCountCurve p (get_or fs k f).1.meter c → count_at cs w + sharers_frame_limit p (drop k fs) w ≡ sharers_frame_limit p fs w → count_at (cs ++ c ∷ []) w + sharers_frame_limit p (drop (k + 1) fs) w ≡ sharers_frame_limit p fs w
limit_more p fs k w f cs c inside is kept =
    let step : sharers_frame_limit p (drop k fs) w ≡ sharers_frame_limit p (get_or fs k f ∷ drop (k + 1) fs) w = at_drop_more (λ xs. sharers_frame_limit p xs w) fs k f inside in
    let value = is.value w in
    let more = count_more cs c w in
    omega (arith, step, value, more, kept)
