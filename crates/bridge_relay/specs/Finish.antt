-- Records of the filters that the relay returns when a run ends.
use Rattle.std.specs.Prelude.{◌≡◌, ℕ, Some, List, [], ◌∷◌, nat_eq}
use Rattle.std.specs.Map.{lookup}
use Rattle.bridge_filter.specs.declared.FilterPlan.{FilterPlan}
use Rattle.bridge_filter.specs.Counts.{filter_verdicts, verdict_counters, filter_flags, filter_buckets}
use Rattle.bridge_filter.specs.StandsFor as filter
use Rattle.bridge_filter.specs.Verdicts as verdicts
use Rattle.bridge_semantics.specs.declared.outcome.View.{View}
use Rattle.bridge_relay.specs.Recorders.{RecorderState}

-- Holds if record `v` has the lists and the delay of recorder `t`.
pub record ShowsRecord {A : Type 0} (t : RecorderState) (v : View A) : Type 0 where
  pub verdicts : v.verdicts.items ≡ t.verdicts
  pub origins : v.origins.items ≡ t.origins
  pub departures : v.departures.items ≡ t.departures
  pub drops : v.drops.items ≡ t.drops
  pub delay : v.delay ≡ t.delay

-- Holds if `v` is the record of filter `n`: counters, flags and buckets by the filter's state, the lists by its recorder.
pub record IsFilterShown {A : Type 0} (police : filter.PoliceState A) (tables : List (ℕ × RecorderState)) (n : ℕ) (f : FilterPlan) (v : View A) : Type 0 where
  pub protected : v.protected ≡ f.protected
  pub counters : (p : verdicts.PolicePlans) (es : List verdicts.FilterEvent) → filter.StandsFor p police es → v.counters ≡ verdict_counters (filter_verdicts n (verdicts.filter_steps p es))
  pub flags : (p : verdicts.PolicePlans) (es : List verdicts.FilterEvent) (g : FilterPlan) → filter.StandsFor p police es → lookup (nat_eq n) p.filters ≡ Some g → v.flags ≡ filter_flags p n g (verdicts.filter_steps p es)
  pub buckets : (p : verdicts.PolicePlans) (es : List verdicts.FilterEvent) (g : FilterPlan) → filter.StandsFor p police es → lookup (nat_eq n) p.filters ≡ Some g → v.buckets ≡ filter_buckets p g.meter (verdicts.filter_steps p es)
  pub told : (t : RecorderState) → lookup (nat_eq n) tables ≡ Some t → ShowsRecord t v

-- Holds if `ys` has the record of each filter in the list, in list order.
abbrev pub AreFiltersShown : {A : Type 0} → filter.PoliceState A → List (ℕ × RecorderState) → List (ℕ × FilterPlan) → List (ℕ × View A) → Type 0
AreFiltersShown police tables [] [] = Unit {0}
AreFiltersShown police tables [] (y ∷ ys) = ⊥
AreFiltersShown police tables (x ∷ xs) [] = ⊥
AreFiltersShown police tables (x ∷ xs) (y ∷ ys) = (y.0 ≡ x.0) × IsFilterShown police tables x.0 x.1 y.1 × AreFiltersShown police tables xs ys
