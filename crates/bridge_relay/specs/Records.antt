-- The record of a filter, moved out of its recorder.
use Rattle.std.specs.Prelude.{◌≡◌, ℕ, List, [], None, false, map}
use Rattle.bridge_filter.specs.declared.FilterPlan.{FilterPlan}
use Rattle.bridge_relay.specs.declared.filter_recorder.FilterRecord.{FilterRecord}
use Rattle.bridge_relay.specs.Recorders.{RecorderState}

-- The recorder of a filter before the first frame.
abbrev pub empty_recorder : RecorderState
empty_recorder = record { verdicts = []; origins = []; departures = []; drops = []; delay = None; owed = 0; is_open = false }

-- Holds if record `v` has the lists and the delay of recorder `t`.
pub record HasRecorded {A : Type 0} (t : RecorderState) (v : FilterRecord A) : Type 0 where
  pub verdicts : v.verdicts.items ≡ t.verdicts
  pub origins : v.origins.items ≡ t.origins
  pub departures : v.departures.items ≡ t.departures
  pub drops : v.drops.items ≡ t.drops
  pub delay : v.delay ≡ t.delay

-- A recorder before the first frame, for each filter.
abbrev pub empty_recorders : List (ℕ × FilterPlan) → List (ℕ × RecorderState)
empty_recorders filters = map (λ f. (f.0, empty_recorder)) filters
