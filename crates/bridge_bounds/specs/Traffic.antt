-- Frames that arrive at most once in each period.
use Rattle.std.specs.Prelude.{ℕ, ◌+◌, ◌<◌, ◌≤◌, List, [], ◌∷◌}
use Rattle.bridge_limits.specs.declared.TheConstants.{END_OF_TIME, LONGEST_FRAME}
use Rattle.bridge_semantics.specs.Events.{Arrived, Cleared, Event}
use Rattle.bridge_bounds.specs.Latency.{IsMultiple}
use Rattle.bridge_bounds.specs.declared.traffic.Traffic.{Traffic}

-- Holds if traffic `t` is valid: ordered phases within a period of at most END_OF_TIME, and ordered lengths from 1 to
-- 9,216 octets. Phases are in ns from the period's start.
pub record IsTraffic (t : Traffic) : Type 0 where
  pub phases : t.from ≤ t.to
  pub within : t.to < t.period
  pub period : t.period ≤ END_OF_TIME
  pub some : 1 ≤ t.least
  pub lengths : t.least ≤ t.longest
  pub longest : t.longest ≤ LONGEST_FRAME

-- Holds if the frames among the events keep traffic `t`, each in a period of its own. The newest frame's period ends by time `next`.
abbrev pub ComeInPeriods : Traffic → ℕ → List Event → Type 0
ComeInPeriods t next [] = Unit {0}
ComeInPeriods t next (Arrived a ∷ es) =
    (p : ℕ) × IsMultiple t.period p × (p + t.period ≤ next) × (t.from + p ≤ a.at) × (a.at ≤ t.to + p)
    × (t.least ≤ a.len) × (a.len ≤ t.longest) × ComeInPeriods t p es
ComeInPeriods t next (Cleared clear n ∷ es) = ComeInPeriods t next es

-- Holds if the frames among the events `es` follow traffic `t`: at most one in each period, between its phases, with a length from
-- `t.least` to `t.longest`.
abbrev pub KeepsTraffic : Traffic → List Event → Type 0
KeepsTraffic t es = (next : ℕ) × ComeInPeriods t next es
