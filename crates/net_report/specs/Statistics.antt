-- Statistics of delays in the tables of a network run.
use Rattle.std.specs.Prelude.{ℕ, ◌-◌, ◌/◌, Option, Some, None, List, [], ◌∷◌, length, sum}
use Rattle.bridge_report.specs.Figures.{greatest_of, least_of}
use Rattle.net_report.specs.declared.statistics.DelayStatistics.{DelayStatistics}

-- Least, mean and greatest delay, and jitter, for a row of the table; `None` if there is no delay.
abbrev pub delay_statistics : List ℕ → Option DelayStatistics
delay_statistics [] = None
delay_statistics (d ∷ ds) = Some (record {
  least = least_of (d ∷ ds);
  mean = sum (d ∷ ds) / length (d ∷ ds);
  greatest = greatest_of (d ∷ ds);
  jitter = greatest_of (d ∷ ds) - least_of (d ∷ ds);
})
