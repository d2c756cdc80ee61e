-- Contents of a plan, as contracts describe them.
use Rattle.std.specs.Prelude.{ℕ, List}
use Rattle.bridge_meter.specs.declared.MeterPlan.{MeterPlan}
use Rattle.bridge_gate.specs.declared.schedule.GatePlan.{GatePlan}
use Rattle.bridge_ident.specs.declared.StreamEntry.{StreamEntry}
use Rattle.bridge_filter.specs.declared.FilterPlan.{FilterPlan}
use Rattle.bridge_forward.specs.Database.{Database}
use Rattle.bridge_config.specs.declared.ports.PortPlan.{PortPlan}

-- Stream gates, meters and filters of a plan, each with its number.
pub record Policing (A : Type 0) : Type 0 where
  pub gates : List (ℕ × GatePlan A)
  pub meters : List (ℕ × MeterPlan)
  pub filters : List (ℕ × FilterPlan)

-- Plan of one bridge: lists, in file order, of ports, VLANs, static entries, stream entries, and of numbered stream
-- gates, meters and filters.
pub record Plan (A : Type 0) : Type 0 where
  pub ports : List (PortPlan A)
  pub database : Database
  pub streams : List StreamEntry
  pub gates : List (ℕ × GatePlan A)
  pub meters : List (ℕ × MeterPlan)
  pub filters : List (ℕ × FilterPlan)
