-- State of a network under test. No contract of a public function uses it.
use Rattle.std.specs.Prelude.{◌≡◌, ◌+◌, ℕ, true, Option, Some}
use Rattle.bridge_filter.specs.OwnEvents.{is_filter_number}
use Rattle.net_model.specs.declared.network_tests.TestedNetwork.{TestedNetwork}
use Rattle.net_model.specs.declared.network_tests.TestedHop.{TestedHop}
use Rattle.net_model.specs.LinkFrames.{matching_filter}
use Rattle.bridge_config.specs.declared.ports.PortPlan.{PortPlan}
use Rattle.net_model.specs.declared.sending_port.FoundFrames.{FoundFrames}
use Rattle.net_model.specs.declared.sending_port.FrameQuery.{FrameQuery}
use Rattle.bridge_check.specs.ReachTables.{test_results}
use Rattle.net_model.specs.Faults.{has_entry}
use Rattle.net_model.specs.Networks as networks
use Rattle.net_model.specs.FrameSearch.{first_taken_over_link}
use Rattle.net_model.specs.NetworkParts.{NetworkParts, stream_value}

-- The parts of the network under test, in the form of these definitions.
abbrev pub tested_parts : {A : Type 0} → TestedNetwork A → NetworkParts A
tested_parts c = record { plans = c.plans.now; links = c.links.now; streams = c.streams.now }

-- Holds if the hop's filter gets only frames with its handle, and the flags name the ports on which entries give this handle.
pub record IsTestedHop {A : Type 0} (c : TestedHop A) : Type 0 where
  pub names : (h k : ℕ) → is_filter_number c.hop.filter (matching_filter c.next.now (Some h) k) ≡ true → h ≡ c.handle
  pub ports : c.ports ≡ test_results 16 (λ i. has_entry c.next.now (i + 1) c.handle)

-- An example of stray or own frames (kind `w`) that the hop may accept at port `on` over a link from `e`. `None` if the
-- search finds no frames.
abbrev pub first_taken_from_end : {A : Type 0} → TestedHop A → FrameQuery → PortPlan A → networks.End → Option FoundFrames
first_taken_from_end c w on e = first_taken_over_link w c.case.plans.now (stream_value c.stream.now) (Some e) c.next.now on c.hop.filter
