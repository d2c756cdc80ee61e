-- Numbers of frames and copies at each port of a run.
use Rattle.std.specs.Prelude.{ℕ, zero, suc, ◌+◌, Option, Some, None, List, [], ◌∷◌, ◌++◌}
use Rattle.bridge_semantics.specs.declared.outcome.PortCount.{PortCount}
use Rattle.bridge_relay.specs.declared.port_state.PortState.{PortState}
use Rattle.bridge_relay.specs.Ports.{nth_port}

-- A list with the number and counts of port `q`; the empty list if the port is missing.
abbrev pub optional_count : {A : Type 0} → ℕ → Option (PortState A) → List (ℕ × PortCount)
optional_count q None = []
optional_count q (Some s) = (q, s.count) ∷ []

-- The counts of the existing ports from 1 to `n`, by rising number.
abbrev pub port_counts : {A : Type 0} → List (Option (PortState A)) → ℕ → List (ℕ × PortCount)
port_counts slots zero = []
port_counts slots (suc n) = port_counts slots n ++ optional_count (n + 1) (nth_port slots (n + 1))
