-- Readers and writers with buffers.
use Rattle.std.proofs.Common.{ℕ, Bool, Option, List}
use Rattle.bridge_capture.specs.Buffers.{read_ahead_remaining, write_behind_contents}
use Rattle.bridge_capture.specs.declared.read_ahead.ReadAhead.{ReadAhead}
use Rattle.bridge_capture.specs.declared.write_behind.WriteBehind.{WriteBehind}

-- The octets that a buffered source has left.
abbrev pub asked : {R A : Type 0} → (R → Option (List ℕ)) → ReadAhead R A → Option (List ℕ)
asked remaining s = read_ahead_remaining remaining s

-- The octets that a buffered sink has received.
abbrev pub sunk : {W A : Type 0} → (W → Option (List ℕ)) → WriteBehind W A → Option (List ℕ)
sunk contents s = write_behind_contents contents s

-- True if the sink's writer failed.
abbrev pub broken : {W A : Type 0} → WriteBehind W A → Bool
broken s = s.sink.is_broken
