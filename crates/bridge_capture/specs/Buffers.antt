-- Octets in the buffers between captures and the readers and writers of the standard library.
use Rattle.std.specs.Prelude.{ℕ, List, [], Option, take, slice_range, if◌then◌else◌}
use Rattle.std.specs.Io.KnownBytes.{prepend_known, append_known}
use Rattle.bridge_capture.specs.declared.read_buffer.ReadBuffer.{ReadBuffer}
use Rattle.bridge_capture.specs.declared.read_ahead.ReadAhead.{ReadAhead}
use Rattle.bridge_capture.specs.declared.write_buffer.WriteBuffer.{WriteBuffer}
use Rattle.bridge_capture.specs.declared.write_behind.WriteBehind.{WriteBehind}

-- Octets that a source read ahead from its reader and that no caller has used yet.
abbrev pub unread_octets : {A : Type 0} → ReadBuffer A → List ℕ
unread_octets w = slice_range w.octets.items w.start w.end

-- Octets that the source lends: none after the reader failed.
abbrev pub lendable_octets : {R A : Type 0} → ReadAhead R A → List ℕ
lendable_octets s = if s.source.is_broken then [] else unread_octets s.window

-- Remaining octets: octets read ahead, then octets of the reader; `None` if they are unknown.
abbrev pub read_ahead_remaining : {R A : Type 0} → (R → Option (List ℕ)) → ReadAhead R A → Option (List ℕ)
read_ahead_remaining remaining s = prepend_known (unread_octets s.window) (remaining s.source.reader)

-- Octets that a sink holds back from its writer until a block is full.
abbrev pub held_octets : {A : Type 0} → WriteBuffer A → List ℕ
held_octets h = take h.count h.octets.items

-- Octets of the writer, then octets held back; `None` if the writer's octets are unknown.
abbrev pub write_behind_contents : {W A : Type 0} → (W → Option (List ℕ)) → WriteBehind W A → Option (List ℕ)
write_behind_contents contents s = append_known (contents s.sink.writer) (held_octets s.held)
