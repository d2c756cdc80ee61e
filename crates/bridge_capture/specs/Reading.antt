-- Result of reading one record of a capture: a frame, the end, or a fault.
use Rattle.std.specs.Prelude.{◌≡◌, ◌≢◌, ◌<◌, ◌≤◌, ℕ, Bool, true, ⊤, List, length, Option, Some, None, Result, Ok, Err, Vec}
use Rattle.std.specs.Io.KnownBytes.{Consumes, IsAtEnd}
use Rattle.bridge_limits.specs.declared.TheConstants.{END_OF_TIME, MAX_CAPTURED_OCTETS}
use Rattle.bridge_capture.specs.declared.record.TheConstants.{MAX_RECORDS}
use Rattle.bridge_capture.specs.declared.capture_fault.CaptureFault.{CaptureFault}
use Rattle.bridge_capture.specs.declared.capture_fault.CaptureFault.TheVariants as faults
use Rattle.bridge_capture.specs.declared.packet.Packet.{Packet}
use Rattle.bridge_capture.specs.declared.packet.PacketInfo.{PacketInfo}
use Rattle.bridge_capture.specs.Grammar.{CapturedFrame, FrontItem, Nothing, Fault, Record}
use Rattle.bridge_capture.specs.TakenOctets.{TakesFewer}

-- Frame of a packet, independent of its place in memory.
abbrev pub packet_frame : {A : Type 0} → Packet A → CapturedFrame
packet_frame p = record { time = p.time; len = p.len; octets = p.octets.items }

-- Result of `Capture::read_packet` as a result with a packet; `octets` are the contents of the caller's vector after
-- the call.
abbrev pub packet_result : {A : Type 0} → Vec ℕ A → Result (Option PacketInfo) CaptureFault → Result (Option (Packet A)) CaptureFault
packet_result octets (Ok (Some stamp)) = Ok (Some (record { time = stamp.time; len = stamp.len; octets = octets }))
packet_result octets (Ok None) = Ok None
packet_result octets (Err fault) = Err fault

-- Holds if the call returned no packet, or a packet with the property `P`.
abbrev pub IfPacket : {A : Type 0} → Result (Option (Packet A)) CaptureFault → (Packet A → Type 0) → Type 0
IfPacket (Ok (Some packet)) P = P packet
IfPacket (Ok None) P = Unit {0}
IfPacket (Err fault) P = Unit {0}

-- Holds if `front` is this fault, or if the fault means that the source failed or memory ran out.
abbrev pub IsFaultOfFront : CaptureFault → FrontItem → Type 0
IsFaultOfFront faults.Read front = Unit {0}
IsFaultOfFront faults.NoMemory front = Unit {0}
IsFaultOfFront fault front = front ≡ Fault fault

-- Holds if the result agrees with `front`, the next item of the octets: no packet at the end, a record's packet, or a fault.
abbrev pub TakesFront : {A : Type 0} → FrontItem → Option (List ℕ) → Result (Option (Packet A)) CaptureFault → Type 0
TakesFront front rest (Ok None) = front ≡ Nothing
TakesFront front rest (Ok (Some p)) = (more : List ℕ) × (front ≡ Record (packet_frame p) more) × (rest ≡ Some more)
TakesFront front rest (Err fault) = IsFaultOfFront fault front

-- Holds if `fault` fits the reading of `count` octets of record `number`: they are cut, the source failed before they were complete, or
-- memory ran out before the first octet.
abbrev pub CutsOctets : ℕ → ℕ → Option (List ℕ) → Option (List ℕ) → CaptureFault → Type 0
CutsOctets number count old new faults.Read = TakesFewer count old new
CutsOctets number count old new faults.NoMemory = new ≡ old
CutsOctets number count old new fault = (fault ≡ faults.RecordCut number) × (IsAtEnd new × ((octets : List ℕ) × (length octets < count) × Consumes old new octets))

-- Holds if the call took `count` octets of a record, or ended with a fault.
abbrev pub TakesOctets : ℕ → ℕ → Option (List ℕ) → Option (List ℕ) → List ℕ → Result ⊤ CaptureFault → Type 0
TakesOctets number count old new octets (Ok done) = (length octets ≡ count) × Consumes old new octets
TakesOctets number count old new octets (Err fault) = CutsOctets number count old new fault

-- Holds if the fault is one that a record's header can have: too large, crossed lengths, or a time that is too late or too early.
abbrev pub IsRecordHeaderFault : CaptureFault → Type 0
IsRecordHeaderFault (faults.RecordTooLarge number) = Unit {0}
IsRecordHeaderFault (faults.LengthsCross number) = Unit {0}
IsRecordHeaderFault (faults.TimeTooLate number) = Unit {0}
IsRecordHeaderFault (faults.TimeBack number) = Unit {0}
IsRecordHeaderFault fault = ⊥

-- Holds if the fault belongs to a complete header of a capture.
abbrev pub IsHeaderFault : CaptureFault → Type 0
IsHeaderFault faults.BadMagic = Unit {0}
IsHeaderFault faults.BadVersion = Unit {0}
IsHeaderFault faults.BadLinkType = Unit {0}
IsHeaderFault fault = ⊥

-- Holds if `packet` may follow as record `number` after a record at time `earliest`: number, time and captured length are within the limits
-- of a capture.
pub record IsInBounds {A : Type 0} (number earliest : ℕ) (packet : Packet A) : Type 0 where
  pub few : number ≤ MAX_RECORDS
  pub early : packet.time < END_OF_TIME
  pub onward : earliest ≤ packet.time
  pub small : length packet.octets.items ≤ MAX_CAPTURED_OCTETS
  pub within : length packet.octets.items ≤ packet.len

-- Holds if a read fault occurs only if the source has failed, and always if it had failed before.
--
-- A write fault never occurs. A source that never fails gives no read fault, and still never fails.
pub record AgreesWithSource {S X : Type 0} (has_failed never_fails : S → Bool) (old new : S) (result : Result X CaptureFault) : Type 0 where
  pub failed : result ≡ Err faults.Read → has_failed new ≡ true
  pub sure : never_fails old ≡ true → result ≢ Err faults.Read
  pub lasts : never_fails old ≡ true → never_fails new ≡ true
  pub broken : has_failed old ≡ true → result ≡ Err faults.Read
  pub no_write : result ≢ Err faults.Write
