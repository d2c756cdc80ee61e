-- A run over hexadecimal text, or from a reader into a writer.
use Rattle.std.proofs.Common.{take, ◌≡◌, ◌<◌, ◌^◌, ◌⊎◌, inl, inr, ℕ, List, [], length, Option, Some, None, IfSome, refl, ◌∙◌, arith, rules}
use Rattle.std.specs.Prelude.{All}
use Rattle.std.specs.Io.KnownBytes.{Keeps}
use Rattle.std.proofs.KnownBytes.{Appends-kept}
use Rattle.bridge_frame.specs.declared.Speed.{Speed}
use Rattle.bridge_frame.specs.declared.Speed.TheVariants.{Mbps1000}
use Rattle.bridge_capture.specs.Grammar.{CapturedFrame}
use Rattle.bridge_capture.specs.WrittenCapture.{written_text}
use Rattle.bridge_capture.specs.HexLines.{hex_text}
use Rattle.bridge_capture.specs.declared.capture_fault.CaptureFault.{CaptureFault}
use Rattle.bridge_capture.specs.declared.capture_fault.CaptureFault.TheVariants as faults
use Rattle.bridge_capture.specs.StandsFor.{IsRefusal}
use Rattle.bridge_capture.specs.CaptureReaders.{FailsAtFirst}
use Rattle.bridge_wire.specs.declared.wire_count.WireCount.{WireCount}
use Rattle.bridge_capture.specs.declared.fault.RunFault.{RunFault}
use Rattle.bridge_capture.specs.declared.fault.RunFault.TheVariants as run
use Rattle.bridge_wire.specs.Wire.{IsWritable, IsCaptureFault, NamesPortOne, FailsAtStart, StopsRun, StopsInText, WiresText}
use Rattle.app_files.proofs.Kept.{kept_appends}
use Rattle.app_commands.specs.Jobs.{EndsWire}
use Rattle.app_failure.specs.declared.fault.Failure.TheVariants as fault
use Rattle.app_commands.specs.Text.{HasFault, IsTextRun, StopsText}

-- A refused text has the first fault of its capture.
first_fault : (f : CaptureFault) (rest : Option (List ℕ)) (octets : List ℕ) → IsCaptureFault f → FailsAtFirst f rest octets → HasFault f octets
first_fault faults.Read rest octets own looks = tt
first_fault faults.NoMemory rest octets own looks = absurd (own.0 refl)
first_fault f rest octets own looks = ([], looks)

later_fault : (f : CaptureFault) (rest : Option (List ℕ)) (octets : List ℕ) (frames : List CapturedFrame) → IsCaptureFault f → IsRefusal f rest octets frames → HasFault f octets
later_fault faults.Read rest octets frames own refused = tt
later_fault faults.NoMemory rest octets frames own refused = absurd (own.0 refl)
later_fault faults.Write rest octets frames own refused = absurd (own.1 refl)
later_fault f rest octets frames own refused = (frames, refused)

-- A fault of the capture is a fault of its octets.
capture_fault : (speed : Speed) (room : ℕ) (octets : List ℕ) (rest old new : Option (List ℕ)) (f : CaptureFault) → IsCaptureFault f × (FailsAtStart octets rest old new f ⊎ StopsInText speed room octets rest old new f) → HasFault f octets
capture_fault speed room octets rest old new f s = elim s.1 [ inl first ↦ first_fault f rest octets s.0 first.looks | inr behind ↦ later_fault f rest octets behind.frames s.0 behind.refused ]

pub stops_text : (octets : List ℕ) (rest old new : Option (List ℕ)) (fault : RunFault) → StopsRun Mbps1000 4 octets rest old new fault → NamesPortOne fault → StopsText octets fault
stops_text octets rest old new (run.Capture port f) s one = (one, capture_fault Mbps1000 4 octets rest old new f s)
stops_text octets rest old new (run.Write port) s one = (one, (s.frames, s.goes.until, s.looks))
stops_text octets rest old new run.NoMemory s one = tt

small : (frames : List CapturedFrame) → All IsWritable frames → All (λ frame. length frame.octets < 2 ^ 32) frames
small frames all k d h = let z = all k d h in let a = z.0 in let b = z.1 in omega arith

-- The sink has the output capture, and the lines are its text.
pub text_run : (octets sink : List ℕ) (count : WireCount) (lines : List ℕ) → WiresText Mbps1000 4 octets (Some []) (Some sink) count → ((frames : List CapturedFrame) → All (λ frame. length frame.octets < 2 ^ 32) frames → sink ≡ written_text frames → lines ≡ hex_text frames) → IsTextRun octets lines
text_run octets sink count lines w told = record { frames = w.frames; left = w.left; count = count; reads = w.reads; runs = w.runs; lines_are = told w.left (small w.left w.runs.short) w.writes }

-- A run into a sink whose writer finally has all its octets.
pub wires_kept : (speed : Speed) (room : ℕ) (text : List ℕ) (a b c d : Option (List ℕ)) (count : WireCount) → Keeps a b → WiresText speed room text b c count → Keeps c d → WiresText speed room text a d count
wires_kept speed room text a b c d count p w q =
    record { frames = w.frames; left = w.left; reads = w.reads; runs = w.runs; writes = Appends-kept a c d (written_text w.left) (kept_appends a b c (written_text w.left) p w.writes) q }

-- Departures of a stopped run in a sink whose writer finally has all its octets.
behind_kept : (speed : Speed) (room : ℕ) (text : List ℕ) (rest a b c d : Option (List ℕ)) (f : CaptureFault) → Keeps a b → StopsInText speed room text rest b c f → Keeps c d → StopsInText speed room text rest a d f
behind_kept speed room text rest a b c d f p s q = record {
  frames = s.frames;
  some = s.some;
  refused = s.refused;
  up = record { copies = s.up.copies; left = s.up.left; goes = s.up.goes; last = s.up.last; writes = Appends-kept a c d (written_text s.up.left) (kept_appends a b c (written_text s.up.left) p s.up.writes) q };
}

kept_all : (a b c d : Option (List ℕ)) → Keeps a b → Keeps b c → Keeps c d → Keeps a d
kept_all None b c d p q r = tt
kept_all (Some x) None c d p q r = absurd p
kept_all (Some x) (Some y) None d p q r = absurd q
kept_all (Some x) (Some y) (Some z) None p q r = absurd r
kept_all (Some x) (Some y) (Some z) (Some w) p q r = r ∙ (q ∙ p)

-- A stopped run in a sink whose writer finally has all its octets.
pub stops_kept : (speed : Speed) (room : ℕ) (text : List ℕ) (rest a b c d : Option (List ℕ)) (fault : RunFault) → Keeps a b → StopsRun speed room text rest b c fault → Keeps c d → StopsRun speed room text rest a d fault
stops_kept speed room text rest a b c d (run.Capture port f) p s q = (
  s.0,
  elim s.1 [
    | inl first ↦ inl (record { looks = first.looks; untouched = kept_all a b c d p first.untouched q })
    | inr behind ↦ inr (behind_kept speed room text rest a b c d f p behind q)
  ],
)
stops_kept speed room text rest a b c d (run.Write port) p s q = record { frames = s.frames; copies = s.copies; left = s.left; goes = s.goes; from = s.from; looks = s.looks; writes = (s.writes.0, s.writes.1, Appends-kept a c d (take s.writes.0 (written_text s.left)) (kept_appends a b c (take s.writes.0 (written_text s.left)) p s.writes.2) q) }
stops_kept speed room text rest a b c d run.NoMemory p s q = elim s [
  | inl wants ↦ inl (record { looks = wants.looks; untouched = kept_all a b c d p wants.untouched q })
  | inr behind ↦ inr (behind_kept speed room text rest a b c d faults.NoMemory p behind q)
]

-- A run from a reader into a writer stopped, with or without its writer.
pub ends_wire : {W : Type 0} (speed : Speed) (room : ℕ) (text : List ℕ) (old : Option (List ℕ)) (contents : W → Option (List ℕ)) (writer : Option W) (f : RunFault)
    → IfSome writer (λ w. (rest : Option (List ℕ)) × StopsRun speed room text rest old (contents w) f) → (writer ≡ None → (f ≡ run.Write 1) ⊎ (f ≡ run.NoMemory)) → NamesPortOne f → EndsWire text (fault.Run f)
ends_wire speed room text old contents writer (run.Write port) stops lost one = one
ends_wire speed room text old contents writer run.NoMemory stops lost one = tt
ends_wire speed room text old contents (Some w) (run.Capture port f) stops lost one = (one, capture_fault speed room text stops.0 old (contents w) f stops.1)
ends_wire speed room text old contents None (run.Capture port f) stops lost one = elim (lost refl) [ inl e ↦ absurd (search rules) | inr e ↦ absurd (search rules) ]
