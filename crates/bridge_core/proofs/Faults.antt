-- Different answers and faults are unequal.
use Rattle.std.proofs.Common.{◌≡◌, ℕ, Result, Ok, Err}
use Rattle.std.specs.Prelude.{OnErr}
use Rattle.bridge_capture.specs.declared.capture_fault.CaptureFault.{CaptureFault}
use Rattle.bridge_capture.specs.declared.capture_fault.CaptureFault.TheVariants as faults
use Rattle.bridge_capture.specs.declared.fault.RunFault.{RunFault}
use Rattle.bridge_capture.specs.declared.fault.RunFault.TheVariants as run
use Rattle.bridge_capture.specs.CaptureReaders.{run_fault}

pub ok_err : {X Y : Type 0} (x : X) (y : Y) → ◌≡◌ {A = Result X Y} (Ok x) (Err y) → ⊥
ok_err x y e = cc

pub memory_read : {X : Type 0} (port : ℕ) (why : CaptureFault) → ◌≡◌ {A = Result X RunFault} (Err run.NoMemory) (Err (run.Capture port why)) → ⊥
memory_read port why e = cc

pub memory_written : {X : Type 0} (port : ℕ) → ◌≡◌ {A = Result X RunFault} (Err run.NoMemory) (Err (run.Write port)) → ⊥
memory_written port e = cc

pub written_read : {X : Type 0} (r : Result X RunFault) (q port : ℕ) (why : CaptureFault) → r ≡ Err (run.Write q) → r ≡ Err (run.Capture port why) → ⊥
written_read r q port why w e = cc

pub at_written : {X : Type 0} (q port : ℕ) (fault : CaptureFault) → ◌≡◌ {A = Result X RunFault} (Err (run_fault q fault)) (Err (run.Write port)) → ⊥
at_written q port faults.BadMagic e = cc
at_written q port faults.BadVersion e = cc
at_written q port faults.BadLinkType e = cc
at_written q port faults.HeaderCut e = cc
at_written q port (faults.RecordCut n) e = cc
at_written q port (faults.LengthsCross n) e = cc
at_written q port (faults.RecordTooLarge n) e = cc
at_written q port (faults.TimeBack n) e = cc
at_written q port (faults.TimeTooLate n) e = cc
at_written q port faults.TooManyRecords e = cc
at_written q port faults.Read e = cc
at_written q port faults.Write e = cc
at_written q port faults.NoMemory e = cc

pub only_read : {X : Type 0} (r : Result X RunFault) (port : ℕ) (why : CaptureFault) → OnErr r ((q : ℕ) × (r ≡ Err (run.Write q))) → r ≡ Err (run.Capture port why) → ⊥
only_read (Ok x) port why o e = ok_err x _ e
only_read (Err f) port why o e = written_read (Err f) o.0 port why o.1 e
