-- A fault of one reading is the fault of the whole reading.
use Rattle.std.proofs.Common.{◌≡◌, Result, Ok}
use Rattle.bridge_schema.specs.Readers.{◌>>=◌}
use Rattle.net_file.specs.declared.fault.NetFault.{NetFault}
use Rattle.net_file.specs.Keys.{Fails, is_no_memory}
use Rattle.bridge_schema.proofs.Faults.{fails_by}

-- After a fault, no later reading happens.
pub fails_here : {X Y : Type 0} (k : X → Result Y NetFault) (r : Result X NetFault) (e : NetFault) → Fails e r → Fails e (r >>= k)
fails_here k r e h = fails_by is_no_memory e r k h

-- If an earlier reading gives a value, the fault of the next one is the fault of both.
pub fails_behind : {X Y : Type 0} (k : X → Result Y NetFault) (r : Result X NetFault) (x : X) (e : NetFault) → r ≡ Ok x → Fails e (k x) → Fails e (r >>= k)
fails_behind k r x e given h = rw given h

-- If an earlier reading gives a value, the result of the next one is the result of both.
pub gives_behind : {X Y : Type 0} (k : X → Result Y NetFault) (r : Result X NetFault) (x : X) (y : Result Y NetFault) → r ≡ Ok x → k x ≡ y → (r >>= k) ≡ y
gives_behind k r x y given h = rw given h
