-- A fault in the part that is read first is the fault of the whole.
use Rattle.std.proofs.Common.{◌≡◌, Bool, true, false, Result, Ok, Err, ap, subst, sym}
use Rattle.std.specs.Result.{IsErrAnd}
use Rattle.bridge_schema.specs.declared.plan_fault.PlanFault.{PlanFault}
use Rattle.bridge_schema.specs.Readers.{is_no_memory}
use Rattle.bridge_schema.specs.Reading.{◌>>=◌, Unless}
use Rattle.bridge_schema.specs.Reading as reading

-- A true property also holds unless memory ran out.
pub unless_holds : {P : Type 0} (memory : Bool) → P → Unless memory P
unless_holds true is = tt
unless_holds false is = is

-- A consequence of a property that holds unless memory ran out also holds unless memory ran out.
pub unless_follows : {P Q : Type 0} (memory : Bool) → (P → Q) → Unless memory P → Unless memory Q
unless_follows true f h = tt
unless_follows false f h = f h

module _ {E : Type 0} (is_memory : E → Bool) where
  pub fails_by : {X Y : Type 0} (e : E) (m : Result X E) (f : X → Result Y E) → reading.Fails is_memory e m → reading.Fails is_memory e (m >>= f)
  fails_by e m f h = unless_follows (is_memory e) (λ is. ap (λ x. x >>= f) is) h

  -- Passes on a fault.
  pub handed_by : {X Y : Type 0} (view : X → Y) (e : E) (whole : Result Y E) (r : Result X E) → reading.Fails is_memory e whole → IsErrAnd r (λ x. x ≡ e) → reading.GivesAs is_memory view r whole
  handed_by view e whole (Ok x) h is = absurd is
  handed_by view e whole (Err x) h is = subst (λ z. reading.Fails is_memory z whole) (sym is) h

-- A fault in the part of a plan that is read first is the fault of the whole.
pub fails_on : {X Y : Type 0} (e : PlanFault) (m : Result X PlanFault) (f : X → Result Y PlanFault) → reading.Fails is_no_memory e m → reading.Fails is_no_memory e (m >>= f)
fails_on e m f h = fails_by is_no_memory e m f h

-- Passes on a fault of a plan.
pub handed_on : {X Y : Type 0} (view : X → Y) (e : PlanFault) (whole : Result Y PlanFault) (r : Result X PlanFault) → reading.Fails is_no_memory e whole → IsErrAnd r (λ x. x ≡ e) → reading.GivesAs is_no_memory view r whole
handed_on view e whole r h is = handed_by is_no_memory view e whole r h is
