-- Delivery of the frames that bridges sent in a round.
use Rattle.std.specs.Prelude.{◌≡◌, ◌<◌, ◌+◌, ℕ, Bool, false, Option, Some, None, List, length, map, slice_get}
use Rattle.net_model.specs.Networks.{Sender}
use Rattle.net_run.specs.BridgeRuns.{AreUpToDate, IsBridgeUpToDate, AreGiven, AreGivenBeforePort, HasRun, IsPortUpToDate, IsFirstOutdatedPort, IsFirstOutdated, IsPortOutdated, BridgeRunState, constant_part}

-- Holds if each bridge that didn't run in this round has run before and is unchanged. `ran` has for each bridge whether it ran.
abbrev pub AreUnchanged : {A : Type 0} → List Bool → List (BridgeRunState A) → List (BridgeRunState A) → Type 0
AreUnchanged {A} ran old new = (c : ℕ) → slice_get ran c ≡ Some false → (y : BridgeRunState A) × (slice_get old c ≡ Some y) × HasRun y × (slice_get new c ≡ Some y)

-- Holds if each port whose sending bridge has a result has the frames that this bridge sent to it.
abbrev pub AreRunsFed : {A : Type 0} → List (BridgeRunState A) → Type 0
AreRunsFed {A} xs = (b i : ℕ) (x y : BridgeRunState A) (s : Sender) → slice_get xs b ≡ Some x → i < length x.ports → slice_get x.senders i ≡ Some (Some s) → slice_get xs s.from.bridge ≡ Some y → HasRun y → IsPortUpToDate xs x i

-- Holds if each port whose sender didn't run in this round (`ran` is false) has the frames that its sender sent.
abbrev pub AreOthersFed : {A : Type 0} → List Bool → List (BridgeRunState A) → Type 0
AreOthersFed {A} ran xs = (b i : ℕ) (x : BridgeRunState A) (s : Sender) → slice_get xs b ≡ Some x → i < length x.ports → slice_get x.senders i ≡ Some (Some s) → slice_get ran s.from.bridge ≡ Some false → IsPortUpToDate xs x i

-- Holds if the port with index `i` of bridge `b` got the frames sent to it. `found` is its number if its input changed.
pub record IsPortFed {A : Type 0} (old new : List (BridgeRunState A)) (b i : ℕ) (found : Option ℕ) : Type 0 where
  pub same : map constant_part new ≡ map constant_part old
  pub gives : (ran : List (BridgeRunState A)) → AreGivenBeforePort ran old b i → AreGivenBeforePort ran new b (i + 1)
  pub still : (ran : List Bool) → AreOthersFed ran old → AreOthersFed ran new
  pub unchanged : found ≡ None → new ≡ old
  pub fed : (x : BridgeRunState A) → found ≡ None → slice_get old b ≡ Some x → IsPortUpToDate old x i
  pub port : (q : ℕ) (x : BridgeRunState A) → found ≡ Some q → slice_get old b ≡ Some x → slice_get x.ports i ≡ Some q
  pub unfed : (q : ℕ) (x : BridgeRunState A) → found ≡ Some q → slice_get old b ≡ Some x → IsPortOutdated old x i

-- Holds if each port of bridge `b` got the frames sent to it. `found` is the number of the first port whose input changed.
pub record IsBridgeFed {A : Type 0} (old new : List (BridgeRunState A)) (b : ℕ) (found : Option ℕ) : Type 0 where
  pub same : map constant_part new ≡ map constant_part old
  pub gives : (ran : List (BridgeRunState A)) → AreGivenBeforePort ran old b 0 → AreGivenBeforePort ran new (b + 1) 0
  pub still : (ran : List Bool) → AreOthersFed ran old → AreOthersFed ran new
  pub unchanged : found ≡ None → new ≡ old
  pub fed : found ≡ None → IsBridgeUpToDate old b
  pub first : (q : ℕ) → found ≡ Some q → IsFirstOutdatedPort old b q

-- Holds if each port of each bridge got the frames sent to it. `found` is the first bridge and port whose input changed.
pub record AreBridgesFed {A : Type 0} (old new : List (BridgeRunState A)) (found : Option (ℕ × ℕ)) : Type 0 where
  pub given : AreGiven old new
  pub fed : AreUpToDate new
  pub unchanged : found ≡ None → new ≡ old
  pub first : (b q : ℕ) → found ≡ Some (b, q) → IsFirstOutdated old b q
