-- The record of a filter during a run.
use Rattle.bridge_port.specs.declared.item.Refusal.{Refusal}
use Rattle.std.specs.Prelude.{Result, Ok, Err, ℕ, Bool, true, false, ◌+◌, ◌-◌, ◌<◌, ◌≤◌, ◌≡◌, ◌++◌, [], ◌∷◌, nat_eq, max, Option, Some, None, List, length, Vec, vec_len, vec_capacity, if◌then◌else◌}
use Rattle.std.specs.Map.{lookup}
use Rattle.bridge_filter.specs.declared.Verdict.{Verdict}
use Rattle.bridge_semantics.specs.declared.outcome.Departure.{Departure}
use Rattle.bridge_semantics.specs.declared.outcome.Dropped.{Dropped}
use Rattle.bridge_semantics.specs.declared.outcome.Origin.{Origin}

-- The state of a recorder: verdicts, origins, departures, drops and longest delay. `owed` is the number of copies that have neither left nor been dropped. If
-- `is_open` is true, a verdict will follow.
pub record RecorderState : Type 0 where
  pub verdicts : List Verdict
  pub origins : List Origin
  pub departures : List Departure
  pub drops : List Dropped
  pub delay : Option ℕ
  pub owed : ℕ
  pub is_open : Bool

-- The longer one of an optional delay and a delay.
abbrev pub longer_delay : Option ℕ → ℕ → Option ℕ
longer_delay None n = Some n
longer_delay (Some m) n = Some (max m n)

-- Holds if each list has capacity for the entries that the recorder owes, and a further frame's number has 32 bits.
pub record HasRoom {A : Type 0} (verdicts : Vec Verdict A) (origins : Vec Origin A) (departures : Vec Departure A) (drops : Vec Dropped A) (owed : ℕ) (is_open : Bool) : Type 0 where
  pub for_verdict : vec_len verdicts + (if is_open then 1 else 0) ≤ vec_capacity verdicts
  pub for_number : vec_len verdicts + (if is_open then 1 else 0) < 4294967296
  pub for_origin : vec_len origins + (if is_open then 1 else 0) ≤ vec_capacity origins
  pub for_departures : vec_len departures + owed ≤ vec_capacity departures
  pub for_drops : vec_len drops + owed ≤ vec_capacity drops

-- The recorder after a departure with delay `delay` in ns.
abbrev pub with_departure : RecorderState → Departure → ℕ → RecorderState
with_departure t d delay = record t { departures = t.departures ++ d ∷ []; delay = longer_delay t.delay delay; owed = t.owed - 1 }

-- The recorder after a reservation for a verdict and `copies` copies.
abbrev pub with_room : RecorderState → ℕ → RecorderState
with_room t copies = record t { owed = t.owed + copies; is_open = true }

-- The recorder after a copy of its filter was dropped.
abbrev pub with_drop : RecorderState → Dropped → RecorderState
with_drop t d = record t { drops = t.drops ++ d ∷ []; owed = t.owed - 1 }

-- The recorder after verdict `v` on a frame with origin `o`.
abbrev pub with_verdict : RecorderState → Verdict → Origin → RecorderState
with_verdict t v o = record t { verdicts = t.verdicts ++ v ∷ []; origins = t.origins ++ o ∷ []; is_open = false }

-- The recorder after the reservation of `copies` copies was released, because the filter refused their frame.
abbrev pub without_room : RecorderState → ℕ → RecorderState
without_room t copies = record t { owed = t.owed - copies }

-- The list of numbered values in which `f` is applied to the first value with number `n`.
abbrev pub update_number : {X : Type 0} → ℕ → (X → X) → List (ℕ × X) → List (ℕ × X)
update_number n f [] = []
update_number n f (x ∷ xs) = if nat_eq n x.0 then (x.0, f x.1) ∷ xs else x ∷ update_number n f xs

-- The list with function `f` applied to the value of an optional number; unchanged without a number.
abbrev pub update_if_some : {X : Type 0} → Option ℕ → (X → X) → List (ℕ × X) → List (ℕ × X)
update_if_some None f xs = xs
update_if_some (Some n) f xs = update_number n f xs

-- The recorders after a port's answer. A refusal by port `port` adds a drop of frame `own` to the recorder of filter `flow`; any other
-- answer changes nothing.
abbrev pub recorders_with_answer : List (ℕ × RecorderState) → Option ℕ → ℕ → ℕ → Result (Unit {0}) Refusal → List (ℕ × RecorderState)
recorders_with_answer tables flow own port (Ok u) = tables
recorders_with_answer tables flow own port (Err r) = update_if_some flow (λ t. with_drop t (record { own = own; port = port; refusal = r })) tables

-- Holds if the recorder of filter `n` owes an entry for at least one copy.
abbrev pub OwesCopy : List (ℕ × RecorderState) → ℕ → Type 0
OwesCopy tables n = (t : RecorderState) × (lookup (nat_eq n) tables ≡ Some t) × (0 < t.owed)

-- Holds if the recorder of filter `n` owes entries for at least `copies` copies.
abbrev pub OwesCopies : List (ℕ × RecorderState) → ℕ → ℕ → Type 0
OwesCopies tables copies n = (t : RecorderState) × (lookup (nat_eq n) tables ≡ Some t) × (copies ≤ t.owed)

-- Holds if the recorder of filter `n` can reserve `copies` further copies: its number of owed entries stays below 2^32.
abbrev pub CanReserve : List (ℕ × RecorderState) → ℕ → ℕ → Type 0
CanReserve tables copies n = (t : RecorderState) × (lookup (nat_eq n) tables ≡ Some t) × (t.owed + copies < 4294967296)

-- Holds if the recorder of filter `n` has capacity for a verdict.
abbrev pub AwaitsVerdict : List (ℕ × RecorderState) → ℕ → Type 0
AwaitsVerdict tables n = (t : RecorderState) × (lookup (nat_eq n) tables ≡ Some t) × (t.is_open ≡ true)
