-- The allowed keys in the tables of ports and gates are the keys of their definitions, in another order.
use Rattle.std.proofs.Common.{◌≡◌, Bool, true, false, not, ◌&&◌, ◌||◌, ℕ, List, [], ◌∷◌, ◌++◌, Option, Some, None, is_some, nat_eq, refl, ap, ◌∙◌, if◌then◌else◌}
use Rattle.std.specs.Cmp.Lexicographic.{pointwise}
use Rattle.toml.specs.Data.{Members}
use Rattle.bridge_schema.specs.declared.plan_fault.Field.{Field}
use Rattle.bridge_schema.specs.declared.plan_fault.Field.TheVariants as field
use Rattle.bridge_schema.specs.declared.keys.TheConstants.{PORT_KEYS, GATE_KEYS}
use Rattle.bridge_schema.specs.Keys.{key_name}
use Rattle.bridge_schema.specs.Readers.{has_key, is_key_name, has_known_keys}
use Rattle.bridge_schema.specs.AllowedKeys.{allowed_keys, has_allowed_keys}
use Rattle.bridge_schema.proofs.Standing.{known_alike}
use Rattle.bridge_config.specs.Sections.{port_keys, gate_keys}

-- Moves the third of four tests to the front.
rotated : (a b c d : Bool) → (a || (b || (c || d))) ≡ (c || (a || (b || d)))
rotated true b true d = refl
rotated true b false d = refl
rotated false true true d = refl
rotated false true false d = refl
rotated false false true d = refl
rotated false false false d = refl

abbrev when : Bool → Field → List Field → List Field
when may f fs = if may then f ∷ fs else fs

abbrev spells : List ℕ → Field → Bool
spells name f = pointwise nat_eq (key_name f) name

-- Keys of the list after the schedule change, in the order of the definition.
abbrev later : (entries : Field) (change has : Bool) → List Field
later entries change has = if change then entries ∷ (if has then field.NextBase ∷ field.NextCycle ∷ [] else []) else []

-- Keys of a list and of the next list, with base and cycle times before or after the entries.
turned : (entries next : Field) (change has : Bool) (name : List ℕ)
    → is_key_name (field.Base ∷ field.Cycle ∷ entries ∷ when (change && has) field.NextBase (when (change && has) field.NextCycle (when change next []))) name
    ≡ is_key_name (entries ∷ field.Base ∷ field.Cycle ∷ later next change has) name
turned entries next false has name = rotated (spells name field.Base) (spells name field.Cycle) (spells name entries) false
turned entries next true false name = rotated (spells name field.Base) (spells name field.Cycle) (spells name entries) (spells name next || false)
turned entries next true true name =
    ap (λ rest. spells name field.Base || (spells name field.Cycle || (spells name entries || rest))) (rotated (spells name field.NextBase) (spells name field.NextCycle) (spells name next) false)
    ∙ rotated (spells name field.Base) (spells name field.Cycle) (spells name entries) (spells name next || (spells name field.NextBase || (spells name field.NextCycle || false)))

-- Case distinction: the table has its list, the plan has a schedule change, and the table has the next list.
port_turned : (has change next : Bool) (name : List ℕ)
    → is_key_name (when has field.Base (when has field.Cycle (field.Gates ∷ when (has && (change && next)) field.NextBase (when (has && (change && next)) field.NextCycle (when (has && change) field.NextGates []))))) name
    ≡ is_key_name (field.Gates ∷ (if has then field.Base ∷ field.Cycle ∷ later field.NextGates change next else [])) name
port_turned true change next name = turned field.Gates field.NextGates change next name
port_turned false change next name = refl

gate_turned : (has change next : Bool) (name : List ℕ)
    → is_key_name (when (not has) field.State (when (not has) field.Ipv (when has field.Base (when has field.Cycle (field.Entries
    ∷ when (has && (change && next)) field.NextBase (when (has && (change && next)) field.NextCycle (when (has && change) field.NextEntries []))))))) name
    ≡ is_key_name (field.Entries ∷ ((if has then [] else field.State ∷ field.Ipv ∷ []) ++ (if has then field.Base ∷ field.Cycle ∷ later field.NextEntries change next else []))) name
gate_turned true change next name = turned field.Entries field.NextEntries change next name
gate_turned false change next name = rotated (spells name field.State) (spells name field.Ipv) (spells name field.Entries) false

-- True if the name is one of these keys, or `else_is` is true.
abbrev is_one_or : List ℕ → List Field → Bool → Bool
is_one_or name [] else_is = else_is
is_one_or name (f ∷ fs) else_is = spells name f || is_one_or name fs else_is

port_among : (change : Option ℕ) (ms : Members) (name : List ℕ) → is_key_name (allowed_keys (is_some change) ms PORT_KEYS) name ≡ is_key_name (port_keys change ms) name
port_among None ms name = ap (is_one_or name (field.Number ∷ field.Mbps ∷ field.Vid ∷ field.Priority ∷ field.Classes ∷ field.Rooms ∷ [])) (port_turned (has_key field.Gates ms) false (has_key field.NextGates ms) name)
port_among (Some t) ms name = ap (is_one_or name (field.Number ∷ field.Mbps ∷ field.Vid ∷ field.Priority ∷ field.Classes ∷ field.Rooms ∷ [])) (port_turned (has_key field.Gates ms) true (has_key field.NextGates ms) name)

gate_among : (change : Option ℕ) (ms : Members) (name : List ℕ) → is_key_name (allowed_keys (is_some change) ms GATE_KEYS) name ≡ is_key_name (gate_keys change ms) name
gate_among None ms name = ap (is_one_or name (field.Number ∷ field.ShutOnRx ∷ field.ShutOnOctets ∷ [])) (gate_turned (has_key field.Entries ms) false (has_key field.NextEntries ms) name)
gate_among (Some t) ms name = ap (is_one_or name (field.Number ∷ field.ShutOnRx ∷ field.ShutOnOctets ∷ [])) (gate_turned (has_key field.Entries ms) true (has_key field.NextEntries ms) name)

-- The key rules of ports accept the same tables as `port_keys`.
pub port_alike : (change : Option ℕ) (ms : Members) → has_allowed_keys (is_some change) PORT_KEYS ms ≡ has_known_keys (port_keys change ms) ms
port_alike change ms = known_alike (allowed_keys (is_some change) ms PORT_KEYS) (port_keys change ms) (port_among change ms) ms

-- The key rules of gates accept the same tables as `gate_keys`.
pub gate_alike : (change : Option ℕ) (ms : Members) → has_allowed_keys (is_some change) GATE_KEYS ms ≡ has_known_keys (gate_keys change ms) ms
gate_alike change ms = known_alike (allowed_keys (is_some change) ms GATE_KEYS) (gate_keys change ms) (gate_among change ms) ms
