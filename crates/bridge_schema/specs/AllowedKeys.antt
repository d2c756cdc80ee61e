-- Keys that are allowed in a table of a plan.
use Rattle.std.specs.Prelude.{Bool, true, false, not, ◌&&◌, List, [], ◌∷◌, Option, Some, if◌then◌else◌}
use Rattle.toml.specs.Data.{Data, array, table, Items, no_items, item, Members}
use Rattle.bridge_schema.specs.declared.plan_fault.Field.{Field}
use Rattle.bridge_schema.specs.declared.keys.KeyRule.{KeyRule}
use Rattle.bridge_schema.specs.declared.keys.Presence.{Presence}
use Rattle.bridge_schema.specs.declared.keys.Presence.TheVariants as presence
use Rattle.bridge_schema.specs.Readers.{has_key, has_known_keys}

-- True if a key with this presence rule is allowed in the table. `change` is true if the plan has a schedule change.
abbrev pub is_allowed_presence : Bool → Members → Presence → Bool
is_allowed_presence change ms presence.Required = true
is_allowed_presence change ms presence.Optional = true
is_allowed_presence change ms (presence.WithList list) = has_key list ms
is_allowed_presence change ms (presence.WithoutKey other) = not (has_key other ms)
is_allowed_presence change ms (presence.WithListInChange list) = has_key list ms && change
is_allowed_presence change ms (presence.WithNextList list next) = has_key list ms && (change && has_key next ms)

-- Keys of the list that are allowed in the table.
abbrev pub allowed_keys : Bool → Members → List KeyRule → List Field
allowed_keys change ms [] = []
allowed_keys change ms (k ∷ ks) = if is_allowed_presence change ms k.2 then k.0 ∷ allowed_keys change ms ks else allowed_keys change ms ks

-- True if the table has only allowed keys of the list.
abbrev pub has_allowed_keys : Bool → List KeyRule → Members → Bool
has_allowed_keys change keys ms = has_known_keys (allowed_keys change ms keys) ms

-- True if each table among the items has only allowed keys of the list, in a plan without a schedule change.
abbrev pub have_allowed_keys : List KeyRule → Items → Bool
have_allowed_keys keys no_items = true
have_allowed_keys keys (item (table ms) ds) = has_allowed_keys false keys ms && have_allowed_keys keys ds
have_allowed_keys keys (item _ ds) = have_allowed_keys keys ds

-- True if the value isn't an array, or each table in it has only allowed keys of the list.
abbrev pub has_allowed_entry_keys : List KeyRule → Option Data → Bool
has_allowed_entry_keys keys (Some (array items)) = have_allowed_keys keys items
has_allowed_entry_keys keys _ = true
