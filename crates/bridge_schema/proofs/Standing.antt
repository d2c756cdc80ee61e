-- Keys that are allowed in a table.
use Rattle.std.proofs.Common.{◌≡◌, Bool, true, false, ◌&&◌, ◌||◌, ℕ, List, [], ◌∷◌, nat_eq, refl, ap, ◌∙◌, if◌then◌else◌}
use Rattle.std.specs.List.{list_any}
use Rattle.std.specs.Cmp.Lexicographic.{pointwise}
use Rattle.toml.specs.Data.{Members, no_members, member}
use Rattle.bridge_schema.specs.declared.plan_fault.Field.{Field}
use Rattle.bridge_schema.specs.declared.keys.KeyRule.{KeyRule}
use Rattle.bridge_schema.specs.Keys.{key_name}
use Rattle.bridge_schema.specs.Readers.{is_key_name, has_known_keys}
use Rattle.bridge_schema.specs.AllowedKeys.{is_allowed_presence, allowed_keys}

with_true : (b c : Bool) → (b && true || c) ≡ (b || c)
with_true true c = refl
with_true false c = refl

with_false : (b c : Bool) → (b && false || c) ≡ c
with_false true c = refl
with_false false c = refl

one_more : (may : Bool) (field : Field) (fields : List Field) (name : List ℕ) → (pointwise nat_eq (key_name field) name && may || is_key_name fields name) ≡ is_key_name (if may then field ∷ fields else fields) name
one_more true field fields name = with_true (pointwise nat_eq (key_name field) name) (is_key_name fields name)
one_more false field fields name = with_false (pointwise nat_eq (key_name field) name) (is_key_name fields name)

-- An allowed key has a given name exactly if one of all keys has this name and is allowed.
pub among_standing : (change : Bool) (ms : Members) (keys : List KeyRule) (name : List ℕ)
    → list_any (λ (k : KeyRule). pointwise nat_eq (key_name k.0) name && is_allowed_presence change ms k.2) keys ≡ is_key_name (allowed_keys change ms keys) name
among_standing change ms [] name = refl
among_standing change ms (k ∷ ks) name =
    ap (λ rest. pointwise nat_eq (key_name k.0) name && is_allowed_presence change ms k.2 || rest) (among_standing change ms ks name)
    ∙ one_more (is_allowed_presence change ms k.2) k.0 (allowed_keys change ms ks) name

-- Key lists with equal names accept the same tables.
pub known_alike : (these those : List Field) → ((name : List ℕ) → is_key_name these name ≡ is_key_name those name) → (ms : Members) → has_known_keys these ms ≡ has_known_keys those ms
known_alike these those same no_members = refl
known_alike these those same (member k d ms) = ap (λ is. is && has_known_keys these ms) (same k) ∙ ap (λ are. is_key_name those k && are) (known_alike these those same ms)
