-- Names, and names of a bridge's port or filter.
use Rattle.std.specs.Prelude.{ℕ, suc, ◌<◌, Bool, ◌&&◌, ◌||◌, ◌==◌, List, [], ◌∷◌, length, Option, Some, None, is_some, Result, Ok, Err, nat_le, nat_lt, if◌then◌else◌}
use Rattle.std.specs.List.{list_all, position_or_len, before_first, after_first}
use Rattle.std.specs.Option.{option_map, ForSome}
use Rattle.std.specs.Char.{is_ascii_alphanumeric}
use Rattle.std.specs.Str.{all_ascii_digits, bytes_eq}
use Rattle.std.specs.Str.Parse.{digits_value}
use Rattle.bridge_schema.specs.declared.plan_fault.Flaw.{Flaw}
use Rattle.bridge_schema.specs.declared.plan_fault.Flaw.TheVariants as flaw
use Rattle.net_file.specs.Model.{Bridge}

-- True if a name may contain character `c`: a letter, a digit, a hyphen or an underscore.
abbrev pub is_name_character : ℕ → Bool
is_name_character c = (is_ascii_alphanumeric c || c == 45) || c == 95

-- True if text `s` is a name: 1 to 32 allowed characters.
abbrev pub is_valid_name : List ℕ → Bool
is_valid_name s = (nat_le 1 (length s) && nat_le (length s) 32) && list_all is_name_character s

-- True if text `s` has at least one character, and all are decimal digits.
abbrev pub is_numeral : List ℕ → Bool
is_numeral s = nat_lt 0 (length s) && all_ascii_digits s

-- The number that text `s` of decimal digits has, if it is from `low` to `high`. Otherwise, or for another text, `None`.
abbrev pub parse_number : ℕ → ℕ → List ℕ → Option ℕ
parse_number low high s =
    if is_numeral s && (nat_le low (digits_value 10 s) && nat_le (digits_value 10 s) high) then Some (digits_value 10 s) else None

-- The two parts of a numbered name: the name of a bridge, and the number of a port or a filter.
pub record NumberedName : Type 0 where
  pub name : List ℕ
  pub number : ℕ

-- True if character `c` is a dot, which separates a bridge's name from a number.
abbrev pub is_dot : ℕ → Bool
is_dot c = c == 46

-- The text before the first dot of text `s`, and the number after it. `None` without a dot or without a number from `low` to `high`.
abbrev pub split_numbered_name : ℕ → ℕ → List ℕ → Option NumberedName
split_numbered_name low high s =
    if nat_lt (position_or_len is_dot s) (length s)
    then option_map (λ n. record { name = before_first is_dot s; number = n }) (parse_number low high (after_first is_dot s))
    else None

-- True if text `s` has a dot, followed by a number from `low` to `high`.
abbrev pub is_numbered_name : ℕ → ℕ → List ℕ → Bool
is_numbered_name low high s = is_some (split_numbered_name low high s)

-- The index of the first bridge with the given name, if the list's first bridge has index `k`. `None` if no bridge has the name.
abbrev pub bridge_index_from_start : ℕ → List Bridge → List ℕ → Option ℕ
bridge_index_from_start k [] name = None
bridge_index_from_start k (b ∷ bs) name = if bytes_eq b.name name then Some k else bridge_index_from_start (suc k) bs name

-- The index of the first bridge with the given name, from 0. `None` if no bridge has the name.
abbrev pub bridge_index : List Bridge → List ℕ → Option ℕ
bridge_index bridges name = bridge_index_from_start 0 bridges name

-- Holds if the optional index `place` is missing or is less than the number of bridges. Proofs of the code use it.
abbrev pub IsBridgeIndex : List Bridge → Option ℕ → Type 0
IsBridgeIndex bridges place = ForSome place (λ k. k < length bridges)

-- The optional index of a bridge and the number `n` as a pair. `Unresolved` if the index is `None`, because no bridge has the name.
abbrev pub pair_with_number : Option ℕ → ℕ → Result (ℕ × ℕ) Flaw
pair_with_number None n = Err flaw.Unresolved
pair_with_number (Some k) n = Ok (k, n)

-- The bridge's index and the number of an optional numbered name, or `OutOfRange` if the name is missing.
abbrev pub resolve_if_named : List Bridge → Option NumberedName → Result (ℕ × ℕ) Flaw
resolve_if_named bridges None = Err flaw.OutOfRange
resolve_if_named bridges (Some x) = pair_with_number (bridge_index bridges x.name) x.number

-- The bridge's index and the number, from `low` to `high`, that text `s` names. The flaw is `OutOfRange` for another form, and
-- `Unresolved` for a missing bridge.
abbrev pub resolve_numbered_name : List Bridge → ℕ → ℕ → List ℕ → Result (ℕ × ℕ) Flaw
resolve_numbered_name bridges low high s = resolve_if_named bridges (split_numbered_name low high s)
