-- Meanings of texts in streams, meters and commands.
use Rattle.std.specs.Prelude.{ℕ, Bool, true, false, List, codes, Option, Some, None, nat_eq, if◌then◌else◌}
use Rattle.std.specs.Cmp.Lexicographic.{pointwise}
use Rattle.bridge_ident.specs.declared.Kind.{Kind}
use Rattle.bridge_ident.specs.declared.Kind.TheVariants as kind
use Rattle.bridge_ident.specs.declared.TagKind.{TagKind}
use Rattle.bridge_ident.specs.declared.TagKind.TheVariants as tag
use Rattle.bridge_filter.specs.declared.Clear.{Clear}
use Rattle.bridge_filter.specs.declared.Clear.TheVariants as clear

-- Kind of identification that the text `s` means: `null` compares the destination address, `source` the source address.
-- `None` for any other text.
abbrev pub parse_ident_kind : List ℕ → Option Kind
parse_ident_kind s = if pointwise nat_eq s (codes "null") then Some kind.Null else if pointwise nat_eq s (codes "source") then Some kind.Source else None

-- Tags of the frames that a stream entry matches: `tagged`, `priority` or `all`. `None` for any other text.
abbrev pub parse_tag_kind : List ℕ → Option TagKind
parse_tag_kind s =
    if pointwise nat_eq s (codes "tagged") then Some tag.Tagged
    else if pointwise nat_eq s (codes "priority") then Some tag.Priority
    else if pointwise nat_eq s (codes "all") then Some tag.All
    else None

-- Whether a meter uses the drop eligible indication of a frame: true for `aware`, false for `blind`. `None` for any
-- other text.
abbrev pub parse_awareness : List ℕ → Option Bool
parse_awareness s = if pointwise nat_eq s (codes "aware") then Some true else if pointwise nat_eq s (codes "blind") then Some false else None

-- Flag that a command clears: `blocked` of a filter, `rx` or `octets` of a stream gate, `red` of a meter. `None` for
-- any other text.
abbrev pub parse_flag : List ℕ → Option Clear
parse_flag s =
    if pointwise nat_eq s (codes "blocked") then Some clear.Blocked
    else if pointwise nat_eq s (codes "rx") then Some clear.Rx
    else if pointwise nat_eq s (codes "octets") then Some clear.Octets
    else if pointwise nat_eq s (codes "red") then Some clear.Red
    else None
