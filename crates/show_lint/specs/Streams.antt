-- Streams that match no frame, and streams that aren't forwarded.
use Rattle.std.specs.Prelude.{◌≡◌, ◌&&◌, ◌||◌, ℕ, Bool, true, false, not, List, [], ◌∷◌, Option, Some, None, nat_eq, if◌then◌else◌}
use Rattle.std.specs.Str.{bytes_eq}
use Rattle.bridge_frame.specs.declared.Head.{Head}
use Rattle.bridge_forward.specs.Forward.{forward}
use Rattle.bridge_forward.specs.Ports.{IsEmpty}
use Rattle.bridge_ident.specs.declared.Kind.{Kind}
use Rattle.bridge_ident.specs.declared.Kind.TheVariants as kind
use Rattle.bridge_ident.specs.declared.TagKind.{TagKind}
use Rattle.bridge_ident.specs.declared.TagKind.TheVariants as tag
use Rattle.bridge_ident.specs.declared.StreamEntry.{StreamEntry}
use Rattle.bridge_ident.specs.Identification.{is_match}
use Rattle.bridge_config.specs.Model.{Plan}

-- True if tag kind `one` accepts every frame that tag kind `other` accepts.
abbrev pub covers_tag : TagKind → TagKind → Bool
covers_tag tag.All other = true
covers_tag tag.Tagged tag.Tagged = true
covers_tag tag.Priority tag.Priority = true
covers_tag one other = false

-- True if both kinds compare the same address of a frame.
abbrev pub is_same_kind : Kind → Kind → Bool
is_same_kind kind.Null kind.Null = true
is_same_kind kind.Source kind.Source = true
is_same_kind one other = false

-- True if entry `one` matches every frame that entry `other` matches: equal port, VLAN and address, and a tag kind that covers the other's.
abbrev pub hides : StreamEntry → StreamEntry → Bool
hides one other = nat_eq one.port other.port && nat_eq one.vid other.vid && bytes_eq one.address other.address && is_same_kind one.kind other.kind && covers_tag one.tag other.tag

-- True if both entries have equal port, VLAN and address, and compare the same address of a frame.
abbrev pub is_place : StreamEntry → StreamEntry → Bool
is_place one other = nat_eq one.port other.port && nat_eq one.vid other.vid && bytes_eq one.address other.address && is_same_kind one.kind other.kind

-- True if the tag kind accepts frames whose tag names a VLAN (`named` true), or other frames (`named` false).
abbrev pub takes_named : TagKind → Bool → Bool
takes_named tag.All named = true
takes_named tag.Tagged named = named
takes_named tag.Priority named = not named

-- True if an entry in the list matches every frame of `other` that names a VLAN (`named` true), or every other frame (`named` false).
abbrev pub covers : List StreamEntry → StreamEntry → Bool → Bool
covers [] other named = false
covers (e ∷ es) other named = is_place e other && takes_named e.tag named || covers es other named

-- True if the entries together match every frame of `other`.
abbrev pub cover : List StreamEntry → StreamEntry → Bool
cover earlier other = covers earlier other true && covers earlier other false

-- True if some entry in the list matches the frame that arrives on `port` in VLAN `vid`.
abbrev pub matches_any : List StreamEntry → ℕ → Head → ℕ → Bool
matches_any [] port head vid = false
matches_any (e ∷ es) port head vid = is_match e port head vid || matches_any es port head vid

-- Holds if every frame that entry `other` matches also matches an entry in the list.
abbrev pub HideTogether : List StreamEntry → StreamEntry → Type 0
HideTogether earlier other = (port : ℕ) (head : Head) (vid : ℕ) → is_match other port head vid ≡ true → matches_any earlier port head vid ≡ true

-- The tag kind that accepts only the frames of a given tag kind which name a VLAN; `None` if there are none.
abbrev pub named_alone : TagKind → Option TagKind
named_alone tag.All = Some tag.Tagged
named_alone tag.Tagged = Some tag.Tagged
named_alone tag.Priority = None

-- The tag kind of the frames that entry `e` can match on a port with default VLAN `own`. `None` if it can match no frame.
abbrev pub tag_on : ℕ → StreamEntry → Option TagKind
tag_on own e = if nat_eq own e.vid then Some e.tag else named_alone e.tag

-- Holds if every frame that entry `other` matches also matches entry `one`.
abbrev pub Hides : StreamEntry → StreamEntry → Type 0
Hides one other = (port : ℕ) (head : Head) (vid : ℕ) → is_match other port head vid ≡ true → is_match one port head vid ≡ true

-- Holds if frames to the entry's address, from its port and VLAN, have no egress port.
abbrev pub IsNotForwarded : {A : Type 0} → Plan A → StreamEntry → Type 0
IsNotForwarded plan e = IsEmpty (forward plan.database e.port e.vid e.address)
