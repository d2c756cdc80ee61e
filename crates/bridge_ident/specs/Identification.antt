-- Stream identification by the destination or the source address (IEEE 802.1CB-2017, 6.4 and 6.5).
use Rattle.std.specs.Prelude.{◌≡◌, ℕ, Bool, true, false, not, ◌&&◌, nat_eq, Option, Some, None, List, [], ◌∷◌, if◌then◌else◌}
use Rattle.std.specs.Str.{bytes_eq}
use Rattle.bridge_limits.specs.Members.{IsMember}
use Rattle.bridge_frame.specs.declared.Head.{Head}
use Rattle.bridge_frame.specs.declared.Tag.{Tag}
use Rattle.bridge_ident.specs.declared.Kind.{Kind}
use Rattle.bridge_ident.specs.declared.Kind.TheVariants.{Null, Source}
use Rattle.bridge_ident.specs.declared.TagKind.{TagKind}
use Rattle.bridge_ident.specs.declared.TagKind.TheVariants.{Tagged, Priority, All}
use Rattle.bridge_ident.specs.declared.StreamEntry.{StreamEntry}

-- Address in the frame header `head` that a stream entry compares: destination for the kind Null, source for the kind
-- Source.
abbrev pub compared_address : Kind → Head → List ℕ
compared_address Null head = head.da
compared_address Source head = head.sa

-- True if the frame has a tag with a VLAN identifier other than 0; an untagged or priority-tagged frame gives false.
abbrev pub has_vlan_tag : Option Tag → Bool
has_vlan_tag None = false
has_vlan_tag (Some tag) = not (nat_eq tag.vid 0)

-- True if a stream entry of this tag kind accepts a frame with this tag; `None` is an untagged frame. Tagged accepts
-- VLAN identifiers above 0, Priority all other frames, All every frame.
abbrev pub accepts_tag : TagKind → Option Tag → Bool
accepts_tag Tagged tag = has_vlan_tag tag
accepts_tag Priority tag = not (has_vlan_tag tag)
accepts_tag All tag = true

-- True if the frame matches the stream entry `e`: equal ingress port and VLAN, equal compared address, and a tag that
-- the entry accepts.
abbrev pub is_match : StreamEntry → ℕ → Head → ℕ → Bool
is_match e port head vid = nat_eq e.port port && nat_eq e.vid vid && bytes_eq e.address (compared_address e.kind head) && accepts_tag e.tag head.tag

-- Stream handle of the first entry in the stream identity table that matches the frame; `None` if no entry matches.
abbrev pub first_handle : List StreamEntry → ℕ → Head → ℕ → Option ℕ
first_handle [] port head vid = None
first_handle (e ∷ es) port head vid = if is_match e port head vid then Some e.handle else first_handle es port head vid

-- Holds if an entry of the table matches the frame and gives the handle `h`.
pub record HasEntry (entries : List StreamEntry) (port : ℕ) (head : Head) (vid h : ℕ) : Type 0 where
  pub entry : StreamEntry
  pub listed : IsMember entry entries
  pub handle : entry.handle ≡ h
  pub matches : is_match entry port head vid ≡ true
