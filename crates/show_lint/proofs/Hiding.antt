-- Frames that a hiding entry matches.
use Rattle.std.proofs.Common.{ℕ, ◌≡◌, true, false, Bool, List, [], ◌∷◌, ◌||◌, nat_eq, ◌&&◌, not, sym, subst, refl}
use Rattle.std.specs.Str.{bytes_eq}
use Rattle.std.proofs.lemmas.Bool.{and_parts, and_from, eqb-true}
use Rattle.bridge_frame.specs.declared.Tag.{Tag}
use Rattle.std.specs.Prelude.{Option}
use Rattle.bridge_limits.proofs.Octets.{same_bytes}
use Rattle.bridge_ident.specs.declared.Kind.{Kind}
use Rattle.bridge_ident.specs.declared.Kind.TheVariants as kind
use Rattle.bridge_ident.specs.declared.TagKind.{TagKind}
use Rattle.bridge_ident.specs.declared.TagKind.TheVariants as tag
use Rattle.bridge_ident.specs.declared.StreamEntry.{StreamEntry}
use Rattle.bridge_frame.specs.declared.Head.{Head}
use Rattle.bridge_ident.specs.Identification.{compared_address, is_match, has_vlan_tag, accepts_tag}
use Rattle.show_lint.specs.Streams.{HideTogether, Hides, cover, covers, hides, is_same_kind, is_place, matches_any, takes_named, covers_tag}

same_kind : (k l : Kind) → is_same_kind k l ≡ true → k ≡ l
same_kind kind.Null kind.Null h = refl
same_kind kind.Source kind.Source h = refl
same_kind kind.Null kind.Source h = absurd (cc)
same_kind kind.Source kind.Null h = absurd (cc)

more_tags : (s t : TagKind) (own : Option Tag) → covers_tag s t ≡ true → accepts_tag t own ≡ true → accepts_tag s own ≡ true
more_tags tag.All t own h m = refl
more_tags tag.Tagged tag.Tagged own h m = m
more_tags tag.Priority tag.Priority own h m = m
more_tags tag.Tagged tag.Priority own h m = absurd (cc)
more_tags tag.Tagged tag.All own h m = absurd (cc)
more_tags tag.Priority tag.Tagged own h m = absurd (cc)
more_tags tag.Priority tag.All own h m = absurd (cc)

-- An entry with equal port, VLAN and address matches a frame of the other, if its tag kind accepts the tag.
same_place : (one other : StreamEntry) (port : ℕ) (head : Head) (vid : ℕ) → is_place one other ≡ true → is_match other port head vid ≡ true
    → accepts_tag one.tag head.tag ≡ true → is_match one port head vid ≡ true
same_place one other port head vid kinds_hold m own_tag =
    let kinds = and_parts (nat_eq one.port other.port && nat_eq one.vid other.vid && bytes_eq one.address other.address) (is_same_kind one.kind other.kind) kinds_hold in
    let addresses = and_parts (nat_eq one.port other.port && nat_eq one.vid other.vid) (bytes_eq one.address other.address) kinds.0 in
    let places = and_parts (nat_eq one.port other.port) (nat_eq one.vid other.vid) addresses.0 in
    let tag = and_parts (nat_eq other.port port && nat_eq other.vid vid && bytes_eq other.address (compared_address other.kind head)) (accepts_tag other.tag head.tag) m in
    let address = and_parts (nat_eq other.port port && nat_eq other.vid vid) (bytes_eq other.address (compared_address other.kind head)) tag.0 in
    let place = and_parts (nat_eq other.port port) (nat_eq other.vid vid) address.0 in
    let at : nat_eq one.port port ≡ true = subst (λ n. nat_eq n port ≡ true) (sym (eqb-true one.port other.port places.0)) place.0 in
    let in_vlan : nat_eq one.vid vid ≡ true = subst (λ n. nat_eq n vid ≡ true) (sym (eqb-true one.vid other.vid places.1)) place.1 in
    let of_kind : bytes_eq other.address (compared_address one.kind head) ≡ true = subst (λ k. bytes_eq other.address (compared_address k head) ≡ true) (sym (same_kind one.kind other.kind kinds.1)) address.1 in
    let to : bytes_eq one.address (compared_address one.kind head) ≡ true = subst (λ xs. bytes_eq xs (compared_address one.kind head) ≡ true) (sym (same_bytes one.address other.address addresses.1)) of_kind in
    and_from (nat_eq one.port port && nat_eq one.vid vid && bytes_eq one.address (compared_address one.kind head)) (accepts_tag one.tag head.tag)
    (and_from (nat_eq one.port port && nat_eq one.vid vid) (bytes_eq one.address (compared_address one.kind head)) (and_from (nat_eq one.port port) (nat_eq one.vid vid) at in_vlan) to)
    own_tag

-- Each frame that a hidden entry matches also matches the hiding entry.
pub hides_frames : (one other : StreamEntry) → hides one other ≡ true → Hides one other
hides_frames one other h port head vid m =
    let tags = and_parts (is_place one other) (covers_tag one.tag other.tag) h in
    let tag = and_parts (nat_eq other.port port && nat_eq other.vid vid && bytes_eq other.address (compared_address other.kind head)) (accepts_tag other.tag head.tag) m in
    same_place one other port head vid tags.0 m (more_tags one.tag other.tag head.tag tags.1 tag.1)

named_tags : (s : TagKind) (own : Option Tag) → takes_named s (has_vlan_tag own) ≡ true → accepts_tag s own ≡ true
named_tags tag.All own h = refl
named_tags tag.Tagged own h = h
named_tags tag.Priority own h = h

or_left : (a b : Bool) → a ≡ true → a || b ≡ true
or_left true b h = refl
or_left false b h = absurd (cc)

or_right : (a b : Bool) → b ≡ true → a || b ≡ true
or_right true b h = refl
or_right false b h = h

-- If one of two facts holds, one of two consequences holds.
or_either : (a b c d : Bool) → a || b ≡ true → (a ≡ true → c ≡ true) → (b ≡ true → d ≡ true) → c || d ≡ true
or_either true b c d h f g = or_left c d (f refl)
or_either false b c d h f g = or_right c d (g h)

-- Entries that cover all frames with a VLAN, or all others, match a frame of this kind.
covers_frames : (es : List StreamEntry) (other : StreamEntry) (port : ℕ) (head : Head) (vid : ℕ) → covers es other (has_vlan_tag head.tag) ≡ true
    → is_match other port head vid ≡ true → matches_any es port head vid ≡ true
covers_frames [] other port head vid h m = absurd (cc)
covers_frames (e ∷ es) other port head vid h m =
    or_either (is_place e other && takes_named e.tag (has_vlan_tag head.tag)) (covers es other (has_vlan_tag head.tag)) (is_match e port head vid) (matches_any es port head vid) h
    (λ taken. let parts = and_parts (is_place e other) (takes_named e.tag (has_vlan_tag head.tag)) taken in
    same_place e other port head vid parts.0 m (named_tags e.tag head.tag parts.1))
    (λ rest. covers_frames es other port head vid rest m)

either_named : (es : List StreamEntry) (other : StreamEntry) (named : Bool) → cover es other ≡ true → covers es other named ≡ true
either_named es other true h = (and_parts (covers es other true) (covers es other false) h).0
either_named es other false h = (and_parts (covers es other true) (covers es other false) h).1

-- Each frame that an entry hidden by several entries matches also matches one of them.
pub cover_frames : (es : List StreamEntry) (other : StreamEntry) → cover es other ≡ true → HideTogether es other
cover_frames es other h port head vid m = covers_frames es other port head vid (either_named es other (has_vlan_tag head.tag) h) m
