-- The first matching entry is the earlier of the first entries for the two addresses.
use Rattle.std.proofs.Common.{◌≡◌, ℕ, ◌+◌, ◌<◌, ◌≤◌, Bool, true, false, ◌&&◌, nat_eq, nat_lt, Option, Some, None, List, [], ◌∷◌, length, get_or, drop, refl, sym, ap, ◌∙◌, add-one, drop-cons, arith}
use Rattle.std.specs.Option.{option_map, option_or}
use Rattle.std.specs.Str.{bytes_eq}
use Rattle.std.proofs.lemmas.Bool.{lt-ltb, le-ltb}
use Rattle.std.proofs.lemmas.List.{at_drop_all}
use Rattle.bridge_limits.proofs.Cases.{by_bool}
use Rattle.bridge_frame.specs.declared.Head.{Head}
use Rattle.bridge_frame.specs.declared.Tag.{Tag}
use Rattle.bridge_ident.specs.declared.Kind.{Kind}
use Rattle.bridge_ident.specs.declared.Kind.TheVariants.{Null, Source}
use Rattle.bridge_ident.specs.declared.TagKind.{TagKind}
use Rattle.bridge_ident.specs.declared.TagKind.TheVariants.{Tagged, Priority, All}
use Rattle.bridge_ident.specs.declared.StreamEntry.{StreamEntry}
use Rattle.bridge_ident.specs.declared.stream_index.FirstEntry.{FirstEntry}
use Rattle.bridge_ident.specs.Identification.{accepts_tag, has_vlan_tag, is_match, first_handle}
use Rattle.bridge_ident.specs.StreamIndex.{accepts_tagged, is_of_kind, has_key, first_entry, earlier_entry}

-- Case distinction on the kind.
by_kind : {A : Type 0} (k : Kind) → (k ≡ Null → A) → (k ≡ Source → A) → A
by_kind Null f g = f refl
by_kind Source f g = g refl

-- Splits off the first of the remaining entries.
pub one_more : (o : Option FirstEntry) (kind : Kind) (tagged : Bool) (n : ℕ) (e : StreamEntry) (es : List StreamEntry) (port vid : ℕ) (address : List ℕ) → option_or (option_or o (first_entry kind tagged n (e ∷ []) port vid address)) (first_entry kind tagged (n + 1) es port vid address) ≡ option_or o (first_entry kind tagged n (e ∷ es) port vid address)
one_more (Some f) kind tagged n e es port vid address = refl
one_more None kind tagged n e es port vid address = by_bool (is_of_kind kind tagged e && has_key e port vid address) (λ h. rw h refl) (λ h. rw h refl)

left : (es : List StreamEntry) (i : ℕ) (d : StreamEntry) → i < length es → drop i es ≡ get_or es i d ∷ drop (i + 1) es
left es i d l = rw (add-one, drop-cons es i d) refl

-- Moves the entry at index `i` from the remaining entries to the found one.
pub next_place : (kind : Kind) (tagged : Bool) (es : List StreamEntry) (i : ℕ) (d : StreamEntry) (o p found : Option FirstEntry) (port vid : ℕ) (address : List ℕ) → i < length es →
    p ≡ option_or o (first_entry kind tagged i (get_or es i d ∷ []) port vid address) →
    option_or o (first_entry kind tagged i (drop i es) port vid address) ≡ found →
    option_or p (first_entry kind tagged (i + 1) (drop (i + 1) es) port vid address) ≡ found
next_place kind tagged es i d o p found port vid address l kept before =
    ap (λ (q : Option FirstEntry). option_or q (first_entry kind tagged (i + 1) (drop (i + 1) es) port vid address)) kept
    ∙ (one_more o kind tagged i (get_or es i d) (drop (i + 1) es) port vid address
    ∙ (ap (λ (rest : List StreamEntry). option_or o (first_entry kind tagged i rest port vid address)) (sym (left es i d l)) ∙ before))

-- If no entry remains, the found entry is the first of all entries.
pub none_left : (kind : Kind) (tagged : Bool) (es : List StreamEntry) (i : ℕ) (o found : Option FirstEntry) (port vid : ℕ) (address : List ℕ) → length es ≤ i → option_or o (first_entry kind tagged i (drop i es) port vid address) ≡ found → o ≡ found
none_left kind tagged es i None found port vid address l before = sym (at_drop_all (λ (rest : List StreamEntry). first_entry kind tagged i rest port vid address) es i l) ∙ before
none_left kind tagged es i (Some f) found port vid address l before = before

-- An entry precedes each entry found from a later index on.
stands_before : (f : FirstEntry) (kind : Kind) (tagged : Bool) (n : ℕ) (es : List StreamEntry) (port vid : ℕ) (address : List ℕ) → f.place < n → earlier_entry (Some f) (first_entry kind tagged n es port vid address) ≡ Some f
stands_before f kind tagged n [] port vid address l = refl
stands_before f kind tagged n (e ∷ es) port vid address l = by_bool (is_of_kind kind tagged e && has_key e port vid address)
    (λ h. let off : nat_lt n f.place ≡ false = le-ltb n f.place (omega arith) in rw (h, off) refl)
    (λ h. rw h (stands_before f kind tagged (n + 1) es port vid address (omega arith)))

stands_behind : (f : FirstEntry) (kind : Kind) (tagged : Bool) (n : ℕ) (es : List StreamEntry) (port vid : ℕ) (address : List ℕ) → f.place < n → earlier_entry (first_entry kind tagged n es port vid address) (Some f) ≡ Some f
stands_behind f kind tagged n [] port vid address l = refl
stands_behind f kind tagged n (e ∷ es) port vid address l = by_bool (is_of_kind kind tagged e && has_key e port vid address)
    (λ h. let on : nat_lt f.place n ≡ true = lt-ltb f.place n l in rw (h, on) refl)
    (λ h. rw h (stands_behind f kind tagged (n + 1) es port vid address (omega arith)))

-- A tag kind depends only on whether the tag names a VLAN.
takes_same : (k : TagKind) (tag : Option Tag) → accepts_tagged k (has_vlan_tag tag) ≡ accepts_tag k tag
takes_same Tagged tag = refl
takes_same Priority tag = refl
takes_same All tag = refl

turned : (t p v a : Bool) → (t && (p && v && a)) ≡ (p && v && a && t)
turned true true true true = refl
turned true true true false = refl
turned true true false a = refl
turned true false v a = refl
turned false true true true = refl
turned false true true false = refl
turned false true false a = refl
turned false false v a = refl

-- An entry of kind `Null` matches by the destination address only.
null_matches : (e : StreamEntry) (port : ℕ) (head : Head) (vid : ℕ) → e.kind ≡ Null → (is_of_kind Null (has_vlan_tag head.tag) e && has_key e port vid head.da) ≡ is_match e port head vid
null_matches e port head vid k = rw k (turned (accepts_tagged e.tag (has_vlan_tag head.tag)) (nat_eq e.port port) (nat_eq e.vid vid) (bytes_eq e.address head.da) ∙ ap (λ b. nat_eq e.port port && nat_eq e.vid vid && bytes_eq e.address head.da && b) (takes_same e.tag head.tag))

source_matches : (e : StreamEntry) (port : ℕ) (head : Head) (vid : ℕ) → e.kind ≡ Source → (is_of_kind Source (has_vlan_tag head.tag) e && has_key e port vid head.sa) ≡ is_match e port head vid
source_matches e port head vid k = rw k (turned (accepts_tagged e.tag (has_vlan_tag head.tag)) (nat_eq e.port port) (nat_eq e.vid vid) (bytes_eq e.address head.sa) ∙ ap (λ b. nat_eq e.port port && nat_eq e.vid vid && bytes_eq e.address head.sa && b) (takes_same e.tag head.tag))

null_no_source : (e : StreamEntry) (tagged : Bool) (port vid : ℕ) (address : List ℕ) → e.kind ≡ Null → (is_of_kind Source tagged e && has_key e port vid address) ≡ false
null_no_source e tagged port vid address k = rw k refl

source_no_null : (e : StreamEntry) (tagged : Bool) (port vid : ℕ) (address : List ℕ) → e.kind ≡ Source → (is_of_kind Null tagged e && has_key e port vid address) ≡ false
source_no_null e tagged port vid address k = rw k refl

-- The first matching entry is the earlier of the first entries for the two addresses, with indexes counted from `n`.
walk : (n : ℕ) (es : List StreamEntry) (port : ℕ) (head : Head) (vid : ℕ) → first_handle es port head vid ≡ option_map (λ f. f.handle) (earlier_entry (first_entry Null (has_vlan_tag head.tag) n es port vid head.da) (first_entry Source (has_vlan_tag head.tag) n es port vid head.sa))
walk n [] port head vid = refl
walk n (e ∷ es) port head vid =
    let tagged = has_vlan_tag head.tag in
    let here : FirstEntry = record { place = n; handle = e.handle } in
    by_kind e.kind
    (λ k. by_bool (is_match e port head vid)
    (λ m. rw (m, null_matches e port head vid k ∙ m, null_no_source e tagged port vid head.sa k) (sym (ap (option_map (λ (f : FirstEntry). f.handle)) (stands_before here Source tagged (n + 1) es port vid head.sa (omega arith)))))
    (λ m. rw (m, null_matches e port head vid k ∙ m, null_no_source e tagged port vid head.sa k) (walk (n + 1) es port head vid)))
    (λ k. by_bool (is_match e port head vid)
    (λ m. rw (m, source_matches e port head vid k ∙ m, source_no_null e tagged port vid head.da k) (sym (ap (option_map (λ (f : FirstEntry). f.handle)) (stands_behind here Null tagged (n + 1) es port vid head.da (omega arith)))))
    (λ m. rw (m, source_matches e port head vid k ∙ m, source_no_null e tagged port vid head.da k) (walk (n + 1) es port head vid)))

-- The handle of a frame comes from the earlier of the first entries for its two addresses.
pub handle_by_firsts : (es : List StreamEntry) (port : ℕ) (head : Head) (vid : ℕ) → first_handle es port head vid ≡ option_map (λ f. f.handle) (earlier_entry (first_entry Null (has_vlan_tag head.tag) 0 es port vid head.da) (first_entry Source (has_vlan_tag head.tag) 0 es port vid head.sa))
handle_by_firsts es port head vid = walk 0 es port head vid
