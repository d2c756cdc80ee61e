-- Index of a stream identity table. No public clause uses these definitions.
use Rattle.std.specs.Prelude.{◌≡◌, ◌+◌, ◌*◌, ◌%◌, ◌^◌, ℕ, Bool, true, false, not, ◌&&◌, nat_eq, nat_lt, Option, Some, None, List, [], ◌∷◌, slice_get, if◌then◌else◌}
use Rattle.std.specs.Str.{bytes_eq}
use Rattle.indexmap.specs.IndexMap.{IndexMap, get}
use Rattle.bridge_frame.specs.Addresses.{IsKey, address_key}
use Rattle.bridge_ident.specs.declared.Kind.{Kind}
use Rattle.bridge_ident.specs.declared.Kind.TheVariants.{Null, Source}
use Rattle.bridge_ident.specs.declared.TagKind.{TagKind}
use Rattle.bridge_ident.specs.declared.TagKind.TheVariants.{Tagged, Priority, All}
use Rattle.bridge_ident.specs.declared.StreamEntry.{StreamEntry}
use Rattle.bridge_ident.specs.declared.stream_index.FirstEntry.{FirstEntry}

-- True if both kinds of identification compare the same address: destination or source.
abbrev pub is_same_kind : Kind → Kind → Bool
is_same_kind Null Null = true
is_same_kind Null Source = false
is_same_kind Source Null = false
is_same_kind Source Source = true

-- True if an entry of this tag kind accepts frames with a VLAN tag (`tagged` is true) or other frames (`tagged` is
-- false).
abbrev pub accepts_tagged : TagKind → Bool → Bool
accepts_tagged Tagged tagged = tagged
accepts_tagged Priority tagged = not tagged
accepts_tagged All tagged = true

-- True if an entry compares addresses of this kind, and accepts frames with a VLAN tag (`tagged` is true) or other
-- frames (`tagged` is false).
abbrev pub is_of_kind : Kind → Bool → StreamEntry → Bool
is_of_kind kind tagged e = is_same_kind e.kind kind && accepts_tagged e.tag tagged

-- True if an entry has this port, VLAN identifier and address.
abbrev pub has_key : StreamEntry → ℕ → ℕ → List ℕ → Bool
has_key e port vid address = nat_eq e.port port && nat_eq e.vid vid && bytes_eq e.address address

-- First entry of kind `kind` with this port, VLAN identifier and address, among those for frames with (`tagged`) or
-- without a VLAN tag. `None` if no entry matches.
--
-- The result is the entry's index, counted from `n`, and its handle.
abbrev pub first_entry : Kind → Bool → ℕ → List StreamEntry → ℕ → ℕ → List ℕ → Option FirstEntry
first_entry kind tagged n [] port vid address = None
first_entry kind tagged n (e ∷ es) port vid address = if is_of_kind kind tagged e && has_key e port vid address then Some (record { place = n; handle = e.handle }) else first_entry kind tagged (n + 1) es port vid address

-- Entry with the lower index; `None` if both are absent.
abbrev pub earlier_entry : Option FirstEntry → Option FirstEntry → Option FirstEntry
earlier_entry None source = source
earlier_entry (Some d) None = Some d
earlier_entry (Some d) (Some s) = if nat_lt s.place d.place then Some s else Some d

-- Key of a port, a VLAN identifier and an address as one number.
unfoldable pub entry_key : ℕ → ℕ → List ℕ → ℕ
entry_key port vid address = port * 2 ^ 64 + address_key vid address

-- Holds if the table `firsts` gives the first entry of this kind for each key.
pub record HasFirstEntries {T : Type 0} (kind : Kind) (tagged : Bool) (entries : List StreamEntry) (firsts : IndexMap ℕ FirstEntry T) : Type 0 where
  pub found : (port vid : ℕ) (address : List ℕ) → IsKey vid address → get nat_eq firsts (entry_key port vid address) ≡ first_entry kind tagged 0 entries port vid address

-- Holds if for each key in the table, the last octet of the key is marked.
abbrev pub HasMarks : {T : Type 0} → IndexMap ℕ FirstEntry T → List Bool → Type 0
HasMarks firsts marks = (key : ℕ) (first : FirstEntry) → get nat_eq firsts key ≡ Some first → slice_get marks (key % 256) ≡ Some true

-- Holds if both tables give the first entries of their kind, and all their keys are marked.
pub record HasAddressEntries {T : Type 0} (tagged : Bool) (entries : List StreamEntry) (destinations : IndexMap ℕ FirstEntry T) (destination_marks : List Bool) (sources : IndexMap ℕ FirstEntry T) (source_marks : List Bool) : Type 0 where
  pub by_destination : HasFirstEntries Null tagged entries destinations
  pub destinations_marked : HasMarks destinations destination_marks
  pub by_source : HasFirstEntries Source tagged entries sources
  pub sources_marked : HasMarks sources source_marks
