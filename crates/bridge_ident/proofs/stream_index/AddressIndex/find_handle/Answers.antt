use Rattle.std.proofs.Common.{◌≡◌, Option, sym, ap, ◌∙◌, nat_eq}
use Rattle.indexmap.specs.IndexMap.{get}
use Rattle.std.specs.Option.{option_map}
use Rattle.bridge_ident.specs.declared.Kind.TheVariants.{Null, Source}
use Rattle.bridge_ident.specs.declared.stream_index.FirstEntry.{FirstEntry}
use Rattle.bridge_ident.specs.Identification.{has_vlan_tag}
use Rattle.bridge_ident.specs.StreamIndex.{first_entry, earlier_entry}
use Rattle.bridge_ident.proofs.Walks.{handle_by_firsts}
use Rattle.bridge_ident.proofs.stream_index.AddressIndex.find_handle.Goals as goal

pub returns : goal.returns
returns g c = λ entries found.
    let port = c.args.port in
    let vid = c.args.vid in
    let head = c.args.head.now in
    let tagged = has_vlan_tag head.tag in
    let da = c.entry_key-da in
    let sa = c.entry_key-sa in
    let destination = get nat_eq c.args.self.now.destinations da.result in
    let source = get nat_eq c.args.self.now.sources sa.result in
    let first_destination : destination ≡ first_entry Null tagged 0 entries port vid head.da = ap (get nat_eq c.args.self.now.destinations) da.ensures.number ∙ found.by_destination.found port vid head.da da.ensures.is_key in
    let first_source : source ≡ first_entry Source tagged 0 entries port vid head.sa = ap (get nat_eq c.args.self.now.sources) sa.ensures.number ∙ found.by_source.found port vid head.sa sa.ensures.is_key in
    let first : earlier_entry destination source ≡ earlier_entry (first_entry Null tagged 0 entries port vid head.da) (first_entry Source tagged 0 entries port vid head.sa) = ap (λ (o : Option FirstEntry). earlier_entry o source) first_destination ∙ ap (earlier_entry (first_entry Null tagged 0 entries port vid head.da)) first_source in
    c.handle_by_keys.ensures found.destinations_marked found.sources_marked ∙ (ap (option_map (λ (f : FirstEntry). f.handle)) first ∙ sym (handle_by_firsts entries port head vid))
