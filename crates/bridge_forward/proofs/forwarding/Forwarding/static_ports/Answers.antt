use Rattle.std.proofs.Common.{◌≡◌, ℕ, Option, ◌∙◌, ap, sym, nat_eq}
use Rattle.indexmap.specs.IndexMap.{get}
use Rattle.bridge_forward.specs.Database.{Database, static_ports}
use Rattle.bridge_forward.proofs.forwarding.Forwarding.static_ports.Goals as goal

pub returns-in-Some : goal.returns-in-Some
returns-in-Some g c =
    let vid = c.args.vid in
    let da = c.args.da.now in
    sym c.in-Some.ensures ∙ (ap (get nat_eq c.self.inside.entries) c.address_key-key.ensures.number ∙ (c.self.invariant.entry_found vid da c.address_key-key.ensures.is_key ∙ ap (λ (db : Database). static_ports db.statics vid da) c.self.view_is))

pub returns-in-None : goal.returns-in-None
returns-in-None g c =
    let vid = c.args.vid in
    let da = c.args.da.now in
    c.ports_by_hash.ensures ∙ (ap (get nat_eq c.self.inside.entries) c.address_key-key.ensures.number ∙ (c.self.invariant.entry_found vid da c.address_key-key.ensures.is_key ∙ ap (λ (db : Database). static_ports db.statics vid da) c.self.view_is))
