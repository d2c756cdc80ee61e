use Rattle.std.proofs.Common.{◌≡◌, true, nat_eq, sym, ap, ◌∙◌}
use Rattle.bridge_ident.specs.StreamIndex.{is_of_kind, has_key, entry_key}
use Rattle.bridge_ident.proofs.Keys.{same_key}
use Rattle.bridge_ident.proofs.stream_index.index_entry.Goals as goal

pub returns-in_ok-insert_if_new-clause-found : goal.returns-in_ok-insert_if_new-clause-found
returns-in_ok-insert_if_new-clause-found g c = λ port vid address k.
    let e = c.args.entry.now in
    let on : is_of_kind c.args.kind c.args.tagged e ≡ true = sym c.is_of_kind.ensures ∙ c.if-is_of_kind.true in
    let same : nat_eq c.entry_key-key.result (entry_key port vid address) ≡ has_key e port vid address = ap (λ n. nat_eq n (entry_key port vid address)) c.entry_key-key.ensures.number ∙ same_key e.port port e.vid vid e.address address c.entry_key-key.ensures.is_key k in
    rw (on, ← same) (c.in_ok-insert_if_new.ensures.found (entry_key port vid address))
