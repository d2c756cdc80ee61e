use Rattle.std.proofs.Common.{◌∙◌, ap, sym, nat_eq, get_or, Some}
use Rattle.std.specs.Map.{keys_of}
use Rattle.std.proofs.lemmas.Bool.{eqb-true}
use Rattle.std.proofs.lemmas.List.Quantifiers.{position-Some}
use Rattle.std.proofs.lemmas.Option.{slice_get-get_or}
use Rattle.bridge_filter.proofs.route.instance_index.Goals as goal

pub returns : goal.returns
returns g c =
    let keys = keys_of c.args.instances.now.entries in
    let n = c.args.number in
    let i = c.in-Some.place in
    let at = position-Some (nat_eq n) keys i 0 (sym c.in-Some.ensures.index) in
    slice_get-get_or keys i 0 at.0 ∙ ap Some (sym (eqb-true n (get_or keys i 0) at.1))
