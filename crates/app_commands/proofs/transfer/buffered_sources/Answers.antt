use Rattle.std.proofs.Common.{map, ap, sym, ◌∙◌, rules}
use Rattle.std.proofs.lemmas.List.{map-id}
use Rattle.std.proofs.lemmas.Iterator.Adapters.{YieldsList-from_vec}
use Rattle.std.proofs.lemmas.Iterator.Consumers.{YieldsList-end}
use Rattle.app_commands.proofs.transfer.buffered_sources.Goals as goal

pub returns : goal.returns
returns g c =
    let all = c.args.readers.items in
    let yielded = c.loop-reader.yielded in
    let road = YieldsList-from_vec {s = c.into_iter-reader-iterator.result} all c.into_iter-reader-iterator.ensures.into_iter_gives.0 (search rules) in
    let end = YieldsList-end road yielded c.loop-reader.reader-iterator c.loop-reader.yielded_by c.next.result c.next.new.self c.in-None.is c.next.ensures.steps in
    let same = sym (map-id yielded) ∙ end.0 in
    c.loop-reader.invariant ∙ ap (map g.R.Read.remaining) same
