use Rattle.std.proofs.Common.{◌≡◌, [], ◌∷◌, ◌++◌, sym, subst, ◌∙◌, rules}
use Rattle.std.proofs.lemmas.List.{map-id}
use Rattle.std.proofs.lemmas.Iterator.Adapters.{YieldsList-from_vec}
use Rattle.std.proofs.lemmas.Iterator.Consumers.{YieldsList-end}
use Rattle.app_commands.specs.Flushed.{AllKept}
use Rattle.app_commands.proofs.Devices.{sunk}
use Rattle.app_commands.proofs.Kept.{kept_push}
use Rattle.app_commands.proofs.transfer.buffered_sinks.Goals as goal

pub returns : goal.returns
returns g c =
    let all = c.args.writers.items in
    let yielded = c.loop-writer.yielded in
    let road = YieldsList-from_vec {s = c.into_iter-writer-iterator.result} all c.into_iter-writer-iterator.ensures.into_iter_gives.0 (search rules) in
    let end = YieldsList-end road yielded c.loop-writer.writer-iterator c.loop-writer.yielded_by c.next.result c.next.new.self c.in-None.is c.next.ensures.steps in
    let same = sym (map-id yielded) ∙ end.0 in
    subst (λ ws. AllKept g.W.Write.contents (sunk g.W.Write.contents) ws c.loop-writer.sinks.items) same c.loop-writer.invariant

pub loop-writer-preserved : goal.loop-writer-preserved
loop-writer-preserved g c =
    let more : c.push.new.self.items ≡ c.loop-writer.sinks.items ++ c.in_ok-sink.sink ∷ [] = search rules in
    subst (AllKept g.W.Write.contents (sunk g.W.Write.contents) (c.loop-writer.yielded ++ c.in-Some.writer ∷ [])) (sym more)
    (kept_push g.W.Write.contents (sunk g.W.Write.contents) c.loop-writer.yielded c.loop-writer.sinks.items c.in-Some.writer c.in_ok-sink.sink c.loop-writer.invariant c.in_ok-sink.ensures.contents)
