use Rattle.std.proofs.lemmas.Result.{IfOk-weaker}
use Rattle.bridge_ident.proofs.stream_index.with_sources.Goals as goal

pub returns-in-Ok : goal.returns-in-Ok
returns-in-Ok g c = IfOk-weaker c.with_hints.result _ _ (λ found are. are c.args.tagged c.args.entries.now c.requires.found c.requires.marked c.in-Ok.ensures.found c.in-Ok.ensures.marked) c.with_hints.ensures
