use Rattle.bridge_filter.proofs.police.Police.counters.Goals as goal

pub returns-clause-counters : goal.returns-clause-counters
returns-clause-counters g c = λ p es stands. (stands.kept c.args.filter c.filter_state.result c.filter_state.ensures.kept).counters
