use Rattle.std.proofs.Common.{subst, sym}
use Rattle.std.specs.Option.{ForSome}
use Rattle.net_file.specs.Model.{Stream}
use Rattle.net_file.specs.Rules.{IsTalker}
use Rattle.net_check.proofs.deadline_search.searched_streams.Goals as goal

pub is_searched-can_change-requires-clause-talkers : goal.is_searched-can_change-requires-clause-talkers
is_searched-can_change-requires-clause-talkers c = subst (λ (s : Stream). ForSome s.talker IsTalker) (sym c.stream-item.is) (c.requires.talkers c.loop-stream.stream-index _ c.loop-stream-test.true)
