use Rattle.std.proofs.Common.{◌≤◌, All, List, length, subst, sym}
use Rattle.std.specs.Option.{ForSome}
use Rattle.net_file.specs.Model.{Stream}
use Rattle.net_file.specs.Rules.{IsTalker}
use Rattle.gate_greens.proofs.networks.trying.network_lines.Goals as goal

pub stream_lines-requires-clause-talkers : goal.stream_lines-requires-clause-talkers
stream_lines-requires-clause-talkers c =
    subst (λ (ss : List Stream). All (λ (s : Stream). ForSome s.talker IsTalker) ss) (sym c.streams.ensures.streams) (λ k d less. (c.streams.ensures.rules.streams.each k d less).talker)

pub stream_lines-requires-clause-some : goal.stream_lines-requires-clause-some
stream_lines-requires-clause-some c =
    subst (λ (ss : List Stream). All (λ (s : Stream). 1 ≤ length s.hops) ss) (sym c.streams.ensures.streams) (λ k d less. (c.streams.ensures.rules.streams.each k d less).some_hop)

pub stream_lines-requires-clause-few : goal.stream_lines-requires-clause-few
stream_lines-requires-clause-few c =
    subst (λ (ss : List Stream). All (λ (s : Stream). length s.hops ≤ 64) ss) (sym c.streams.ensures.streams) (λ k d less. (c.streams.ensures.rules.streams.each k d less).few_hops)
