use Rattle.net_latency.proofs.PrintedStream.{printed_delivered}
use Rattle.net_latency.proofs.delivered.printed_stream_is_delivered.Goals as goal

pub returns : goal.returns
returns g c = λ n bounds hops talker r first q commands captures o run a out ports accepted known are valid is pass commanded begins sent i way. printed_delivered n bounds hops talker r first q commands captures o run a out ports accepted known are valid is pass commanded begins sent i way
