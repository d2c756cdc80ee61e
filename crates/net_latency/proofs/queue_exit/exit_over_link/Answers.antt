use Rattle.net_latency.proofs.queue_exit.exit_over_link.Goals as goal

pub returns-in_ok-next-in-Some-clause-keeps : goal.returns-in_ok-next-in-Some-clause-keeps
returns-in_ok-next-in-Some-clause-keeps c = λ k room. (c.in_ok-next-in-Some.ensures.room k room, c.in_ok-next-in-Some.ensures.traffic)
