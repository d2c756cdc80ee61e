use Rattle.net_latency.proofs.Phased.{way_in_phases}
use Rattle.net_latency.proofs.WaysOf.{figures_of_way}
use Rattle.net_latency.proofs.laws.route_in_phases.Goals as goal

pub returns-clause-phases : goal.returns-clause-phases
returns-clause-phases g c = λ n commands captures o run leg more t x done network way alone traffic keeps course. way_in_phases n commands captures o network run leg more t x done way alone traffic keeps course

pub returns-clause-course : goal.returns-clause-course
returns-clause-course g c = λ n commands captures o run leg more t links hops queues r network way alone traffic keeps first of is.
    let f = figures_of_way n run.lists links hops queues t leg more r way first of is in
    let kept = way_in_phases n commands captures o network run leg more t f.figures f.done way alone traffic keeps f.are in
    record { figures = f.figures; done = f.done; are = f.are; within = f.within; keeps = kept }
