use Rattle.bridge_port.proofs.Ports.{up_to, idle_whole, idle_calm}
use Rattle.bridge_port.proofs.Best.{calm_until}
use Rattle.bridge_port.proofs.port.Port.next_start.Goals as goal

pub returns-in-Some-clause-lawful : goal.returns-in-Some-clause-lawful
returns-in-Some-clause-lawful g c = λ xs st h after until. up_to c.args.self.now xs h st after (calm_until c.args.self.now c.in-Some.k _ h c.in-Some.ensures.next until)

pub returns-in-None-clause-idle : goal.returns-in-None-clause-idle
returns-in-None-clause-idle g c = λ xs st h after. up_to c.args.self.now xs h st after (idle_calm c.args.self.now h c.in-None.ensures.next)

pub returns-in-None-clause-whole : goal.returns-in-None-clause-whole
returns-in-None-clause-whole g c = λ xs st. idle_whole c.args.self.now xs st c.in-None.ensures.next
