use Rattle.net_check.proofs.DeliveredStreams.{network_delivers}
use Rattle.net_check.proofs.network.describe_network.Goals as goal

pub returns-in_default-clause-delivered : goal.returns-in_default-clause-delivered
returns-in_default-clause-delivered g c = λ plans bounds made accepted are. network_delivers c.args.file.now plans c.args.network.now bounds c.streams-rows.ensures.rules c.plans.ensures.network c.streams-hops.ensures.closed made accepted are

pub returns-in_default-network_lines-clause-delivered : goal.returns-in_default-network_lines-clause-delivered
returns-in_default-network_lines-clause-delivered g c = λ plans bounds made accepted are. network_delivers c.args.file.now plans c.args.network.now bounds c.streams-rows.ensures.rules c.plans.ensures.network c.streams-hops.ensures.closed made accepted are

pub returns-in_default-all_warnings-clause-delivered : goal.returns-in_default-all_warnings-clause-delivered
returns-in_default-all_warnings-clause-delivered g c = λ plans bounds made accepted are. network_delivers c.args.file.now plans c.args.network.now bounds c.streams-rows.ensures.rules c.plans.ensures.network c.streams-hops.ensures.closed made accepted are

pub returns-clause-delivered : goal.returns-clause-delivered
returns-clause-delivered g c = λ plans bounds made accepted are. network_delivers c.args.file.now plans c.args.network.now bounds c.streams-rows.ensures.rules c.plans.ensures.network c.streams-hops.ensures.closed made accepted are
