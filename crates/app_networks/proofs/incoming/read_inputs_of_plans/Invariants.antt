use Rattle.std.proofs.Common.{take}
use Rattle.app_networks.specs.Folders.{AreInputsOfPlans}
use Rattle.app_networks.proofs.incoming.read_inputs_of_plans.Given as goal

abbrev pub invariant-loop-accepted : goal.invariant-loop-accepted
invariant-loop-accepted g l = AreInputsOfPlans (take l.accepted-index l.plans) l.all.items
