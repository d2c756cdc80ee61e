use Rattle.bridge_semantics.proofs.Few.{few_leave, few_so_far}
use Rattle.bridge_semantics.proofs.laws.few_leave.Goals as goal

pub returns-clause-whole : goal.returns-clause-whole
returns-clause-whole g c = λ p es left o q out ends at. few_leave p es left o q out ends at

pub returns-clause-so_far : goal.returns-clause-so_far
returns-clause-so_far g c = λ p es moment left q out reaches at. few_so_far p es _ reaches.lists left q out reaches.run (reaches.output q out at) at

pub returns-clause-to_start : goal.returns-clause-to_start
returns-clause-to_start g c = λ p es moment port left q out reaches at. few_so_far p es _ reaches.lists left q out reaches.run (reaches.output q out at) at
