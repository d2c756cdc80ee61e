use Rattle.bridge_semantics.proofs.Facts.{own_at_once, served_alone, starts_at_once}
use Rattle.bridge_semantics.proofs.laws.starts_as_alone.Goals as goal

pub returns-clause-alone : goal.returns-clause-alone
returns-clause-alone g c = served_alone

pub returns-clause-at_once : goal.returns-clause-at_once
returns-clause-at_once g c = starts_at_once

pub returns-clause-own : goal.returns-clause-own
returns-clause-own g c = own_at_once
