use Rattle.bridge_config.proofs.Own.{instances_kept}
use Rattle.bridge_config.proofs.filters.read_filter.Goals as goal

pub returns-clause-reads : goal.returns-clause-reads
returns-clause-reads g c = c.read_filter_by_lookup.ensures.reads

pub returns-clause-own : goal.returns-clause-own
returns-clause-own g c = c.read_filter_by_lookup.ensures.own

pub returns-clause-filter : goal.returns-clause-filter
returns-clause-filter g c = c.read_filter_by_lookup.ensures.filter

pub returns-clause-instances : goal.returns-clause-instances
returns-clause-instances g c = instances_kept _ _ _ c.read_filter_by_lookup.ensures.gate c.read_filter_by_lookup.ensures.meter
