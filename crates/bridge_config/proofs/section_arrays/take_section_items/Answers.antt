use Rattle.std.proofs.Common.{arith, refl}
use Rattle.toml.specs.View.{items_view}
use Rattle.bridge_config.proofs.Taken.{fits, viewed}
use Rattle.bridge_config.proofs.section_arrays.take_section_items.Goals as goal

pub returns-clause-takes : goal.returns-clause-takes
returns-clause-takes c = viewed (λ x. items_view x.now) _ c.value_or.ensures c.section_items.ensures.reads c.section_items.ensures.takes_no_memory

pub returns-clause-few : goal.returns-clause-few
returns-clause-few c = fits _ c.value_or.ensures (omega arith) c.section_items.ensures.few

pub returns-clause-tables : goal.returns-clause-tables
returns-clause-tables c = fits _ c.value_or.ensures refl c.section_items.ensures.tables
