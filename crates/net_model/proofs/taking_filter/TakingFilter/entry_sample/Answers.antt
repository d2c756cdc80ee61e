use Rattle.std.proofs.Common.{ap, sym}
use Rattle.std.specs.Prelude.{is_some}
use Rattle.net_model.specs.LinkFrames.{possible_tags}
use Rattle.net_model.proofs.Skipped.{other_port, other_handle}
use Rattle.net_model.proofs.taking_filter.TakingFilter.entry_sample.Goals as goal

pub returns-then-entry-self-clause-found : goal.returns-then-entry-self-clause-found
returns-then-entry-self-clause-found g c = ap is_some (sym (other_port c.args.self.now c.args.entry.now (possible_tags c.args.entry.now.vid) c.if-entry-self.true))

pub returns-then-entry-self-2-clause-found : goal.returns-then-entry-self-2-clause-found
returns-then-entry-self-2-clause-found g c = ap is_some (sym (other_handle c.args.self.now c.args.entry.now (possible_tags c.args.entry.now.vid) c.requires c.if-entry-self-2.true))
