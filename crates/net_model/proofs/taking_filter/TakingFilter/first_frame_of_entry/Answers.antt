use Rattle.std.proofs.Common.{sym}
use Rattle.net_model.specs.LinkFrames.{possible_tags}
use Rattle.net_model.proofs.Skipped.{other_port, other_handle}
use Rattle.net_model.proofs.taking_filter.TakingFilter.first_frame_of_entry.Goals as goal

pub returns-then-entry-self : goal.returns-then-entry-self
returns-then-entry-self g c = sym (other_port c.args.self.now c.args.entry.now (possible_tags c.args.entry.now.vid) c.if-entry-self.true)

pub returns-then-entry-self-2 : goal.returns-then-entry-self-2
returns-then-entry-self-2 g c = sym (other_handle c.args.self.now c.args.entry.now (possible_tags c.args.entry.now.vid) c.requires c.if-entry-self-2.true)
