use Rattle.std.proofs.Common.{None, refl, slice_set, ap, ◌∙◌}
use Rattle.std.proofs.lemmas.List.{length-set}
use Rattle.bridge_limits.proofs.Options.{none_some}
use Rattle.net_run.specs.BridgeRuns.{BridgeRunState}
use Rattle.net_run.proofs.Turns.{ground_given}
use Rattle.net_run.proofs.bridge_run.BridgeRun.set_input.Goals as goal

pub returns-clause-ground : goal.returns-clause-ground
returns-clause-ground g c =
    let linked = c.requires.linked in
    ground_given c.args.self.now c.args.place linked.0 c.args.input _ linked.1
    (ap (λ (z : BridgeRunState g.row.A.Denot). record z { texts = slice_set z.texts c.args.place c.args.input; outcome = None }) c.self.view_is)

pub returns-clause-texts : goal.returns-clause-texts
returns-clause-texts g c = ap (λ (s : BridgeRunState g.row.A.Denot). slice_set s.texts c.args.place c.args.input) c.self.view_is

pub invariant_of-self : goal.invariant_of-self
invariant_of-self g c =
    let all = c.self.invariant in
    record {
      numbers = all.numbers;
      commands = all.commands;
      sent = all.sent;
      texts = length-set c.self.inside.texts.items c.args.place c.args.input ∙ all.texts;
      tapped = λ o is. absurd (none_some None o refl is);
      runs = λ o is. absurd (none_some None o refl is);
    }
