use Rattle.std.proofs.Common.{length, ap, subst, ◌∙◌}
use Rattle.bridge_config.specs.Model.{Plan}
use Rattle.bridge_core.specs.WholeRuns.{ArePortNumbers}
use Rattle.bridge_core.proofs.Simulating.{ports_many}
use Rattle.app_networks.specs.Folders.{EndsBridge}
use Rattle.app_networks.proofs.Ended.{goes_out}
use Rattle.app_networks.proofs.RunFiles.{capture_ends, commands_end}
use Rattle.app_networks.proofs.incoming.read_bridge_input.Goals as goal

pub returns-in_err-captures-clause-ends : goal.returns-in_err-captures-clause-ends
returns-in_err-captures-clause-ends g c =
    let links = c.args.links.now in
    let p = c.args.accepted.now in
    let name = c.args.place.now.name.now in
    let folder = c.args.place.now.folder.now in
    let numbers : ArePortNumbers p c.in-Ok.ports.items = subst (λ (p : Plan _). ArePortNumbers p c.in-Ok.ports.items) c.plan.ensures.plan c.in-Ok.ensures in
    goes_out (EndsBridge links c.args.bridge p name folder) c.from_residual.result _ c.from_residual.ensures.1
    (capture_ends links c.args.bridge p c.in-Ok.ports.items c.deref.result.now name folder _ numbers c.deref.ensures.value c.in_err-captures.ensures.ends)

pub returns-in_err-commands-clause-ends : goal.returns-in_err-commands-clause-ends
returns-in_err-commands-clause-ends g c =
    let links = c.args.links.now in
    let p = c.args.accepted.now in
    let name = c.args.place.now.name.now in
    let folder = c.args.place.now.folder.now in
    goes_out (EndsBridge links c.args.bridge p name folder) c.from_residual-in_err-commands.result _ c.from_residual-in_err-commands.ensures.1
    (commands_end links c.args.bridge p name folder _ c.in_err-commands.ensures.ends)

pub returns-clause-came : goal.returns-clause-came
returns-clause-came g c =
    let numbers : ArePortNumbers c.args.accepted.now c.in-Ok.ports.items = subst (λ (p : Plan _). ArePortNumbers p c.in-Ok.ports.items) c.plan.ensures.plan c.in-Ok.ensures in
    record {
      commands = c.in_ok-commands.ensures.commands;
      captures = c.in_ok-captures.ensures.each ∙ (ap length c.deref.ensures.value ∙ ports_many c.args.accepted.now c.in-Ok.ports.items numbers);
    }
