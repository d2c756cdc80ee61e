use Rattle.std.proofs.Common.{◌≡◌, ◌<◌, ◌++◌, List, ap, get_or, length, string_bytes, subst, sym, ◌∙◌}
use Rattle.bridge_config.specs.declared.ports.PortPlan.{PortPlan}
use Rattle.net_check.specs.Warnings.{entering_text}
use Rattle.net_latency.proofs.Lined.{piece_more}
use Rattle.net_check.proofs.warnings.Named.push_entry_warnings.Goals as goal

pub loop-on-preserved : goal.loop-on-preserved
loop-on-preserved g c =
    let f = entering_text c.args.self.now.file.now c.args.self.now.network.now c.args.i c.args.k c.args.hop c.args.plan.now in
    let ports = c.args.plan.now.ports in
    let same = c.ports-on-items.ensures.ports in
    let i = c.loop-on.on-index in
    let on = c.on-item.result in
    let within = subst (λ xs. i < length xs) same c.loop-on-test.true in
    let item = c.on-item.is ∙ ap (λ xs. get_or xs i on) same in
    piece_more f (string_bytes c.args.text.now) ports i on (string_bytes c.loop-on.text) (string_bytes c.push_entering.new.text) within c.loop-on.invariant
    (c.in-Ok.ensures ∙ ap (λ (x : PortPlan _). string_bytes c.loop-on.text ++ f x) item)
