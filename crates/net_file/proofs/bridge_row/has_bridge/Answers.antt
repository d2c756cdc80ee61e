use Rattle.std.proofs.Common.{sym, subst, ◌∙◌, ◌≡◌, true, false}
use Rattle.std.specs.Str.{bytes_eq}
use Rattle.net_file.proofs.Named.{any_here, any_later, any_none}
use Rattle.net_file.specs.Model.{Bridge}
use Rattle.net_file.proofs.bridge_row.has_bridge.Goals as goal

pub loop-bridge-preserved : goal.loop-bridge-preserved
loop-bridge-preserved g c =
    any_later (λ (x : Bridge). bytes_eq x.name c.args.name.now) c.args.bridges.now c.loop-bridge.bridge-index c.bridge-item.result c.loop-bridge-test.true c.bridge-item.is
    (subst (λ n. false ≡ bytes_eq n c.args.name.now) c.name.ensures c.if-eq.ensures) ∙ c.loop-bridge.invariant

pub returns-then-eq : goal.returns-then-eq
returns-then-eq g c =
    sym (any_here (λ (x : Bridge). bytes_eq x.name c.args.name.now) c.args.bridges.now c.loop-bridge.bridge-index c.bridge-item.result c.loop-bridge-test.true c.bridge-item.is
    (subst (λ n. true ≡ bytes_eq n c.args.name.now) c.name.ensures c.if-eq.ensures)) ∙ c.loop-bridge.invariant

pub returns : goal.returns
returns g c = sym (any_none (λ (x : Bridge). bytes_eq x.name c.args.name.now) c.args.bridges.now c.loop-bridge.bridge-index c.loop-bridge-test.false) ∙ c.loop-bridge.invariant
