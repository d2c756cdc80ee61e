use Rattle.std.proofs.Common.{sym, subst, ◌∙◌, ◌≡◌, true, false}
use Rattle.std.specs.Str.{bytes_eq}
use Rattle.net_file.proofs.Named.{place_here, place_later, place_none}
use Rattle.net_file.proofs.names.bridge_index.Goals as goal

pub bridges-preserved : goal.bridges-preserved
bridges-preserved g c =
    place_later c.args.bridges.now c.bridges.i c.index-bridges-i.result c.args.name.now c.bridges-test.true c.index-bridges-i.is
    (subst (λ n. false ≡ bytes_eq n c.args.name.now) c.name.ensures c.if-eq.ensures) ∙ c.bridges.invariant

pub returns-then-eq-clause-place : goal.returns-then-eq-clause-place
returns-then-eq-clause-place g c =
    sym (place_here c.args.bridges.now c.bridges.i c.index-bridges-i.result c.args.name.now c.bridges-test.true c.index-bridges-i.is
    (subst (λ n. true ≡ bytes_eq n c.args.name.now) c.name.ensures c.if-eq.ensures)) ∙ c.bridges.invariant

pub returns-clause-place : goal.returns-clause-place
returns-clause-place g c = sym (place_none c.args.bridges.now c.bridges.i c.args.name.now c.bridges-test.false) ∙ c.bridges.invariant
