use Rattle.std.proofs.Common.{ℕ, ◌+◌, ◌-◌, ◌^◌, ◌∙◌, List, drop, map, arith, ap, sym, subst, bit_or}
use Rattle.std.proofs.lemmas.List.{at_drop_all, at_drop_more}
use Rattle.std.proofs.lemmas.List.Elements.{All-get_or}
use Rattle.bridge_schema.specs.Readers.{add_to_set}
use Rattle.bridge_config.specs.declared.ports.PortPlan.{PortPlan}
use Rattle.bridge_config.specs.Rules.{IsPort}
use Rattle.bridge_config.proofs.plan.port_set.Goals as goal

pub overflow_sub-port : goal.overflow_sub-port
overflow_sub-port g c = let p = subst IsPort (sym c.port-item.is) (All-get_or IsPort c.args.ports.now c.ports.port-index c.port-item.result c.ports-test.true c.requires.each) in p.number_from

pub with_bit-bits-requires : goal.with_bit-bits-requires
with_bit-bits-requires g c = let p = subst IsPort (sym c.port-item.is) (All-get_or IsPort c.args.ports.now c.ports.port-index c.port-item.result c.ports-test.true c.requires.each) in
    record { few = omega (arith, p.number_from, p.number_to) }

pub ports-preserved : goal.ports-preserved
ports-preserved g c =
    let i = c.ports.port-index in
    let ports = c.args.ports.now in
    let F : List (PortPlan g.row.A.Denot) → ℕ = λ ps. add_to_set 1 c.ports.bits (map (λ p. p.number) ps) in
    ap (λ b. add_to_set 1 b (map (λ p. p.number) (drop (i + 1) ports))) (c.with_bit-bits.ensures.bits ∙ ap (λ p. bit_or c.ports.bits (2 ^ (p.number - 1))) c.port-item.is)
    ∙ sym (at_drop_more F ports i c.port-item.result c.ports-test.true) ∙ c.ports.invariant

pub returns : goal.returns
returns g c =
    let ports = c.args.ports.now in
    let F : List (PortPlan g.row.A.Denot) → ℕ = λ ps. add_to_set 1 c.ports.bits (map (λ p. p.number) ps) in
    sym (at_drop_all F ports c.ports.port-index (omega (arith, c.ports-test.false))) ∙ c.ports.invariant
