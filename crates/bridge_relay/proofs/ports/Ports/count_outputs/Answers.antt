use Rattle.std.proofs.Common.{◌∙◌, ◌<◌, ◌-◌, ℕ, ◌^◌, rules, ap, sym, subst}
use Rattle.std.specs.Prelude.{bit_and}
use Rattle.std.specs.Int.Count.{count_leading_zeros}
use Rattle.bridge_relay.specs.Ports.{PortsState, count_outputs, IsLastOutput}
use Rattle.bridge_relay.proofs.Outs.{outs_ones, outs_last}
use Rattle.bridge_relay.proofs.ports.Ports.count_outputs.Goals as goal

pub returns-clause-count : goal.returns-clause-count
returns-clause-count g c =
    let slots = c.self.inside.slots.items in
    let fits : c.bits.result < 2 ^ 16 = search rules in
    sym (outs_ones slots c.bits.result c.self.inside.present c.self.invariant.present fits)
    ∙ (ap (λ (n : ℕ). count_outputs slots n 16) c.bits.ensures ∙ ap (λ (p : PortsState _ _). count_outputs p.slots c.args.set 16) c.self.view_is)

pub returns-clause-last : goal.returns-clause-last
returns-clause-last g c =
    let slots = c.self.inside.slots.items in
    let fits : c.bits.result < 2 ^ 16 = search rules in
    let last = 16 - count_leading_zeros 16 (bit_and c.bits.result c.self.inside.present) in
    subst (λ (p : PortsState _ _). IsLastOutput p.slots c.args.set last) c.self.view_is
    (subst (λ (n : ℕ). IsLastOutput slots n last) c.bits.ensures (outs_last slots c.bits.result c.self.inside.present c.self.invariant.present fits))
