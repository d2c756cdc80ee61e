-- Ports of equal plans.
use Rattle.std.proofs.Common.{◌≡◌, ℕ, Some, sym, subst}
use Rattle.bridge_config.specs.declared.ports.PortPlan.{PortPlan}
use Rattle.bridge_config.specs.Model.{Plan}
use Rattle.bridge_config.specs.Rules.{find_port}

-- If a plan has a port, an equal plan has this port.
pub known : {A : Type 0} (p q : Plan A) (n : ℕ) (x : PortPlan A) → p ≡ q → Some x ≡ find_port q.ports n → (out : PortPlan A) × (find_port p.ports n ≡ Some out)
known {A} p q n x same is = (x, subst (λ (r : Plan A). find_port r.ports n ≡ Some x) (sym same) (sym is))
