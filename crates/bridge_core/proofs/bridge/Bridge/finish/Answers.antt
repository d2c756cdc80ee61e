use Rattle.std.proofs.Common.{◌<◌, ℕ, ap, sym, ◌∙◌, subst}
use Rattle.std.specs.Map.{lookup}
use Rattle.std.specs.Prelude.{nat_eq}
use Rattle.bridge_limits.specs.Members.{IsOrdered}
use Rattle.bridge_filter.specs.declared.FilterPlan.{FilterPlan}
use Rattle.bridge_core.specs.Bridges.{next_start, BridgeStandsFor}
use Rattle.bridge_core.proofs.bridge.Bridge.finish.Goals as goal

pub finish-requires-clause-idle : goal.finish-requires-clause-idle
finish-requires-clause-idle g c = λ q. ap (λ b. next_start g.G.Agenda.held b q) c.self.view_is ∙ c.requires.idle q

pub finish-requires-clause-rises : goal.finish-requires-clause-rises
finish-requires-clause-rises g c = subst (IsOrdered (λ (x y : ℕ × FilterPlan). x.0 < y.0)) (sym c.deref.ensures.value) c.self.invariant.rises

pub finish-requires-clause-same : goal.finish-requires-clause-same
finish-requires-clause-same g c = λ n. ap (lookup (nat_eq n)) c.deref.ensures.value ∙ c.self.invariant.same n

pub returns-clause-ends : goal.returns-clause-ends
returns-clause-ends g c = λ p es left stands. c.finish.ensures.ends p es left (subst (λ b. BridgeStandsFor p b es left) (sym c.self.view_is) stands)

pub returns-clause-isolated : goal.returns-clause-isolated
returns-clause-isolated g c = λ p es left n f v stands. c.finish.ensures.isolated p es left n f v (subst (λ b. BridgeStandsFor p b es left) (sym c.self.view_is) stands)

pub returns-clause-others_change_nothing : goal.returns-clause-others_change_nothing
returns-clause-others_change_nothing g c = λ p es others left n f lists o u v stands. c.finish.ensures.others_change_nothing p es others left n f lists o u v (subst (λ b. BridgeStandsFor p b es left) (sym c.self.view_is) stands)
