use Rattle.std.proofs.Common.{◌≡◌, ℕ, List, ◌∙◌, ap, sym, subst, None}
use Rattle.std.specs.Prelude.{nat_eq}
use Rattle.std.specs.Map.{lookup}
use Rattle.std.specs.Option.{is_some}
use Rattle.bridge_filter.specs.declared.FilterPlan.{FilterPlan}
use Rattle.bridge_filter.specs.Plans.{is_listed}
use Rattle.bridge_capture.specs.Grammar.{CapturedFrame}
use Rattle.bridge_config.specs.Model.{Plan}
use Rattle.bridge_config.specs.Rules.{IsPlan}
use Rattle.bridge_check.specs.Acceptable.{IsAcceptable}
use Rattle.bridge_semantics.specs.declared.outcome.Outcome.{Outcome}
use Rattle.bridge_semantics.specs.Events.{Event}
use Rattle.bridge_semantics.specs.Outputs.{EndsRun}
use Rattle.bridge_semantics.proofs.Headline.{protected_alone, two_runs}
use Rattle.bridge_relay.specs.RelayState.{RelayState, RelayStandsFor}
use Rattle.bridge_relay.proofs.Ended.{ends_of}
use Rattle.bridge_relay.proofs.relay.Relay.finish.Goals as goal

pub make_views-filters-requires-clause-filters : goal.make_views-filters-requires-clause-filters
make_views-filters-requires-clause-filters g c = λ n h.
    let same = subst (λ (v : RelayState _ _). lookup (nat_eq n) c.args.order.now ≡ lookup (nat_eq n) v.plan.filters) (sym c.self.view_is) (c.requires.same n) in
    ap (λ (z : List (ℕ × FilterPlan)). is_listed n z) c.self.invariant.filters ∙ (ap is_some (sym same) ∙ h)

pub make_views-filters-requires-clause-tables : goal.make_views-filters-requires-clause-tables
make_views-filters-requires-clause-tables g c = λ n h.
    let same = subst (λ (v : RelayState _ _). lookup (nat_eq n) c.args.order.now ≡ lookup (nat_eq n) v.plan.filters) (sym c.self.view_is) (c.requires.same n) in
    c.self.invariant.there n (ap is_some (sym same) ∙ h)

pub returns : goal.returns
returns g c =
    let b = c.self.inside in
    let old : RelayState _ _ = record { plan = b.plan.now; streams = b.ident; police = b.police; ports = b.ports; tables = b.tables.entries; arrived = b.arrived; earliest = b.earliest } in
    let outcome : Outcome _ = record { filters = c.make_views-filters.result; ports = c.counts-ports.result } in
    let ends : (p : Plan _) (es : List Event) (left : ℕ → List CapturedFrame) → RelayStandsFor p old es left → EndsRun p es left outcome = λ p es left st.
    ends_of g.G.Agenda.held p old es left c.args.order.now outcome st c.self.invariant c.counts-ports.ensures.kept
    (subst (λ (v : RelayState _ _). (q : ℕ) → g.G.Agenda.held v.ports.agenda q ≡ None) (sym c.self.view_is) c.requires.idle)
    c.requires.rises
    (subst (λ (v : RelayState _ _). (n : ℕ) → lookup (nat_eq n) c.args.order.now ≡ lookup (nat_eq n) v.plan.filters) (sym c.self.view_is) c.requires.same)
    c.make_views-filters.ensures c.counts-ports.ensures.counts in
    let rules : (p : Plan _) → old.plan ≡ p → IsPlan p = λ p is. subst (λ (w : Plan _). IsPlan w) is c.self.invariant.rules in
    let acceptable : (p : Plan _) → old.plan ≡ p → IsAcceptable p = λ p is. subst (λ (w : Plan _). IsAcceptable w) is c.self.invariant.acceptable in
    record {
      ends = λ p es left st. ends p es left (subst (λ (v : RelayState _ _). RelayStandsFor p v es left) (sym c.self.view_is) st);
      isolated = λ p es left n f v st listed protected there.
          let stood : RelayStandsFor p old es left = subst (λ (v : RelayState _ _). RelayStandsFor p v es left) (sym c.self.view_is) st in
          let e = ends p es left stood in
          protected_alone p n f es e.lists outcome v (rules p stood.plan) (acceptable p stood.plan) listed protected e.outcome there;
      others_change_nothing = λ p es others left n f lists o u v st listed protected same run here there.
          let stood : RelayStandsFor p old es left = subst (λ (v : RelayState _ _). RelayStandsFor p v es left) (sym c.self.view_is) st in
          let e = ends p es left stood in
          two_runs p n f es others e.lists lists outcome o u v (rules p stood.plan) (acceptable p stood.plan) listed protected same e.outcome run here there;
    }
