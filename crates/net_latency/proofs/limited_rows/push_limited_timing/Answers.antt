use Rattle.std.proofs.Common.{◌≡◌, ℕ, Bool, true, false, Option, Some, List, [], ◌∷◌, ◌++◌, refl, sym, subst, ap, ◌∙◌}
use Rattle.std.specs.Prelude.{◌&&◌, min, nat_eq, not}
use Rattle.std.specs.Map.{lookup}
use Rattle.bridge_filter.specs.declared.FilterPlan.{FilterPlan}
use Rattle.bridge_config.specs.Model.{Plan}
use Rattle.bridge_config.specs.Rules.{find_port}
use Rattle.bridge_config.proofs.PlanPorts.{number_is}
use Rattle.net_latency.specs.declared.timings.QueueTiming.{QueueTiming}
use Rattle.net_latency.specs.LimitedTraffic.{AreLimitedTimings, admits_row, shares_queue}
use Rattle.net_latency.proofs.LimitedRows.{limited_more, limited_past}
use Rattle.net_latency.proofs.limited_rows.push_limited_timing.Goals as goal

pub shares_queue-requires-clause-from : goal.shares_queue-requires-clause-from
shares_queue-requires-clause-from g c = (number_is c.args.accepted.now.ports c.args.shared.now.port c.requires.shared.out c.plan-plan.ensures.rules.ports c.requires.shared.at).0

pub shares_queue-requires-clause-to : goal.shares_queue-requires-clause-to
shares_queue-requires-clause-to g c = (number_is c.args.accepted.now.ports c.args.shared.now.port c.requires.shared.out c.plan-plan.ensures.rules.ports c.requires.shared.at).1

pub returns-then-not-shares_queue : goal.returns-then-not-shares_queue
returns-then-not-shares_queue g c =
    let p = c.args.accepted.now in
    let r = c.args.tested.now.row in
    let s = c.args.shared.now in
    let of_plan : shares_queue p s (Some c.args.tested.now.filter) ≡ false = subst (λ (z : Plan _). shares_queue z s (Some c.args.tested.now.filter) ≡ false) c.plan-plan.ensures.plan (sym c.shares_queue.ensures ∙ c.if-not-shares_queue.true) in
    let other : shares_queue p s (lookup (nat_eq r.filter) p.filters) ≡ false = subst (λ (o : Option FilterPlan). shares_queue p s o ≡ false) (sym c.requires.filter) of_plan in
    record { one_more = λ queues so_far. limited_past p c.args.tested.now.index r s queues c.args.made.now.items other so_far }

pub returns : goal.returns
returns g c =
    let p = c.args.accepted.now in
    let r = c.args.tested.now.row in
    let s = c.args.shared.now in
    let of_plan : shares_queue p s (Some c.args.tested.now.filter) ≡ true = subst (λ (z : Plan _). shares_queue z s (Some c.args.tested.now.filter) ≡ true) c.plan-plan.ensures.plan (sym c.shares_queue.ensures ∙ c.if-not-shares_queue.false) in
    let own : shares_queue p s (lookup (nat_eq r.filter) p.filters) ≡ true = subst (λ (o : Option FilterPlan). shares_queue p s o ≡ true) (sym c.requires.filter) of_plan in
    let at : find_port p.ports s.port ≡ Some c.in-Some.port.now = subst (λ (z : Plan _). find_port z.ports s.port ≡ Some c.in-Some.port.now) c.plan-plan.ensures.plan (sym c.in-Some.ensures.port) in
    let admits : c.args.tested.now.admits ≡ admits_row p r (lookup (nat_eq r.filter) p.filters) = c.requires.admits ∙ ap (λ (o : Option FilterPlan). admits_row p r o) (sym c.requires.filter) in
    let passes = ap (λ (b : Bool). b && not c.is_lossy.result) admits ∙ ap (λ (b : Bool). admits_row p r (lookup (nat_eq r.filter) p.filters) && not b) c.is_lossy.ensures in
    record {
      one_more = λ queues so_far.
          subst (λ (xs : List QueueTiming). AreLimitedTimings p c.args.tested.now.index r (queues ++ s ∷ []) xs) (sym c.in_ok-push.ensures.items)
          (limited_more p c.args.tested.now.index r s _ queues c.args.made.now.items own
          (record { row = refl; filter = refl; port = refl; class = refl; deadline = refl; out = c.in-Some.port.now; at = at; worst = refl; best = c.min.ensures ∙ ap (λ (t : ℕ). min t s.bound) c.occupation.ensures.exact; phases = refl; passes = passes }) so_far);
    }
