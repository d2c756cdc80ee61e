use Rattle.std.proofs.Common.{ℕ, ◌++◌, ◌∷◌, ◌∙◌, [], List, refl, sym, subst, eq-eqb}
use Rattle.std.proofs.lemmas.Bool.{and_parts, and_from}
use Rattle.bridge_filter.proofs.Owned.{differs}
use Rattle.bridge_bounds.specs.Timings.{IsTiming}
use Rattle.net_latency.specs.declared.timings.QueueTiming.{QueueTiming}
use Rattle.net_latency.specs.Traffic.{AreRowTimings}
use Rattle.net_latency.proofs.Gathered.{placed, row_more, row_past}
use Rattle.net_latency.proofs.timings.push_queue_timing.Goals as goal

pub returns-then-bound-row : goal.returns-then-bound-row
returns-then-bound-row g c = record {
  one_more = λ bounds so_far. row_past c.args.accepted.now c.args.index c.args.row.now c.args.bound.now bounds c.args.made.now.items (differs c.args.bound.now.filter c.args.row.now.filter c.if-bound-row.true) so_far;
}

pub queue_timing-requires-clause-from : goal.queue_timing-requires-clause-from
queue_timing-requires-clause-from g c = (placed c.args.accepted.now c.args.bound.now.filter c.args.bound.now.port c.args.bound.now.class c.args.bound.now.bound c.plan.ensures.rules c.requires.bound).from

pub queue_timing-requires-clause-to : goal.queue_timing-requires-clause-to
queue_timing-requires-clause-to g c = (placed c.args.accepted.now c.args.bound.now.filter c.args.bound.now.port c.args.bound.now.class c.args.bound.now.bound c.plan.ensures.rules c.requires.bound).to

pub queue_timing-requires-clause-class : goal.queue_timing-requires-clause-class
queue_timing-requires-clause-class g c = (placed c.args.accepted.now c.args.bound.now.filter c.args.bound.now.port c.args.bound.now.class c.args.bound.now.bound c.plan.ensures.rules c.requires.bound).class

pub returns-in_ok-push : goal.returns-in_ok-push
returns-in_ok-push g c =
    let timing = subst (λ (n : ℕ). IsTiming c.args.accepted.now n c.args.bound.now.port c.args.bound.now.class c.args.row.now.traffic c.in-Some.timing) c.if-bound-row.false c.in-Some.ensures in
    record {
      one_more = λ bounds so_far.
          subst (λ (xs : List QueueTiming). AreRowTimings c.args.accepted.now c.args.index c.args.row.now (bounds ++ c.args.bound.now ∷ []) xs) (sym c.in_ok-push.ensures.items)
          (row_more c.args.accepted.now c.args.index c.args.row.now c.args.bound.now _ bounds c.args.made.now.items (eq-eqb c.args.bound.now.filter c.args.row.now.filter c.if-bound-row.false)
          (record { row = refl; filter = refl; port = refl; class = refl; deadline = refl; timing = timing; passes = (λ h. let t = and_parts _ _ h in (c.requires.passes.0 t.0, sym c.is_some.ensures ∙ t.1), λ h. and_from _ _ (c.requires.passes.1 h.0) (c.is_some.ensures ∙ h.1)) }) so_far);
    }
