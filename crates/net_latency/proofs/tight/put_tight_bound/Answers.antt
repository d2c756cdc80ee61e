use Rattle.std.proofs.Common.{List, [], ◌∷◌, ◌++◌, refl, sym, subst}
use Rattle.net_latency.specs.declared.tight.TightBound.{TightBound}
use Rattle.net_latency.specs.Bounds.{AreTightened}
use Rattle.net_latency.proofs.Gathered.{not_without, placed}
use Rattle.net_latency.proofs.Tightened.{tighter_more}
use Rattle.net_latency.proofs.tight.put_tight_bound.Goals as goal

pub tight_queue_bound-requires-clause-from : goal.tight_queue_bound-requires-clause-from
tight_queue_bound-requires-clause-from g c = (placed c.args.accepted.now c.args.bound.now.filter c.args.bound.now.port c.args.bound.now.class c.args.bound.now.bound c.plan.ensures.rules c.requires.bound).from

pub tight_queue_bound-requires-clause-to : goal.tight_queue_bound-requires-clause-to
tight_queue_bound-requires-clause-to g c = (placed c.args.accepted.now c.args.bound.now.filter c.args.bound.now.port c.args.bound.now.class c.args.bound.now.bound c.plan.ensures.rules c.requires.bound).to

pub tight_queue_bound-requires-clause-class : goal.tight_queue_bound-requires-clause-class
tight_queue_bound-requires-clause-class g c = (placed c.args.accepted.now c.args.bound.now.filter c.args.bound.now.port c.args.bound.now.class c.args.bound.now.bound c.plan.ensures.rules c.requires.bound).class

pub least_bound-least-requires : goal.least_bound-least-requires
least_bound-least-requires g c =
    let at = placed c.args.accepted.now c.args.bound.now.filter c.args.bound.now.port c.args.bound.now.class c.args.bound.now.bound c.plan.ensures.rules c.requires.bound in
    record { from = at.from; to = at.to; class = at.class; tight = c.in-Some.ensures }

pub padded_bound-requires : goal.padded_bound-requires
padded_bound-requires g c =
    let at = placed c.args.accepted.now c.args.bound.now.filter c.args.bound.now.port c.args.bound.now.class c.args.bound.now.bound c.plan.ensures.rules c.requires.bound in
    record { from = at.from; to = at.to; class = at.class }

pub returns-in_ok-push : goal.returns-in_ok-push
returns-in_ok-push g c = record {
  one_more = λ bounds so_far.
      subst (λ (xs : List TightBound). AreTightened c.args.accepted.now (bounds ++ c.args.bound.now ∷ []) xs) (sym c.in_ok-push.ensures.items)
      (tighter_more c.args.accepted.now c.args.bound.now _ bounds c.args.made.now.items (record { filter = refl; port = refl; class = refl; coarse = c.is_coarse-coarse.ensures.coarse; bound = c.least_bound-least.ensures; padded = c.padded_bound.ensures }) so_far);
}

pub returns-in_default : goal.returns-in_default
returns-in_default g c = record {
  one_more = λ bounds so_far. absurd (not_without c.args.accepted.now c.args.bound.now.filter c.args.bound.now.port c.args.bound.now.class c.args.bound.now.bound c.in_default.ensures c.requires.bound);
}
