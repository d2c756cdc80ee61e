-- A loop uses only steps that follow a step and are followed by a step.
use Rattle.std.proofs.Common.{◌≡◌, nat_eq, ℕ, true, List, [], ◌∷◌, refl, ap₂, Option, Some, None, Result, Ok, Err, IfOk, IfSome}
use Rattle.std.specs.List.{filter}
use Rattle.std.proofs.lemmas.Bool.{and_parts, eqb-true, eq-eqb, and_from}
use Rattle.bridge_limits.specs.Members.{IsMember}
use Rattle.bridge_limits.proofs.Members.{passes_any}
use Rattle.net_model.specs.declared.links.BridgePort.{BridgePort}
use Rattle.net_model.specs.declared.step.Step.{Step}
use Rattle.net_model.specs.Walks.{IsWalk, IsOnLoop, step}
use Rattle.net_model.specs.Pruning.{IsPruned, has_incoming_step, is_inner_step, is_same_port, has_outgoing_step}
use Rattle.net_model.proofs.Filtered.{kept, was}

-- A port equals itself.
pub one_self : (x : BridgePort) → is_same_port x x ≡ true
one_self x = let bridge : nat_eq x.bridge x.bridge ≡ true = eq-eqb x.bridge x.bridge refl in let port : nat_eq x.port x.port ≡ true = eq-eqb x.port x.port refl in rw (bridge, port) refl

-- Ports that compare as equal are equal.
pub same_place : (a b : BridgePort) → is_same_port a b ≡ true → a ≡ b
same_place a b one =
    let parts = and_parts (nat_eq a.bridge b.bridge) (nat_eq a.port b.port) one in
    let make : ℕ → ℕ → BridgePort = λ x y. record { bridge = x; port = y } in
    ap₂ make (eqb-true a.bridge b.bridge parts.0) (eqb-true a.port b.port parts.1)

first_leaves : (steps : List Step) (x y : BridgePort) (zs : List BridgePort) → IsWalk steps x y zs → has_outgoing_step steps x ≡ true
first_leaves steps x y [] l = passes_any (λ (s : Step). is_same_port s.from x) steps (step x y) l (one_self x)
first_leaves steps x y (z ∷ zs) l = passes_any (λ (s : Step). is_same_port s.from x) steps (step x z) l.0 (one_self x)

last_comes : (steps : List Step) (x y : BridgePort) (zs : List BridgePort) → IsWalk steps x y zs → has_incoming_step steps y ≡ true
last_comes steps x y [] l = passes_any (λ (s : Step). is_same_port s.to y) steps (step x y) l (one_self y)
last_comes steps x y (z ∷ zs) l = last_comes steps z y zs l.1

walk_kept : (steps : List Step) (x y : BridgePort) (zs : List BridgePort) → has_incoming_step steps x ≡ true → has_outgoing_step steps y ≡ true → IsWalk steps x y zs → IsWalk (filter (is_inner_step steps) steps) x y zs
walk_kept steps x y [] c v l = kept (is_inner_step steps) steps (step x y) l (and_from (has_outgoing_step steps y) (has_incoming_step steps x) v c)
walk_kept steps x y (z ∷ zs) c v l = (
  kept (is_inner_step steps) steps (step x z) l.0 (and_from (has_outgoing_step steps z) (has_incoming_step steps x) (first_leaves steps z y zs l.1) c),
  walk_kept steps z y zs (passes_any (λ (s : Step). is_same_port s.to z) steps (step x z) l.0 (one_self z)) v l.1,
)

-- The inner steps of a list keep its loops.
pub laid_first : (steps kept : List Step) → kept ≡ filter (is_inner_step steps) steps → IsPruned steps kept
laid_first steps kept is = rw is (record {
  within = λ s i. (was (is_inner_step steps) steps s i).0;
  keeps = λ x round. (round.0, walk_kept steps x x round.0 (last_comes steps x x round.0 round.1) (first_leaves steps x x round.0 round.1) round.1);
})

-- The inner steps of kept steps keep all loops.
pub laid_more : (steps kept next : List Step) → IsPruned steps kept → next ≡ filter (is_inner_step kept) kept → IsPruned steps next
laid_more steps kept next laid is = let more = laid_first kept next is in record {
  within = λ s i. laid.within s (more.within s i);
  keeps = λ x round. more.keeps x (laid.keeps x round);
}

leads_wider : (steps kept : List Step) → ((s : Step) → IsMember s kept → IsMember s steps) → (x y : BridgePort) (zs : List BridgePort) → IsWalk kept x y zs → IsWalk steps x y zs
leads_wider steps kept within x y [] l = within (step x y) l
leads_wider steps kept within x y (z ∷ zs) l = (within (step x z) l.0, leads_wider steps kept within z y zs l.1)

-- A loop along kept steps is a loop along the steps.
pub some_wider : {E : Type 0} (steps kept : List Step) (r : Result (Option BridgePort) E) → IsPruned steps kept → IfOk r (λ place. IfSome place (IsOnLoop kept)) → IfOk r (λ place. IfSome place (IsOnLoop steps))
some_wider steps kept (Err e) laid some = tt
some_wider steps kept (Ok None) laid some = tt
some_wider steps kept (Ok (Some x)) laid some = (some.0, leads_wider steps kept laid.within x x some.0 some.1)

-- A walk begins with a step.
pub first_step : (steps : List Step) (x y : BridgePort) (zs : List BridgePort) → IsWalk steps x y zs → (s : Step) × IsMember s steps × (s.from ≡ x)
first_step steps x y [] l = (step x y, l, refl)
first_step steps x y (z ∷ zs) l = (step x z, l.0, refl)
