use Rattle.std.proofs.Common.{◌≡◌, ℕ, ◌+◌, ◌-◌, ap, sym, subst, rules, arith}
use Rattle.bridge_port.specs.Heads.{StartsNext}
use Rattle.bridge_port.specs.StandsFor.{IsNextStart, EgressState, started_state, egress_state}
use Rattle.bridge_port.proofs.Keeping.{started_stands, started_counts, started_which, next_short}
use Rattle.bridge_port.proofs.Renewing.{class_below, done_fits, done_soon, emptied, next_fit, next_item, fits_empty, fits_emptied, fits_started, heads_started}
use Rattle.bridge_port.proofs.port.Port.start.Goals as goal

pub refresh_after_start-self-inside-requires-clause-kept : goal.refresh_after_start-self-inside-requires-clause-kept
refresh_after_start-self-inside-requires-clause-kept g c =
    let f = c.self.inside in
    let p = egress_state f.speed f.gates f.rings.items f.free f.earliest f.offered f.started in
    let S : EgressState _ → Type 0 = λ q. StartsNext q c.in-Some.k c.in-Some.class in
    let starts : StartsNext p c.in-Some.k c.in-Some.class = subst S (sym c.self.view_is) c.in-Some.ensures.next in
    let fit = next_fit p c.in-Some.k c.in-Some.class starts.item f.fits c.self.invariant.are_fits starts.next in
    let after = starts.next.after in
    let free = starts.next.free in
    let some = c.occupation-occ.ensures.some in
    rw c.pop_item-taken.ensures.queues (fits_started p c.in-Some.k c.in-Some.class f.fits _ c.self.invariant.are_fits fit (omega arith) (omega arith))

pub refresh_after_start-self-inside-requires-clause-none : goal.refresh_after_start-self-inside-requires-clause-none
refresh_after_start-self-inside-requires-clause-none g c =
    let f = c.self.inside in
    let p = egress_state f.speed f.gates f.rings.items f.free f.earliest f.offered f.started in
    let S : EgressState _ → Type 0 = λ q. StartsNext q c.in-Some.k c.in-Some.class in
    let starts : StartsNext p c.in-Some.k c.in-Some.class = subst S (sym c.self.view_is) c.in-Some.ensures.next in
    λ none. rw c.pop_item-taken.ensures.queues (fits_empty p c.in-Some.class _ f.fits c.self.invariant.are_fits (search rules) (emptied p c.in-Some.k c.in-Some.class f.queued c.self.invariant.all starts none))

pub refresh_after_start-self-inside-requires-clause-no_head : goal.refresh_after_start-self-inside-requires-clause-no_head
refresh_after_start-self-inside-requires-clause-no_head g c =
    let f = c.self.inside in
    let p = egress_state f.speed f.gates f.rings.items f.free f.earliest f.offered f.started in
    let S : EgressState _ → Type 0 = λ q. StartsNext q c.in-Some.k c.in-Some.class in
    let starts : StartsNext p c.in-Some.k c.in-Some.class = subst S (sym c.self.view_is) c.in-Some.ensures.next in
    λ none. fits_emptied p c.in-Some.class f.fits c.self.invariant.are_fits (search rules) (emptied p c.in-Some.k c.in-Some.class f.queued c.self.invariant.all starts none)

pub invariant_of-self : goal.invariant_of-self
invariant_of-self g c =
    let f = c.self.inside in
    let p = egress_state f.speed f.gates f.rings.items f.free f.earliest f.offered f.started in
    let S : EgressState _ → Type 0 = λ q. StartsNext q c.in-Some.k c.in-Some.class in
    let starts : StartsNext p c.in-Some.k c.in-Some.class = subst S (sym c.self.view_is) c.in-Some.ensures.next in
    let queues = c.pop_item-taken.ensures.queues in
    let some = c.occupation-occ.ensures.some in
    let fits = rw queues at c.refresh_after_start-self-inside.ensures.fits in
    let kept = heads_started p c.in-Some.k c.in-Some.class c.occupation-occ.result _ f.queued c.in-Some-taken.item c.refresh_after_start-self-inside.new.fits c.refresh_after_start-self-inside.result c.self.invariant.kept c.self.invariant.all starts c.in-Some-taken.ensures.head c.occupation-occ.ensures.exact c.occupation-occ.ensures.bounded (omega arith) fits c.refresh_after_start-self-inside.ensures.best in
    rw (c.refresh_after_start-self-inside.ensures.same, queues, c.pop_item-taken.ensures.rooms, c.occupation-occ.ensures.exact) kept

pub returns-clause-next : goal.returns-clause-next
returns-clause-next g c =
    let f = c.self.inside in
    let p = egress_state f.speed f.gates f.rings.items f.free f.earliest f.offered f.started in
    let S : EgressState _ → Type 0 = λ q. StartsNext q c.in-Some.k c.in-Some.class in
    let starts : StartsNext p c.in-Some.k c.in-Some.class = subst S (sym c.self.view_is) c.in-Some.ensures.next in
    let back : c.in-Some.k + 1 - 1 ≡ c.in-Some.k = omega arith in
    subst (λ (k : ℕ). IsNextStart c.args.self.now k c.in-Some.class c.in-Some-taken.item) (sym back)
    (subst (λ (q : EgressState _). IsNextStart q c.in-Some.k c.in-Some.class c.in-Some-taken.item) c.self.view_is
    (next_item p c.in-Some.k c.in-Some.class c.in-Some-taken.item starts c.in-Some-taken.ensures.head))

pub returns-clause-moved : goal.returns-clause-moved
returns-clause-moved g c =
    let back : c.in-Some.k + 1 - 1 ≡ c.in-Some.k = omega arith in
    rw (back, c.refresh_after_start-self-inside.ensures.same, c.pop_item-taken.ensures.queues, c.pop_item-taken.ensures.rooms, c.occupation-occ.ensures.exact)
    (ap (λ (q : EgressState _). started_state q c.in-Some.k c.in-Some.class c.in-Some-taken.item) c.self.view_is)

pub returns-clause-which : goal.returns-clause-which
returns-clause-which g c = started_which _ _ _ _ _ (returns-clause-next g c) (returns-clause-moved g c)

pub returns-clause-stands : goal.returns-clause-stands
returns-clause-stands g c = started_stands _ _ _ _ _ (returns-clause-next g c) (returns-clause-moved g c)

pub returns-clause-counts : goal.returns-clause-counts
returns-clause-counts g c = started_counts _ _ _ _ _ (returns-clause-next g c) (returns-clause-moved g c)

pub returns-clause-length : goal.returns-clause-length
returns-clause-length g c = next_short _ _ _ _ c.in-Some.ensures.kept (returns-clause-next g c)

pub returns-clause-bounded : goal.returns-clause-bounded
returns-clause-bounded g c =
    let kept = c.in-Some.ensures.kept in
    let len = next_short _ _ _ _ kept (returns-clause-next g c) in
    done_soon c.args.self.now c.in-Some.k c.in-Some.class c.occupation-occ.result kept c.in-Some.ensures.next (c.occupation-occ.ensures.bounded len)

pub returns-clause-class : goal.returns-clause-class
returns-clause-class g c = class_below c.args.self.now c.in-Some.k c.in-Some.class c.in-Some.ensures.kept c.in-Some.ensures.next

pub overflow_cast-result : goal.overflow_cast-result
overflow_cast-result g c = let few = class_below c.args.self.now c.in-Some.k c.in-Some.class c.in-Some.ensures.kept c.in-Some.ensures.next in omega (arith, few)

pub overflow_add-self : goal.overflow_add-self
overflow_add-self g c =
    let f = c.self.inside in
    let p = egress_state f.speed f.gates f.rings.items f.free f.earliest f.offered f.started in
    let S : EgressState _ → Type 0 = λ q. StartsNext q c.in-Some.k c.in-Some.class in
    let starts : StartsNext p c.in-Some.k c.in-Some.class = subst S (sym c.self.view_is) c.in-Some.ensures.next in
    let len = next_short p _ _ _ c.self.invariant.kept (next_item p c.in-Some.k c.in-Some.class c.in-Some-taken.item starts c.in-Some-taken.ensures.head) in
    let few = done_fits p c.in-Some.k c.in-Some.class c.occupation-occ.result c.self.invariant.kept starts (c.occupation-occ.ensures.bounded len) in
    omega (arith, few)

pub refresh_after_start-self-inside-requires-clause-from : goal.refresh_after_start-self-inside-requires-clause-from
refresh_after_start-self-inside-requires-clause-from g c =
    let f = c.self.inside in
    let p = egress_state f.speed f.gates f.rings.items f.free f.earliest f.offered f.started in
    let S : EgressState _ → Type 0 = λ q. StartsNext q c.in-Some.k c.in-Some.class in
    let starts : StartsNext p c.in-Some.k c.in-Some.class = subst S (sym c.self.view_is) c.in-Some.ensures.next in
    let len = next_short p _ _ _ c.self.invariant.kept (next_item p c.in-Some.k c.in-Some.class c.in-Some-taken.item starts c.in-Some-taken.ensures.head) in
    done_fits p c.in-Some.k c.in-Some.class c.occupation-occ.result c.self.invariant.kept starts (c.occupation-occ.ensures.bounded len)
