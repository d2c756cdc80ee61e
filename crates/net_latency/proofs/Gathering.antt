-- The delays of one queue more.
use Rattle.std.proofs.Common.{◌≡◌, ◌+◌, ◌-◌, ◌<◌, ◌≤◌, ℕ, zero, suc, Bool, true, false, List, [], ◌∷◌, ◌++◌, Option, refl, ap, arith, get_or, length, sym, subst, take, ◌∙◌}
use Rattle.std.proofs.lemmas.List.{append-nil, take_all, take_more}
use Rattle.std.proofs.lemmas.List.Elements.{filter-append}
use Rattle.std.proofs.lemmas.List.Sums.{fold-append}
use Rattle.std.specs.Prelude.{◌↔◌, filter, fold, slice_get}
use Rattle.bridge_limits.proofs.Cases.{by_bool}
use Rattle.net_model.specs.declared.links.StreamHop.{StreamHop}
use Rattle.net_latency.specs.declared.latency.StreamLatency.{StreamLatency}
use Rattle.net_latency.specs.declared.latency.CombinedLatency.{CombinedLatency}
use Rattle.net_latency.specs.declared.latency.CombinedLatency.TheVariants as gathered
use Rattle.net_latency.specs.declared.queue_exit.HopArrival.{HopArrival}
use Rattle.net_latency.specs.declared.tree.HopQueue.{HopQueue}
use Rattle.net_latency.specs.StreamLatency.{Pairwise, AddsQueueLatency, HopPasses, IsQueueLatency, StreamModel, IsHopLatency, IfElse, known_latency, is_queue_of_hop, add_latency}

each_push : {X Y : Type 0} (R : X → Y → Type 0) (xs : List X) (ys : List Y) (x : X) (y : Y) → Pairwise R xs ys → R x y → Pairwise R (xs ++ x ∷ []) (ys ++ y ∷ [])
each_push R [] [] x y each is = (is, tt)
each_push R [] (z ∷ ys) x y each is = absurd each
each_push R (z ∷ xs) [] x y each is = absurd each
each_push R (z ∷ xs) (w ∷ ys) x y (here, more) is = (here, each_push R xs ys x y more is)

-- The delays of a hop's queues among these queues.
pub record IsGathered {A : Type 0} (T : StreamHop → HopArrival → Option StreamLatency → Type 0) (n : StreamModel A) (h : StreamHop) (a : HopArrival) (passes : Bool) (queues : List HopQueue) (g : CombinedLatency) : Type 0 where
  pub figures : List (Option StreamLatency)
  pub each : Pairwise (IsQueueLatency T n a passes) (filter (is_queue_of_hop h) queues) figures
  pub same : g ≡ fold add_latency gathered.NoQueue figures

pub gathered_none : {A : Type 0} (T : StreamHop → HopArrival → Option StreamLatency → Type 0) (n : StreamModel A) (h : StreamHop) (a : HopArrival) (passes : Bool) → IsGathered T n h a passes [] gathered.NoQueue
gathered_none T n h a passes = record { figures = []; each = tt; same = refl }

one_filtered : (p : HopQueue → Bool) (x : HopQueue) → p x ≡ true → filter p (x ∷ []) ≡ x ∷ []
one_filtered p x is = rw is refl

none_filtered : (p : HopQueue → Bool) (x : HopQueue) → p x ≡ false → filter p (x ∷ []) ≡ []
none_filtered p x is = rw is refl

-- A queue of the hop.
pub gathered_more : {A : Type 0} (T : StreamHop → HopArrival → Option StreamLatency → Type 0) (n : StreamModel A) (h : StreamHop) (a : HopArrival) (passes : Bool) (queues : List HopQueue) (g : CombinedLatency) (x : HopQueue) (r : Option StreamLatency)
    → IsGathered T n h a passes queues g → is_queue_of_hop h x ≡ true → IsQueueLatency T n a passes x r → IsGathered T n h a passes (queues ++ x ∷ []) (add_latency g r)
gathered_more T n h a passes queues g x r before own told =
    let cut : filter (is_queue_of_hop h) (queues ++ x ∷ []) ≡ filter (is_queue_of_hop h) queues ++ x ∷ [] =
    filter-append (is_queue_of_hop h) queues (x ∷ []) ∙ ap (λ (zs : List HopQueue). filter (is_queue_of_hop h) queues ++ zs) (one_filtered (is_queue_of_hop h) x own) in
    let grown = each_push (IsQueueLatency T n a passes) (filter (is_queue_of_hop h) queues) before.figures x r before.each told in
    record {
      figures = before.figures ++ r ∷ [];
      each = subst (λ (zs : List HopQueue). Pairwise (IsQueueLatency T n a passes) zs (before.figures ++ r ∷ [])) (sym cut) grown;
      same = ap (λ (y : CombinedLatency). add_latency y r) before.same ∙ sym (fold-append add_latency gathered.NoQueue before.figures (r ∷ []));
    }

-- A queue of another hop.
pub gathered_past : {A : Type 0} (T : StreamHop → HopArrival → Option StreamLatency → Type 0) (n : StreamModel A) (h : StreamHop) (a : HopArrival) (passes : Bool) (queues : List HopQueue) (g : CombinedLatency) (x : HopQueue)
    → IsGathered T n h a passes queues g → is_queue_of_hop h x ≡ false → IsGathered T n h a passes (queues ++ x ∷ []) g
gathered_past T n h a passes queues g x before other =
    let cut : filter (is_queue_of_hop h) (queues ++ x ∷ []) ≡ filter (is_queue_of_hop h) queues =
    filter-append (is_queue_of_hop h) queues (x ∷ []) ∙ (ap (λ (zs : List HopQueue). filter (is_queue_of_hop h) queues ++ zs) (none_filtered (is_queue_of_hop h) x other) ∙ append-nil (filter (is_queue_of_hop h) queues)) in
    record {
      figures = before.figures;
      each = subst (λ (zs : List HopQueue). Pairwise (IsQueueLatency T n a passes) zs before.figures) (sym cut) before.each;
      same = before.same;
    }

-- A queue of any hop.
pub gathered_one : {A : Type 0} (T : StreamHop → HopArrival → Option StreamLatency → Type 0) (n : StreamModel A) (h : StreamHop) (a : HopArrival) (passes : Bool) (queues : List HopQueue) (g after : CombinedLatency) (x : HopQueue)
    → IsGathered T n h a passes queues g → AddsQueueLatency T n h a passes x g after → IsGathered T n h a passes (queues ++ x ∷ []) after
gathered_one {A} T n h a passes queues g after x before step = by_bool (is_queue_of_hop h x)
    (λ own.
    let (r, told, e) : (r : Option StreamLatency) × IsQueueLatency T n a passes x r × (after ≡ add_latency g r) = subst (λ (b : Bool). IfElse b ((r : Option StreamLatency) × IsQueueLatency T n a passes x r × (after ≡ add_latency g r)) (after ≡ g)) own step in
    subst (λ (y : CombinedLatency). IsGathered T n h a passes (queues ++ x ∷ []) y) (sym e) (gathered_more T n h a passes queues g x r before own told))
    (λ other.
    let e : after ≡ g = subst (λ (b : Bool). IfElse b ((r : Option StreamLatency) × IsQueueLatency T n a passes x r × (after ≡ add_latency g r)) (after ≡ g)) other step in
    subst (λ (y : CombinedLatency). IsGathered T n h a passes (queues ++ x ∷ []) y) (sym e) (gathered_past T n h a passes queues g x before other))

-- The queue at index `k`.
pub gathered_next : {A : Type 0} (T : StreamHop → HopArrival → Option StreamLatency → Type 0) (n : StreamModel A) (h : StreamHop) (a : HopArrival) (passes : Bool) (queues : List HopQueue) (k : ℕ) (d x : HopQueue) (g after : CombinedLatency)
    → k < length queues → IsGathered T n h a passes (take k queues) g → AddsQueueLatency T n h a passes x g after → x ≡ get_or queues k d → IsGathered T n h a passes (take (k + 1) queues) after
gathered_next T n h a passes queues k d x g after before so_far step at =
    let cut : take (k + 1) queues ≡ take k queues ++ x ∷ [] = take_more queues k d before ∙ ap (λ (z : HopQueue). take k queues ++ z ∷ []) (sym at) in
    subst (λ (zs : List HopQueue). IsGathered T n h a passes zs after) (sym cut) (gathered_one T n h a passes (take k queues) g after x so_far step)

-- The delays of all queues are the delays of the hop.
pub told_all : {A : Type 0} (n : StreamModel A) (depth : ℕ) (h : StreamHop) (a : HopArrival) (passes : Bool) (queues : List HopQueue) (k : ℕ) (g : CombinedLatency) (r : Option StreamLatency)
    → 1 ≤ depth → length queues ≤ k → queues ≡ n.queues → ((passes ≡ true) ↔ HopPasses (slice_get n.plans h.bridge) h.filter a.traffic)
    → IsGathered (IsHopLatency n (depth - 1)) n h a passes (take k queues) g → r ≡ known_latency g → IsHopLatency n depth h a r
told_all n zero h a passes queues k g r some whole own passing gathered is = absurd (omega (arith, some))
told_all n (suc d) h a passes queues k g r some whole own passing gathered is =
    let less : suc d - 1 ≡ d = omega arith in
    let cut : take k queues ≡ n.queues = take_all k queues whole ∙ own in
    let all : IsGathered (IsHopLatency n d) n h a passes n.queues g = subst (λ (j : ℕ). IsGathered (IsHopLatency n j) n h a passes n.queues g) less (subst (λ (zs : List HopQueue). IsGathered (IsHopLatency n (suc d - 1)) n h a passes zs g) cut gathered) in
    record {
      passes = passes;
      is_passing = passing;
      figures = all.figures;
      each = all.each;
      all = is ∙ ap known_latency all.same;
    }
