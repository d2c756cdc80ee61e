-- The search for source frames finds one result, step by step.
use Rattle.std.proofs.Common.{◌≡◌, ◌≢◌, ℕ, zero, suc, ◌+◌, ◌-◌, ◌<◌, ◌≤◌, true, false, List, [], ◌∷◌, Option, Some, None, map, length, refl, sym, ap, ◌∙◌, arith, add-one, eq-eqb}
use Rattle.std.specs.Prelude.{nat_eq, option_map, slice_get, slice_set, Vec, if◌then◌else◌}
use Rattle.std.specs.Fn.{iterate}
use Rattle.std.proofs.lemmas.Bool.{eqb-true}
use Rattle.std.proofs.lemmas.List.{map-set}
use Rattle.std.proofs.lemmas.Option.{same_Some, slice_get-map}
use Rattle.bridge_limits.proofs.Cases.{by_bool}
use Rattle.bridge_limits.proofs.Lists.{there_is}
use Rattle.net_model.specs.Networks.{Sender, sender}
use Rattle.net_model.specs.NetworkParts.{link_value}
use Rattle.net_model.specs.declared.links.Link.{Link}
use Rattle.bridge_semantics.specs.declared.outcome.Departure.{Departure}
use Rattle.bridge_semantics.specs.declared.outcome.Origin.{Origin}
use Rattle.net_report.specs.declared.copy_counting.HopRun.{HopRun}
use Rattle.net_report.specs.declared.sources.SourceFrame.{SourceFrame}
use Rattle.net_report.specs.Passes.{IsTraced, Trace, begun_of, contents, hop_step, own_from, own_root, pair_step, paired, pass, port_step, sender_at, sent_step, trace_of, traced_list, traces, unknown, upto}
use Rattle.net_report.specs.SourceFrames.{AddsNoSource, AreInitialSources, AreFirstHopFramesKnown, AreTraced, AreUnknown, HaveEach, IsExhausted, source_after_tracing}
use Rattle.net_report.proofs.Traced.{exhausted_of}

-- One step more.
pub upto_next : {X : Type 0} (f : ℕ → X → X) (n m : ℕ) (a : X) → m ≡ n + 1 → upto f m a ≡ f n (upto f n a)
upto_next {X} f n m a e = ap (λ (k : ℕ). upto f k a) (e ∙ add-one n)

-- One pass more, after the others.
pub iterate_next : {X : Type 0} (f : X → X) (n : ℕ) (x : X) → iterate f (suc n) x ≡ f (iterate f n x)
iterate_next f zero x = refl
iterate_next f (suc n) x = iterate_next f n (f x)

-- If a step changes nothing, more steps change nothing.
fixed : {X : Type 0} (f : X → X) (n : ℕ) (x : X) → f x ≡ x → iterate f n x ≡ x
fixed f zero x e = refl
fixed f (suc n) x e = ap (iterate f n) e ∙ fixed f n x e

-- If two numbers of steps reach unchanged values, these are equal.
once : {X : Type 0} (f : X → X) (m n : ℕ) (x : X) → f (iterate f m x) ≡ iterate f m x → f (iterate f n x) ≡ iterate f n x → iterate f m x ≡ iterate f n x
once f zero n x one other = sym (fixed f n x one)
once f (suc m) zero x one other = fixed f (suc m) x other
once f (suc m) (suc n) x one other = once f m n (f x) one other

-- The passes have one result.
pub traced_once : (links : List Link) (ts : List Trace) (a b : List (List (Option SourceFrame))) → IsTraced links ts a → IsTraced links ts b → a ≡ b
traced_once links ts a b one other =
    let f : List (List (Option SourceFrame)) → List (List (Option SourceFrame)) = pass links ts in
    let first : f (iterate f one.passes (begun_of ts)) ≡ iterate f one.passes (begun_of ts) = ap f (sym one.reached) ∙ (one.still ∙ one.reached) in
    let second : f (iterate f other.passes (begun_of ts)) ≡ iterate f other.passes (begun_of ts) = ap f (sym other.reached) ∙ (other.still ∙ other.reached) in
    one.reached ∙ (once f one.passes other.passes (begun_of ts) first second ∙ sym other.reached)

-- The frames traced one by one are the traced list.
pub traced_is : (s : Sender) (sent : List Departure) (roots : List (Option SourceFrame)) (q : ℕ) (origins : List Origin) (old new : List (Option SourceFrame)) → AreTraced s sent roots q origins old new
    → new ≡ traced_list s sent roots q origins old
traced_is s sent roots q [] old [] t = refl
traced_is s sent roots q [] old (y ∷ ys) t = let l = t.came in absurd (omega (arith, l))
traced_is s sent roots q (o ∷ os) [] [] t = refl
traced_is s sent roots q (o ∷ os) [] (y ∷ ys) t = let l = t.within in absurd (omega (arith, l))
traced_is s sent roots q (o ∷ os) (x ∷ xs) [] t = let l = t.covers 0 (omega arith) (omega arith) in absurd (omega (arith, l))
traced_is s sent roots q (o ∷ os) (x ∷ xs) (y ∷ ys) t =
    let within = t.within in
    let came = t.came in
    let here : y ≡ source_after_tracing s sent roots q o x = t.each 0 o x y refl refl refl in
    let rest : ys ≡ traced_list s sent roots q os xs = traced_is s sent roots q os xs ys (record {
      within = omega (arith, within);
      came = omega (arith, came);
      covers = λ k own there. let l = t.covers (suc k) (omega (arith, own)) (omega (arith, there)) in omega (arith, l);
      each = λ k. t.each (suc k);
    }) in
    ap (λ (z : Option SourceFrame). z ∷ ys) here ∙ ap (λ (l : List (Option SourceFrame)). source_after_tracing s sent roots q o x ∷ l) rest

-- If nothing more is found, the list stays the same.
exhausted_same : (s : Sender) (sent : List Departure) (roots : List (Option SourceFrame)) (q : ℕ) (origins : List Origin) (old : List (Option SourceFrame)) → length old ≡ length origins
    → IsExhausted s sent roots q origins old → traced_list s sent roots q origins old ≡ old
exhausted_same s sent roots q [] [] many done = refl
exhausted_same s sent roots q [] (x ∷ xs) many done = absurd (omega (arith, many))
exhausted_same s sent roots q (o ∷ os) [] many done = refl
exhausted_same s sent roots q (o ∷ os) (x ∷ xs) many done =
    ap (λ (z : Option SourceFrame). z ∷ traced_list s sent roots q os xs) (done 0 o x refl refl)
    ∙ ap (λ (l : List (Option SourceFrame)). x ∷ l) (exhausted_same s sent roots q os xs (omega (arith, many)) (λ k. done (suc k)))

-- Setting an item to its own value changes nothing.
set_kept : {X : Type 0} (xs : List X) (i : ℕ) (x : X) → slice_get xs i ≡ Some x → slice_set xs i x ≡ xs
set_kept [] i x there = refl
set_kept (y ∷ ys) zero x there = ap (λ z. z ∷ ys) (sym (same_Some y x there))
set_kept (y ∷ ys) (suc i) x there = ap (λ l. y ∷ l) (set_kept ys i x there)

contents_there : {A : Type 0} (all : List (Vec (Option SourceFrame) A)) (i : ℕ) (v : Vec (Option SourceFrame) A) → slice_get all i ≡ Some v → slice_get (contents all) i ≡ Some v.items
contents_there {A} all i v there = slice_get-map (λ (w : Vec (Option SourceFrame) A). w.items) all i ∙ ap (option_map (λ (w : Vec (Option SourceFrame) A). w.items)) there

trace_there : {A : Type 0} (hops : List (HopRun A)) (i : ℕ) (h : HopRun A) → slice_get hops i ≡ Some h → slice_get (traces hops) i ≡ Some (trace_of h)
trace_there {A} hops i h there = slice_get-map (λ (x : HopRun A). trace_of x) hops i ∙ ap (option_map (λ (x : HopRun A). trace_of x)) there

-- Two hops that exist.
paired_at : (s : Sender) (i q : ℕ) (all : List (List (Option SourceFrame))) (a b : Option Trace) (c d : Option (List (Option SourceFrame))) (h g : Trace) (mine others : List (Option SourceFrame))
    → a ≡ Some h → b ≡ Some g → c ≡ Some mine → d ≡ Some others
    → paired s i q all a b c d ≡ (if nat_eq g.bridge s.from.bridge then slice_set all i (traced_list s g.departures others q h.origins mine) else all)
paired_at s i q all a b c d h g mine others is_a is_b is_c is_d =
    ap (λ (x : Option Trace). paired s i q all x b c d) is_a
    ∙ (ap (λ (x : Option Trace). paired s i q all (Some h) x c d) is_b
    ∙ (ap (λ (x : Option (List (Option SourceFrame))). paired s i q all (Some h) (Some g) x d) is_c
    ∙ ap (λ (x : Option (List (Option SourceFrame))). paired s i q all (Some h) (Some g) (Some mine) x) is_d))

pair_is : {A : Type 0} (hops : List (HopRun A)) (all : List (Vec (Option SourceFrame) A)) (s : Sender) (i q j : ℕ) (h g : HopRun A) (mine others : Vec (Option SourceFrame) A)
    → slice_get hops i ≡ Some h → slice_get hops j ≡ Some g → slice_get all i ≡ Some mine → slice_get all j ≡ Some others
    → pair_step (traces hops) s i q j (contents all)
    ≡ (if nat_eq g.bridge s.from.bridge then slice_set (contents all) i (traced_list s g.view.now.departures.items others.items q h.view.now.origins.items mine.items) else contents all)
unfolding pair_step
pair_is {A} hops all s i q j h g mine others is_h is_g is_mine is_others =
    paired_at s i q (contents all) (slice_get (traces hops) i) (slice_get (traces hops) j) (slice_get (contents all) i) (slice_get (contents all) j)
    (trace_of h) (trace_of g) mine.items others.items
    (trace_there hops i h is_h) (trace_there hops j g is_g) (contents_there all i mine is_mine) (contents_there all j others is_others)

-- The other hop is at another bridge.
pub pair_apart : {A : Type 0} (hops : List (HopRun A)) (all : List (Vec (Option SourceFrame) A)) (s : Sender) (i q j : ℕ) → i < length hops → j < length hops → length all ≡ length hops
    → ((g : HopRun A) → slice_get hops j ≡ Some g → g.bridge ≢ s.from.bridge) → contents all ≡ pair_step (traces hops) s i q j (contents all)
pair_apart {A} hops all s i q j in_i in_j many apart =
    let (h, is_h) = there_is hops i in_i in
    let (g, is_g) = there_is hops j in_j in
    let (mine, is_mine) = there_is all i (omega (arith, in_i, many)) in
    let (others, is_others) = there_is all j (omega (arith, in_j, many)) in
    let no : nat_eq g.bridge s.from.bridge ≡ false = by_bool (nat_eq g.bridge s.from.bridge) (λ e. absurd (apart g is_g (eqb-true g.bridge s.from.bridge e))) (λ e. e) in
    let is : pair_step (traces hops) s i q j (contents all) ≡ contents all = rw no at (pair_is hops all s i q j h g mine others is_h is_g is_mine is_others) in
    sym is

-- The other hop is at the sending bridge.
pair_there : {A : Type 0} (hops : List (HopRun A)) (all : List (Vec (Option SourceFrame) A)) (s : Sender) (i q j : ℕ) (h g : HopRun A) (mine others : Vec (Option SourceFrame) A)
    → slice_get hops i ≡ Some h → slice_get hops j ≡ Some g → slice_get all i ≡ Some mine → slice_get all j ≡ Some others → g.bridge ≡ s.from.bridge
    → pair_step (traces hops) s i q j (contents all) ≡ slice_set (contents all) i (traced_list s g.view.now.departures.items others.items q h.view.now.origins.items mine.items)
pair_there {A} hops all s i q j h g mine others is_h is_g is_mine is_others bridge =
    let yes : nat_eq g.bridge s.from.bridge ≡ true = eq-eqb g.bridge s.from.bridge bridge in
    let is = pair_is hops all s i q j h g mine others is_h is_g is_mine is_others in
    is ∙ rw yes refl

pub pair_traced : {A : Type 0} (hops : List (HopRun A)) (all : List (Vec (Option SourceFrame) A)) (s : Sender) (i q j : ℕ) (h g : HopRun A) (mine others made : Vec (Option SourceFrame) A)
    → slice_get hops i ≡ Some h → slice_get hops j ≡ Some g → slice_get all i ≡ Some mine → slice_get all j ≡ Some others → g.bridge ≡ s.from.bridge
    → AreTraced s g.view.now.departures.items others.items q h.view.now.origins.items mine.items made.items
    → contents (slice_set all i made) ≡ pair_step (traces hops) s i q j (contents all)
pair_traced {A} hops all s i q j h g mine others made is_h is_g is_mine is_others bridge traced =
    map-set (λ (v : Vec (Option SourceFrame) A). v.items) all i made
    ∙ (ap (slice_set (contents all) i) (traced_is s g.view.now.departures.items others.items q h.view.now.origins.items mine.items made.items traced)
    ∙ sym (pair_there hops all s i q j h g mine others is_h is_g is_mine is_others bridge))

-- No more source is known afterwards.
pub pair_same : {A : Type 0} (hops : List (HopRun A)) (all : List (Vec (Option SourceFrame) A)) (s : Sender) (i q j : ℕ) (h g : HopRun A) (mine others made : Vec (Option SourceFrame) A)
    → slice_get hops i ≡ Some h → slice_get hops j ≡ Some g → slice_get all i ≡ Some mine → slice_get all j ≡ Some others → g.bridge ≡ s.from.bridge
    → AreTraced s g.view.now.departures.items others.items q h.view.now.origins.items mine.items made.items → AddsNoSource mine.items made.items → HaveEach hops all
    → contents all ≡ pair_step (traces hops) s i q j (contents all)
pair_same {A} hops all s i q j h g mine others made is_h is_g is_mine is_others bridge traced nothing each =
    let sent = g.view.now.departures.items in
    let origins = h.view.now.origins.items in
    let done = exhausted_of s sent others.items q origins mine.items made.items traced nothing in
    sym (pair_there hops all s i q j h g mine others is_h is_g is_mine is_others bridge
    ∙ (ap (slice_set (contents all) i) (exhausted_same s sent others.items q origins mine.items (each i h mine is_h is_mine) done)
    ∙ set_kept (contents all) i mine.items (contents_there all i mine is_mine)))

-- Arrivals at a linked port.
pub port_linked : {A : Type 0} (links : List Link) (hops : List (HopRun A)) (i q : ℕ) (all : List (List (Option SourceFrame))) (h : HopRun A) (s : Sender)
    → slice_get hops i ≡ Some h → sender (map link_value links) h.bridge q ≡ Some s → upto (pair_step (traces hops) s i q) (length (traces hops)) all ≡ port_step links (traces hops) i q all
unfolding port_step
port_linked {A} links hops i q all h s is_h is_s =
    sym (ap (λ (x : Option Trace). sent_step (traces hops) i q all (sender_at links q x)) (trace_there hops i h is_h)
    ∙ ap (sent_step (traces hops) i q all) is_s)

-- Arrivals at an open port.
pub port_open : {A : Type 0} (links : List Link) (hops : List (HopRun A)) (i q : ℕ) (all : List (List (Option SourceFrame))) (h : HopRun A)
    → slice_get hops i ≡ Some h → sender (map link_value links) h.bridge q ≡ None → all ≡ port_step links (traces hops) i q all
unfolding port_step
port_open {A} links hops i q all h is_h is_s =
    sym (ap (λ (x : Option Trace). sent_step (traces hops) i q all (sender_at links q x)) (trace_there hops i h is_h)
    ∙ ap (sent_step (traces hops) i q all) is_s)

-- One port more, and all ports.
pub ports_next : (links : List Link) (ts : List Trace) (i p : ℕ) (all : List (List (Option SourceFrame))) → 1 ≤ p
    → upto (λ k. port_step links ts i (k + 1)) (p + 1 - 1) all ≡ port_step links ts i p (upto (λ k. port_step links ts i (k + 1)) (p - 1) all)
ports_next links ts i p all low =
    let f : ℕ → List (List (Option SourceFrame)) → List (List (Option SourceFrame)) = λ k. port_step links ts i (k + 1) in
    let more : p + 1 - 1 ≡ (p - 1) + 1 = omega (arith, low) in
    let own : (p - 1) + 1 ≡ p = omega (arith, low) in
    upto_next f (p - 1) (p + 1 - 1) all more ∙ ap (λ (k : ℕ). port_step links ts i k (upto f (p - 1) all)) own

pub ports_all : (links : List Link) (ts : List Trace) (i n : ℕ) (all : List (List (Option SourceFrame))) → n ≡ 16 → upto (λ k. port_step links ts i (k + 1)) n all ≡ hop_step links ts i all
unfolding hop_step
ports_all links ts i n all e = ap (λ (m : ℕ). upto (λ k. port_step links ts i (k + 1)) m all) e

-- Frames that are their own sources.
own_is : (origins : List Origin) (roots : List (Option SourceFrame)) (n : ℕ) → length roots ≡ length origins
    → ((k : ℕ) (o : Origin) → slice_get origins k ≡ Some o → slice_get roots k ≡ Some (Some (own_root (k + n) o))) → roots ≡ own_from n origins
own_is [] [] n many each = refl
own_is [] (x ∷ xs) n many each = absurd (omega (arith, many))
own_is (o ∷ os) [] n many each = absurd (omega (arith, many))
own_is (o ∷ os) (x ∷ xs) n many each =
    let first : 0 + n ≡ n = omega arith in
    let here : x ≡ Some (own_root n o) = same_Some x (Some (own_root (0 + n) o)) (each 0 o refl) ∙ ap (λ (m : ℕ). Some (own_root m o)) first in
    let rest : xs ≡ own_from (n + 1) os = own_is os xs (n + 1) (omega (arith, many))
    (λ k p there. let next : suc k + n ≡ k + (n + 1) = omega arith in each (suc k) p there ∙ ap (λ (m : ℕ). Some (Some (own_root m p))) next) in
    ap (λ (z : Option SourceFrame). z ∷ xs) here ∙ ap (λ (l : List (Option SourceFrame)). Some (own_root n o) ∷ l) rest

-- Frames with unknown sources.
unknown_is : (origins : List Origin) (roots : List (Option SourceFrame)) → length roots ≡ length origins → AreUnknown roots → roots ≡ unknown origins
unknown_is [] [] many none = refl
unknown_is [] (x ∷ xs) many none = absurd (omega (arith, many))
unknown_is (o ∷ os) [] many none = absurd (omega (arith, many))
unknown_is (o ∷ os) (Some r ∷ xs) many none = absurd (none 0 r refl)
unknown_is (o ∷ os) (None ∷ xs) many none = ap (λ (l : List (Option SourceFrame)). None ∷ l) (unknown_is os xs (omega (arith, many)) (λ k. none (suc k)))

-- All hops after the first.
rest_is : {A : Type 0} (hops : List (HopRun A)) (all : List (Vec (Option SourceFrame) A)) → length all ≡ length hops
    → ((i k : ℕ) (known : Vec (Option SourceFrame) A) (r : SourceFrame) → slice_get all i ≡ Some known → slice_get known.items k ≡ Some (Some r) → ⊥)
    → HaveEach hops all → contents all ≡ map (λ (u : Trace). unknown u.origins) (traces hops)
rest_is [] [] many none each = refl
rest_is [] (v ∷ vs) many none each = absurd (omega (arith, many))
rest_is (h ∷ hs) [] many none each = absurd (omega (arith, many))
rest_is (h ∷ hs) (v ∷ vs) many none each =
    let here : v.items ≡ unknown h.view.now.origins.items = unknown_is h.view.now.origins.items v.items (each 0 h v refl refl) (λ k r there. none 0 k v r refl there) in
    let rest : contents vs ≡ map (λ (u : Trace). unknown u.origins) (traces hs) = rest_is hs vs (omega (arith, many)) (λ i. none (suc i)) (λ i. each (suc i)) in
    ap (λ (l : List (Option SourceFrame)). l ∷ contents vs) here ∙ ap (λ (l : List (List (Option SourceFrame))). unknown h.view.now.origins.items ∷ l) rest

-- The initial sources.
pub begun_is : {A : Type 0} (hops : List (HopRun A)) (all : List (Vec (Option SourceFrame) A)) → length all ≡ length hops → AreInitialSources hops all → AreFirstHopFramesKnown hops all → HaveEach hops all
    → contents all ≡ begun_of (traces hops)
begun_is [] [] many begun first each = refl
begun_is [] (v ∷ vs) many begun first each = absurd (omega (arith, many))
begun_is (h ∷ hs) [] many begun first each = absurd (omega (arith, many))
begun_is (h ∷ hs) (v ∷ vs) many begun first each =
    let here : v.items ≡ own_from 1 h.view.now.origins.items = own_is h.view.now.origins.items v.items 1 (each 0 h v refl refl) (λ k o there. first h v k o refl refl there) in
    let rest : contents vs ≡ map (λ (u : Trace). unknown u.origins) (traces hs) = rest_is hs vs (omega (arith, many))
    (λ i k known r there root. let from = begun (suc i) k known r there root in let place = from.place in absurd (omega (arith, place)))
    (λ i. each (suc i)) in
    ap (λ (l : List (Option SourceFrame)). l ∷ contents vs) here ∙ ap (λ (l : List (List (Option SourceFrame))). own_from 1 h.view.now.origins.items ∷ l) rest
