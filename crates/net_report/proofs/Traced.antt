-- Sources of frames that arrived over links.
use Rattle.std.proofs.Common.{◌≡◌, ◌≢◌, ◌⊎◌, inl, inr, ℕ, suc, ◌+◌, ◌-◌, ◌<◌, ◌≤◌, true, false, List, [], ◌∷◌, ◌++◌, Option, Some, None, map, length, refl, sym, ap, subst, ◌∙◌, arith}
use Rattle.std.specs.Prelude.{nat_eq, nat_le, is_some, slice_get, slice_set, Vec}
use Rattle.std.proofs.lemmas.Bool.{and_parts, eqb-true, eqb-false}
use Rattle.std.proofs.lemmas.Bool.Decides.{nat_tests}
use Rattle.std.proofs.lemmas.Option.{slice_get_within, same_Some}
use Rattle.bridge_limits.specs.Members.{IsMember}
use Rattle.bridge_limits.proofs.Cases.{by_bool}
use Rattle.bridge_limits.proofs.Lists.{pushed, there_is, set_here, set_there, heads}
use Rattle.net_model.specs.Networks.{Sender, sender}
use Rattle.net_model.specs.NetworkParts.{link_value}
use Rattle.net_model.specs.declared.links.Link.{Link}
use Rattle.bridge_semantics.specs.declared.outcome.Departure.{Departure}
use Rattle.bridge_semantics.specs.declared.outcome.Origin.{Origin}
use Rattle.net_report.specs.declared.copy_counting.HopRun.{HopRun}
use Rattle.net_report.specs.declared.sources.SourceFrame.{SourceFrame}
use Rattle.net_report.specs.SourceFrames.{AddsNoSource, AreInitialSources, AreInitialSourcesOfHop, AreFirstHopSources, AreFirstHopFramesKnown, HaveSources, AreOpen, AreOwnSources, AreSound, AreTraced, AreUnknown, HaveEach, IsExhausted, HasSource, IsSourceByCopy, IsPairExhausted, IsTracedByFrame, IsSenderOfPort, IsRestEnough, due_departures, is_due, flatten, source_frame, source_over_link, source_after_tracing}

-- The copies from the first due one are among all copies.
pub due_in : (q delay at : ℕ) (ds : List Departure) (d : Departure) → IsMember d (due_departures q delay at ds) → IsMember d ds
due_in q delay at [] d h = h
due_in q delay at (x ∷ xs) d h = by_bool (is_due q delay at x)
    (λ k. let here : IsMember d (x ∷ xs) = rw k at h in here)
    (λ k. let past : IsMember d (due_departures q delay at xs) = rw k at h in inr (due_in q delay at xs d past))

-- The first of these copies is due.
due_first : (q delay at : ℕ) (ds : List Departure) (d : Departure) (rest : List Departure) → due_departures q delay at ds ≡ d ∷ rest → is_due q delay at d ≡ true
due_first q delay at [] d rest e = absurd (cc)
due_first q delay at (x ∷ xs) d rest e = by_bool (is_due q delay at x)
    (λ k. let same : x ∷ xs ≡ d ∷ rest = rw k at e in subst (λ (y : Departure). is_due q delay at y ≡ true) (heads x d xs rest same) k)
    (λ k. let past : due_departures q delay at xs ≡ d ∷ rest = rw k at e in due_first q delay at xs d rest past)

-- The source of the first copy is the source of a copy that arrives over the link at this time.
pub over_in : (s : Sender) (q : ℕ) (o : Origin) (ds us : List Departure) (roots : List (Option SourceFrame)) (r : SourceFrame) → o.port ≡ q → us ≡ due_departures s.from.port s.delay o.at ds
    → source_over_link roots s.delay o.at us ≡ Some r → IsSourceByCopy s ds roots q o r
over_in s q o ds [] roots r to same e = absurd (cc)
over_in s q o ds (d ∷ us) roots r to same e = by_bool (nat_eq (d.done + s.delay) o.at)
    (λ k.
    let known : source_frame roots d.own ≡ Some r = rw k at e in
    let due = and_parts (nat_eq d.port s.from.port) _ (due_first s.from.port s.delay o.at ds d us (sym same)) in
    record {
      copy = d;
      listed = due_in s.from.port s.delay o.at ds d (subst (λ (l : List Departure). IsMember d l) same (inl refl));
      to = to;
      port = eqb-true d.port s.from.port due.0;
      moment = eqb-true (d.done + s.delay) o.at k;
      known = known;
    })
    (λ k. let none : None ≡ Some r = rw k at e in absurd (cc))

-- A copy that isn't due at a time isn't due later.
not_due : (q delay at later : ℕ) (x : Departure) → at ≤ later → is_due q delay at x ≡ false → is_due q delay later x ≡ false
not_due q delay at later x le k = by_bool (nat_eq x.port q)
    (λ e. let before : nat_le at (x.done + delay) ≡ false = rw e at k in let after : nat_le later (x.done + delay) ≡ false = grind (arith, nat_tests) in rw e after)
    (λ e. rw e refl)

-- The copies that are due later are among the copies that are due earlier.
due_again : (q delay at later : ℕ) (ds : List Departure) → at ≤ later → due_departures q delay later (due_departures q delay at ds) ≡ due_departures q delay later ds
due_again q delay at later [] le = refl
due_again q delay at later (x ∷ xs) le = by_bool (is_due q delay at x)
    (λ k. rw k refl)
    (λ k. rw (k, not_due q delay at later x le k) (due_again q delay at later xs le))

pub serve_due : (s : Sender) (sent due : List Departure) (at : ℕ) → due ≡ due_departures s.from.port s.delay at sent → IsRestEnough s sent due at
serve_due s sent due at e = λ later le. ap (due_departures s.from.port s.delay later) e ∙ due_again s.from.port s.delay at later sent le

-- A known source stays the same.
traced_some : (s : Sender) (sent : List Departure) (roots : List (Option SourceFrame)) (q : ℕ) (o : Origin) (r : SourceFrame) → source_after_tracing s sent roots q o (Some r) ≡ Some r
traced_some s sent roots q o r = by_bool (nat_eq o.port q) (λ k. rw k refl) (λ k. rw k refl)

pub traced_known : (s : Sender) (sent : List Departure) (roots : List (Option SourceFrame)) (q : ℕ) (o : Origin) (x : Option SourceFrame) → is_some x ≡ true → x ≡ source_after_tracing s sent roots q o x
traced_known s sent roots q o (Some r) h = sym (traced_some s sent roots q o r)
traced_known s sent roots q o None h = absurd (cc)

-- A source of a frame on another port stays the same.
pub traced_apart : (s : Sender) (sent : List Departure) (roots : List (Option SourceFrame)) (q : ℕ) (o : Origin) (x : Option SourceFrame) → o.port ≢ q → x ≡ source_after_tracing s sent roots q o x
traced_apart s sent roots q o x n = by_bool (nat_eq o.port q) (λ k. absurd (n (eqb-true o.port q k))) (λ k. rw k refl)

-- Otherwise the source is the found one.
pub traced_found : (s : Sender) (sent due : List Departure) (roots : List (Option SourceFrame)) (q : ℕ) (o : Origin) (x y : Option SourceFrame) → o.port ≡ q → is_some x ≡ false
    → due ≡ due_departures s.from.port s.delay o.at sent → y ≡ source_over_link roots s.delay o.at due → y ≡ source_after_tracing s sent roots q o x
traced_found s sent due roots q o (Some r) y to none same is = absurd (cc)
traced_found s sent due roots q o None y to none same is =
    let here : nat_eq o.port q ≡ true = grind (arith, nat_tests) in
    let found : y ≡ source_over_link roots s.delay o.at (due_departures s.from.port s.delay o.at sent) = is ∙ ap (source_over_link roots s.delay o.at) same in
    rw here found

joined_is : (x : Option (Option SourceFrame)) (r : SourceFrame) → flatten x ≡ Some r → x ≡ Some (Some r)
joined_is None r e = absurd (cc)
joined_is (Some y) r e = ap (λ (z : Option SourceFrame). Some z) e

-- The source of a frame by its number is the item at its index.
pub root_there : (roots : List (Option SourceFrame)) (n : ℕ) (r : SourceFrame) → source_frame roots n ≡ Some r → (1 ≤ n) × (slice_get roots (n - 1) ≡ Some (Some r))
root_there roots n r e = by_bool (nat_eq n 0)
    (λ k. let none : None ≡ Some r = rw k at e in absurd (cc))
    (λ k.
    let there : flatten (slice_get roots (n - 1)) ≡ Some r = rw k at e in
    (let apart = eqb-false n 0 k in omega (arith, apart), joined_is (slice_get roots (n - 1)) r there))

traced_or : (s : Sender) (sent : List Departure) (roots : List (Option SourceFrame)) (q : ℕ) (o : Origin) (x : Option SourceFrame) (r : SourceFrame) → source_after_tracing s sent roots q o x ≡ Some r → (x ≡ Some r) ⊎ IsSourceByCopy s sent roots q o r
traced_or s sent roots q o (Some y) r e = inl (sym (traced_some s sent roots q o y) ∙ e)
traced_or s sent roots q o None r e = by_bool (nat_eq o.port q)
    (λ k. let there : source_over_link roots s.delay o.at (due_departures s.from.port s.delay o.at sent) ≡ Some r = rw k at e in
    inr (over_in s q o sent (due_departures s.from.port s.delay o.at sent) roots r (eqb-true o.port q k) refl there))
    (λ k. let none : None ≡ Some r = rw k at e in absurd (cc))

-- One frame of a port is traced from another hop.
one_traced : {A : Type 0} (links : List Link) (hops : List (HopRun A)) (all : List (Vec (Option SourceFrame) A)) (h g : HopRun A) (mine others made : Vec (Option SourceFrame) A) (place other q : ℕ) (s : Sender)
    → slice_get hops place ≡ Some h → slice_get hops other ≡ Some g → slice_get all place ≡ Some mine → slice_get all other ≡ Some others
    → g.bridge ≡ s.from.bridge → IsSenderOfPort links hops place q s
    → AreTraced s g.view.now.departures.items others.items q h.view.now.origins.items mine.items made.items
    → HaveSources links hops all → HaveSources links hops (slice_set all place made)
one_traced {A} links hops all h g mine others made place other q s is_h is_g is_mine is_others bridge sends traced are i k known r is_known is_root = by_bool (nat_eq i place)
    (λ e.
    let here : i ≡ place = eqb-true i place e in
    let set : slice_get (slice_set all place made) place ≡ Some made = set_here all place made (slice_get_within all place mine is_mine) in
    let same : known ≡ made = same_Some known made (sym is_known ∙ (ap (slice_get (slice_set all place made)) here ∙ set)) in
    let root : slice_get made.items k ≡ Some (Some r) = subst (λ (v : Vec (Option SourceFrame) A). slice_get v.items k ≡ Some (Some r)) same is_root in
    let inside = slice_get_within made.items k (Some r) root in
    let within = traced.within in
    let beside = traced.came in
    let (x, was) = there_is mine.items k (omega (arith, inside, within)) in
    let (o, came) = there_is h.view.now.origins.items k (omega (arith, inside, beside)) in
    elim (traced_or s g.view.now.departures.items others.items q o x r (sym (traced.each k o x (Some r) came was root))) [
      | inl old ↦
          let (n, from) = are place k mine r is_mine (was ∙ ap (λ (z : Option SourceFrame). Some z) old) in
          (n, subst (λ (j : ℕ). HasSource links hops r n j k) (sym here) from)
      | inr over ↦
          let number = root_there others.items over.copy.own r over.known in
          let (n, from) = are other (over.copy.own - 1) others r is_others number.1 in (
            suc n,
            record {
              hop = h;
              other = g;
              place = other;
              origin = o;
              copy = over.copy;
              there = ap (slice_get hops) here ∙ is_h;
              came = came;
              other_there = is_g;
              over = record {
                from = s;
                linked = ap (sender (map link_value links) h.bridge) over.to ∙ sends h is_h;
                bridge = bridge;
                listed = over.listed;
                port = over.port;
                moment = over.moment;
              };
              numbered = number.0;
              known = from;
            },
          )
    ])
    (λ e.
    let apart : i ≢ place = eqb-false i place e in
    are i k known r (sym (set_there all place i made apart) ∙ is_known) is_root)

-- Each first-hop frame stays known.
first_kept : {A : Type 0} (hops : List (HopRun A)) (all : List (Vec (Option SourceFrame) A)) (h : HopRun A) (mine made : Vec (Option SourceFrame) A) (place q : ℕ) (s : Sender) (sent : List Departure) (roots : List (Option SourceFrame))
    → slice_get hops place ≡ Some h → slice_get all place ≡ Some mine → AreTraced s sent roots q h.view.now.origins.items mine.items made.items
    → AreFirstHopFramesKnown hops all → AreFirstHopFramesKnown hops (slice_set all place made)
first_kept {A} hops all h mine made place q s sent roots is_h is_mine traced are first known k o is_first is_known came = by_bool (nat_eq 0 place)
    (λ e.
    let here : 0 ≡ place = eqb-true 0 place e in
    let r : SourceFrame = record { number = k + 1; came = o.at } in
    let set : slice_get (slice_set all place made) place ≡ Some made = set_here all place made (slice_get_within all place mine is_mine) in
    let same : known ≡ made = same_Some known made (sym is_known ∙ (ap (slice_get (slice_set all place made)) here ∙ set)) in
    let own : first ≡ h = same_Some first h (sym is_first ∙ (ap (slice_get hops) here ∙ is_h)) in
    let was : slice_get mine.items k ≡ Some (Some r) = are first mine k o is_first (ap (slice_get all) here ∙ is_mine) came in
    let own_came : slice_get h.view.now.origins.items k ≡ Some o = subst (λ (g : HopRun A). slice_get g.view.now.origins.items k ≡ Some o) own came in
    let (y, is_y) = there_is made.items k (traced.covers k (slice_get_within mine.items k (Some r) was) (slice_get_within h.view.now.origins.items k o own_came)) in
    let is : y ≡ Some r = traced.each k o (Some r) y own_came was is_y ∙ traced_some s sent roots q o r in
    subst (λ (v : Vec (Option SourceFrame) A). slice_get v.items k ≡ Some (Some r)) (sym same) (is_y ∙ ap (λ (z : Option SourceFrame). Some z) is))
    (λ e.
    let apart : 0 ≢ place = eqb-false 0 place e in
    are first known k o is_first (sym (set_there all place 0 made apart) ∙ is_known) came)

below : (m n : ℕ) → m ≤ n → (m < n) ⊎ (m ≡ n)
below m n l = by_bool (nat_eq m n) (λ e. inr (eqb-true m n e)) (λ e. inl (let no = eqb-false m n e in omega (arith, l, no)))

-- A list that covers another and isn't longer has equal length.
as_long : (old new : List (Option SourceFrame)) (origins : List Origin) → length old ≡ length origins → length new ≤ length old → ((k : ℕ) → k < length old → k < length origins → k < length new) → length new ≡ length old
as_long old new origins same within covers = elim (below (length new) (length old) within) [
  | inl less ↦ let all = covers (length new) less (subst (λ (n : ℕ). length new < n) same less) in absurd (omega (arith, all))
  | inr equal ↦ equal
]

-- A traced hop has an entry for each frame.
each_kept : {A : Type 0} (hops : List (HopRun A)) (all : List (Vec (Option SourceFrame) A)) (h : HopRun A) (mine made : Vec (Option SourceFrame) A) (place q : ℕ) (s : Sender) (sent : List Departure) (roots : List (Option SourceFrame))
    → slice_get hops place ≡ Some h → slice_get all place ≡ Some mine → AreTraced s sent roots q h.view.now.origins.items mine.items made.items → HaveEach hops all → HaveEach hops (slice_set all place made)
each_kept {A} hops all h mine made place q s sent roots is_h is_mine traced each i x known is_x is_known = by_bool (nat_eq i place)
    (λ e.
    let same : i ≡ place = eqb-true i place e in
    let own : x ≡ h = same_Some x h (sym is_x ∙ (ap (slice_get hops) same ∙ is_h)) in
    let here : slice_get (slice_set all place made) place ≡ Some made = set_here all place made (slice_get_within all place mine is_mine) in
    let is_made : known ≡ made = same_Some known made (sym is_known ∙ (ap (slice_get (slice_set all place made)) same ∙ here)) in
    let was : length mine.items ≡ length h.view.now.origins.items = each place h mine is_h is_mine in
    let within = traced.within in
    let long : length made.items ≡ length mine.items = as_long mine.items made.items h.view.now.origins.items was within traced.covers in
    ap (λ (v : Vec (Option SourceFrame) A). length v.items) is_made ∙ (long ∙ (was ∙ ap (λ (z : HopRun A). length z.view.now.origins.items) (sym own))))
    (λ e. each i x known is_x (sym (set_there all place i made (λ same. eqb-false i place e same)) ∙ is_known))

pub sound_kept : {A : Type 0} (links : List Link) (hops : List (HopRun A)) (all : List (Vec (Option SourceFrame) A)) (h g : HopRun A) (mine others made : Vec (Option SourceFrame) A) (place other q : ℕ) (s : Sender)
    → slice_get hops place ≡ Some h → slice_get hops other ≡ Some g → slice_get all place ≡ Some mine → slice_get all other ≡ Some others
    → g.bridge ≡ s.from.bridge → IsSenderOfPort links hops place q s
    → AreTraced s g.view.now.departures.items others.items q h.view.now.origins.items mine.items made.items
    → AreSound links hops all → AreSound links hops (slice_set all place made)
sound_kept links hops all h g mine others made place other q s is_h is_g is_mine is_others bridge sends traced are = record {
  from = one_traced links hops all h g mine others made place other q s is_h is_g is_mine is_others bridge sends traced are.from;
  first = first_kept hops all h mine made place q s g.view.now.departures.items others.items is_h is_mine traced are.first;
  each = each_kept hops all h mine made place q s g.view.now.departures.items others.items is_h is_mine traced are.each;
}

-- If nothing is added, nothing more can be found.
pub exhausted_of : (s : Sender) (sent : List Departure) (roots : List (Option SourceFrame)) (q : ℕ) (origins : List Origin) (old new : List (Option SourceFrame)) → AreTraced s sent roots q origins old new → AddsNoSource old new
    → IsExhausted s sent roots q origins old
exhausted_of s sent roots q origins old new traced nothing k o (Some r) came was = traced_some s sent roots q o r
exhausted_of s sent roots q origins old new traced nothing k o None came was =
    let (y, is) = there_is new k (traced.covers k (slice_get_within old k None was) (slice_get_within origins k o came)) in
    sym (traced.each k o None y came was is) ∙ nothing k y was is

-- One frame more of the first hop.
pub first_more : (origins : List Origin) (roots : List (Option SourceFrame)) (o : Origin) (x : SourceFrame) → slice_get origins (length roots) ≡ Some o → x ≡ record { number = length roots + 1; came = o.at }
    → AreOwnSources origins roots → AreOwnSources origins (roots ++ Some x ∷ [])
first_more origins roots o x came is are k y there = elim (pushed roots (Some x) y k there) [
  | inl before ↦ are k y before
  | inr here ↦ (
    o,
    ap (slice_get origins) here.0 ∙ came,
    sym here.1 ∙ ap (λ (z : SourceFrame). Some z) (is ∙ ap (λ (n : ℕ). record { number = n + 1; came = o.at }) (sym here.0)),
  )
]

-- One frame more with unknown source.
pub unknown_more : (roots : List (Option SourceFrame)) → AreUnknown roots → AreUnknown (roots ++ None ∷ [])
unknown_more roots are k r there = elim (pushed roots None (Some r) k there) [
  | inl before ↦ are k r before
  | inr here ↦ absurd (let none = here.1 in cc)
]

-- One hop more.
pub begun_more : {A : Type 0} (hops : List (HopRun A)) (all : List (Vec (Option SourceFrame) A)) (h : HopRun A) (made : Vec (Option SourceFrame) A) → slice_get hops (length all) ≡ Some h
    → AreInitialSourcesOfHop (nat_eq (length all) 0) h.view.now.origins.items made.items → AreInitialSources hops all → AreInitialSources hops (all ++ made ∷ [])
begun_more {A} hops all h made is_h begun are i k known r there root = elim (pushed all made known i there) [
  | inl before ↦ are i k known r before root
  | inr here ↦
      let own : slice_get made.items k ≡ Some (Some r) = subst (λ (v : Vec (Option SourceFrame) A). slice_get v.items k ≡ Some (Some r)) (sym here.1) root in
      by_bool (nat_eq (length all) 0)
      (λ e.
      let first : AreFirstHopSources h.view.now.origins.items made.items = rw e at begun in
      let (o, came, is) = first.each k (Some r) own in
      record {
        hop = h;
        origin = o;
        place = here.0 ∙ eqb-true (length all) 0 e;
        there = ap (slice_get hops) here.0 ∙ is_h;
        came = came;
        root = same_Some r (record { number = k + 1; came = o.at }) is;
      })
      (λ e. let fresh : AreOpen h.view.now.origins.items made.items = rw e at begun in absurd (fresh.unknown k r own))
]

-- Each first-hop frame is known.
pub first_begun : {A : Type 0} (hops : List (HopRun A)) (all : List (Vec (Option SourceFrame) A)) (h : HopRun A) (made : Vec (Option SourceFrame) A) → slice_get hops (length all) ≡ Some h
    → AreInitialSourcesOfHop (nat_eq (length all) 0) h.view.now.origins.items made.items → AreFirstHopFramesKnown hops all → AreFirstHopFramesKnown hops (all ++ made ∷ [])
first_begun {A} hops all h made is_h begun are first known k o is_first is_known came = elim (pushed all made known 0 is_known) [
  | inl before ↦ are first known k o is_first before came
  | inr here ↦
      let e : nat_eq (length all) 0 ≡ true = subst (λ (n : ℕ). nat_eq n 0 ≡ true) here.0 refl in
      let whole : AreFirstHopSources h.view.now.origins.items made.items = rw e at begun in
      let own : first ≡ h = same_Some first h (sym is_first ∙ (ap (slice_get hops) here.0 ∙ is_h)) in
      let own_came : slice_get h.view.now.origins.items k ≡ Some o = subst (λ (g : HopRun A). slice_get g.view.now.origins.items k ≡ Some o) own came in
      let inside = slice_get_within h.view.now.origins.items k o own_came in
      let many = whole.many in
      let (x, is_x) = there_is made.items k (omega (arith, inside, many)) in
      let (p, there, is) = whole.each k x is_x in
      let same : p ≡ o = same_Some p o (sym there ∙ own_came) in
      subst (λ (v : Vec (Option SourceFrame) A). slice_get v.items k ≡ Some (Some (record { number = k + 1; came = o.at }))) here.1
      (is_x ∙ ap (λ (z : Option SourceFrame). Some z) (is ∙ ap (λ (w : Origin). Some (record { number = k + 1; came = w.at })) same))
]

-- Each frame has an entry.
pub each_begun : {A : Type 0} (hops : List (HopRun A)) (all : List (Vec (Option SourceFrame) A)) (h : HopRun A) (made : Vec (Option SourceFrame) A) → slice_get hops (length all) ≡ Some h
    → AreInitialSourcesOfHop (nat_eq (length all) 0) h.view.now.origins.items made.items → HaveEach hops all → HaveEach hops (all ++ made ∷ [])
each_begun {A} hops all h made is_h begun are i x known is_x is_known = elim (pushed all made known i is_known) [
  | inl before ↦ are i x known is_x before
  | inr here ↦
      let own : x ≡ h = same_Some x h (sym is_x ∙ (ap (slice_get hops) here.0 ∙ is_h)) in
      let long : length made.items ≡ length h.view.now.origins.items = by_bool (nat_eq (length all) 0)
      (λ e. let first : AreFirstHopSources h.view.now.origins.items made.items = rw e at begun in first.many)
      (λ e. let fresh : AreOpen h.view.now.origins.items made.items = rw e at begun in fresh.many) in
      ap (λ (v : Vec (Option SourceFrame) A). length v.items) (sym here.1) ∙ (long ∙ ap (λ (z : HopRun A). length z.view.now.origins.items) (sym own))
]

-- The initial sources are sound.
pub begun_sound : {A : Type 0} (links : List Link) (hops : List (HopRun A)) (all : List (Vec (Option SourceFrame) A)) → AreInitialSources hops all → AreFirstHopFramesKnown hops all → HaveEach hops all → AreSound links hops all
begun_sound links hops all are first each = record { from = λ i k known r there root. (0, are i k known r there root); first = first; each = each }

-- Tracing through equal lists gives equal results.
pub traced_as : (s : Sender) {sent1 : List Departure} (sent : List Departure) {roots1 : List (Option SourceFrame)} (roots : List (Option SourceFrame)) (q : ℕ) {origins1 : List Origin} (origins : List Origin) {old1 : List (Option SourceFrame)} (old made : List (Option SourceFrame))
    → sent1 ≡ sent → roots1 ≡ roots → origins1 ≡ origins → old1 ≡ old → AreTraced s sent1 roots1 q origins1 old1 made → AreTraced s sent roots q origins old made
traced_as s {sent1} sent {roots1} roots q {origins1} origins {old1} old made same_sent same_roots same_origins same_old traced =
    subst (λ l. AreTraced s sent roots q origins l made) same_old
    (subst (λ l. AreTraced s sent roots q l old1 made) same_origins
    (subst (λ l. AreTraced s sent l q origins1 old1 made) same_roots
    (subst (λ l. AreTraced s l roots1 q origins1 old1 made) same_sent traced)))

-- One frame more of a hop.
pub traced_more : (s : Sender) (sent : List Departure) (sent_roots : List (Option SourceFrame)) (q : ℕ) (origins : List Origin) (old new : List (Option SourceFrame)) (o : Origin) (x y : Option SourceFrame)
    → slice_get old (length new) ≡ Some x → slice_get origins (length new) ≡ Some o → y ≡ source_after_tracing s sent sent_roots q o x
    → IsTracedByFrame s sent sent_roots q origins old new → IsTracedByFrame s sent sent_roots q origins old (new ++ y ∷ [])
traced_more s sent sent_roots q origins old new o x y was came is are k o2 x2 y2 came2 was2 there = elim (pushed new y y2 k there) [
  | inl before ↦ are k o2 x2 y2 came2 was2 before
  | inr here ↦
      let same_o : o ≡ o2 = same_Some o o2 (sym came ∙ (ap (slice_get origins) (sym here.0) ∙ came2)) in
      let same_x : x ≡ x2 = same_Some x x2 (sym was ∙ (ap (slice_get old) (sym here.0) ∙ was2)) in
      subst (λ (p : Origin). y2 ≡ source_after_tracing s sent sent_roots q p x2) same_o (subst (λ (p : Option SourceFrame). y2 ≡ source_after_tracing s sent sent_roots q o p) same_x (sym here.1 ∙ is))
]

-- One frame more whose source stays unknown.
pub nothing_more : (old new : List (Option SourceFrame)) (n : ℕ) (x y : Option SourceFrame)
    → slice_get new n ≡ Some y → (slice_get old n ≡ Some None → y ≡ None)
    → ((k : ℕ) (z : Option SourceFrame) → k < n → slice_get old k ≡ Some None → slice_get new k ≡ Some z → z ≡ None)
    → (k : ℕ) (z : Option SourceFrame) → k < n + 1 → slice_get old k ≡ Some None → slice_get new k ≡ Some z → z ≡ None
nothing_more old new n x y at is before k z l was there = by_bool (nat_eq k n)
    (λ e.
    let here : k ≡ n = eqb-true k n e in
    let same : y ≡ z = same_Some y z (sym at ∙ (ap (slice_get new) (sym here) ∙ there)) in
    sym same ∙ is (ap (slice_get old) (sym here) ∙ was))
    (λ e. let apart = eqb-false k n e in before k z (omega (arith, l, apart)) was there)

-- Two hops, given by their indexes.
pub pair_exhausted : {A : Type 0} (hops : List (HopRun A)) (all : List (Vec (Option SourceFrame) A)) (s : Sender) (i q j : ℕ) (h g : HopRun A) (mine others : Vec (Option SourceFrame) A)
    → slice_get hops i ≡ Some h → slice_get hops j ≡ Some g → slice_get all i ≡ Some mine → slice_get all j ≡ Some others
    → IsExhausted s g.view.now.departures.items others.items q h.view.now.origins.items mine.items → IsPairExhausted hops all s i q j
pair_exhausted {A} hops all s i q j h g mine others is_h is_g is_mine is_others done h2 g2 mine2 others2 there beyond own known bridge =
    subst (λ (x : HopRun A). IsExhausted s x.view.now.departures.items others2.items q h2.view.now.origins.items mine2.items) (same_Some g g2 (sym is_g ∙ beyond))
    (subst (λ (x : Vec (Option SourceFrame) A). IsExhausted s g.view.now.departures.items x.items q h2.view.now.origins.items mine2.items) (same_Some others others2 (sym is_others ∙ known))
    (subst (λ (x : HopRun A). IsExhausted s g.view.now.departures.items others.items q x.view.now.origins.items mine2.items) (same_Some h h2 (sym is_h ∙ there))
    (subst (λ (x : Vec (Option SourceFrame) A). IsExhausted s g.view.now.departures.items others.items q h.view.now.origins.items x.items) (same_Some mine mine2 (sym is_mine ∙ own)) done)))

-- A property of all numbers below `n`, and of `n`.
pub one_more : (P : ℕ → Type 0) (n : ℕ) → ((q : ℕ) → q < n → P q) → P n → (q : ℕ) → q < n + 1 → P q
one_more P n before here q l = by_bool (nat_eq q n)
    (λ e. subst P (sym (eqb-true q n e)) here)
    (λ e. let apart = eqb-false q n e in before q (omega (arith, l, apart)))

-- An empty list has no known source.
pub none_known : AreUnknown []
none_known k r there = absurd (cc)
