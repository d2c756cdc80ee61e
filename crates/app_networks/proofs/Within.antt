-- The delay of a frame that passed no hop twice is at most the bound of its stream.
use Rattle.std.proofs.Common.{◌≡◌, ◌≢◌, ◌≤◌, ◌+◌, ◌-◌, ℕ, zero, suc, Bool, true, false, ◌&&◌, ◌||◌, List, [], ◌∷◌, map, Option, Some, None, nat_eq, refl, sym, ap, ◌∙◌, subst, inl, inr, arith}
use Rattle.std.specs.Prelude.{drop, flat_map, slice_get, sum_by, Vec}
use Rattle.std.specs.Map.{lookup}
use Rattle.std.proofs.lemmas.Bool.{and_parts, eq-eqb, and_from, or_left}
use Rattle.std.proofs.lemmas.Option.{same_Some}
use Rattle.std.proofs.Math.Nat.{le-max_left, le-max_right}
use Rattle.bridge_limits.specs.Members.{RelatesToEach, IsMember}
use Rattle.bridge_limits.proofs.Members.{in_either, in_at}
use Rattle.bridge_limits.proofs.Cases.{by_bool}
use Rattle.bridge_filter.specs.declared.FilterPlan.{FilterPlan}
use Rattle.bridge_filter.proofs.Members.{member_found}
use Rattle.bridge_config.specs.declared.ports.PortPlan.{PortPlan}
use Rattle.bridge_config.specs.Model.{Plan}
use Rattle.bridge_config.specs.Rules.{IsPlan, find_port}
use Rattle.bridge_config.proofs.PlanPorts.{number_is}
use Rattle.bridge_check.specs.Reach.{reaches_queue}
use Rattle.bridge_check.proofs.Isolated.{class_few}
use Rattle.bridge_semantics.specs.declared.outcome.Departure.{Departure}
use Rattle.bridge_semantics.specs.declared.outcome.Outcome.{Outcome}
use Rattle.bridge_bounds.proofs.Reached.{not_reached}
use Rattle.net_file.specs.Model.{Stream}
use Rattle.net_file.specs.Model as file
use Rattle.net_file.specs.declared.link_row.LinkRow.{LinkRow}
use Rattle.net_model.specs.Networks as networks
use Rattle.net_model.specs.Networks.{IsNetwork, Sender, sender}
use Rattle.net_model.specs.Faults.{first_fault}
use Rattle.net_model.specs.NetworkParts.{NetworkParts, link_value, network_value}
use Rattle.net_model.specs.declared.links.Link.{Link}
use Rattle.bridge_groups.specs.GateBounds.{IsLeastBound}
use Rattle.net_latency.specs.Bounds.{AreLeastBounds, queue_bound}
use Rattle.net_check.specs.Networks.{IsNetworkOfFile, link_row_value}
use Rattle.net_latency.specs.Streams.{AreQueueBoundsOfPlans, filter_bound, greater_bound, greater_delay, hop_bound, hop_delay, has_hop_at_bridge, is_joining_link, link_delay, bounds_if_any, stream_bound}
use Rattle.net_latency.specs.declared.bounds.QueueBound.{QueueBound}
use Rattle.net_latency.proofs.Lowered.{least_at}
use Rattle.net_run.specs.Rounds.{AreOutcomes, RunsNetwork, commands_of_bridge}
use Rattle.net_run.specs.declared.rounds.BridgeResult.{BridgeResult}
use Rattle.net_run.specs.declared.bridge_run.BridgeInput.{BridgeInput}
use Rattle.net_report.specs.declared.copy_counting.HopRun.{HopRun}
use Rattle.net_report.specs.declared.sources.SourceFrame.{SourceFrame}
use Rattle.net_report.specs.Hops.{is_onward}
use Rattle.net_report.specs.HopCounts.{delay_if_known, delay_of, departure_delays, if_delivered}
use Rattle.net_report.specs.SourceFrames.{HaveSources, source_frame}
use Rattle.net_report.proofs.Traced.{root_there}
use Rattle.app_networks.specs.InTime.{AreHopRuns, GoOnce, GoesOnce, HasSourceOverRoute, route_hops, route_time}
use Rattle.app_networks.proofs.Accepted.{IsOfPlan, hop_protected}
use Rattle.app_networks.proofs.Measured.{IsBoundedBy, in_time, over_legs}
use Rattle.app_networks.proofs.NetworkBounds.{leaves_by_octets}
use Rattle.app_networks.proofs.Sums.{reaches as folded, total, total_at, total_map, value, value_behind, value_map, within_total}

-- THE BOUNDS OF A HOP

rows_at : {A : Type 0} (ps : List (Plan A)) (vs : List (Vec QueueBound A)) (b : ℕ) (p : Plan A) → AreQueueBoundsOfPlans ps vs → slice_get ps b ≡ Some p → (v : Vec QueueBound A) × (slice_get vs b ≡ Some v) × AreLeastBounds p v.items
rows_at [] vs b p are e = absurd (cc)
rows_at (q ∷ ps) [] b p are e = absurd are
rows_at {A} (q ∷ ps) (v ∷ vs) zero p are e = (v, refl, subst (λ (z : Plan A). AreLeastBounds z v.items) (same_Some q p e) are.0)
rows_at (q ∷ ps) (v ∷ vs) (suc b) p are e = rows_at ps vs b p are.1 e

bound_rises : (m a : ℕ) (r : QueueBound) → a ≤ greater_bound m a r
bound_rises m a r = by_bool (nat_eq r.filter m) (λ k. rw k (le-max_left a r.bound)) (λ k. rw k (omega arith))

bound_reached : (m a : ℕ) (r : QueueBound) → nat_eq r.filter m ≡ true → r.bound ≤ greater_bound m a r
bound_reached m a r own = rw own (le-max_right a r.bound)

row_within : (m : ℕ) (r : QueueBound) (rows : List QueueBound) → nat_eq r.filter m ≡ true → IsMember r rows → r.bound ≤ filter_bound m rows
row_within m r rows own i = folded (greater_bound m) (bound_rises m) r.bound r (λ a. bound_reached m a r own) rows 0 i

port_there : {A : Type 0} (p : Plan A) (f : FilterPlan) (q c : ℕ) (o : Option (PortPlan A)) → find_port p.ports q ≡ o → reaches_queue p f q c ≡ true → (out : PortPlan A) × (find_port p.ports q ≡ Some out)
port_there p f q c None e reach = absurd (not_reached p f q c e reach)
port_there p f q c (Some out) e reach = (out, e)

-- Each queue of a hop has a least bound of at most the hop's bound.
within_bound : {A : Type 0} (n : NetworkParts A) (bounds : List (Vec QueueBound A)) (x : ℕ × ℕ) → IsNetwork (network_value n) → AreQueueBoundsOfPlans n.plans bounds → IsOfPlan n.plans x.0 x.1
    → IsBoundedBy (λ (p : Plan A) (m q c b : ℕ). IsLeastBound p m q c b) (network_value n) x (hop_bound bounds x)
within_bound {A} n bounds x network are of_plan =
    let p = of_plan.plan in
    let f = of_plan.filter in
    let plan : IsPlan p = network.plan x.0 p of_plan.there in
    let (v, there, is) = rows_at n.plans bounds x.0 p are of_plan.there in
    let found : lookup (nat_eq x.1) p.filters ≡ Some f = member_found p.filters x.1 f plan.filters.own of_plan.listed in
    record {
      plan = p;
      filter = f;
      there = of_plan.there;
      listed = of_plan.listed;
      protected = of_plan.protected;
      bounds = λ q c reach.
          let (out, at) = port_there p f q c (find_port p.ports q) refl reach in
          let (from, to) = number_is p.ports q out plan.ports at in
          let (b, listed, least) = least_at p v.items x.1 q c f is found of_plan.protected from to (class_few p f q c out plan at reach) reach in
          let upto : b ≤ filter_bound x.1 v.items = row_within x.1 (queue_bound x.1 q c b) v.items (eq-eqb x.1 x.1 refl) listed in
          (b, least, subst (λ (o : Option (Vec QueueBound A)). b ≤ filter_bound x.1 (bounds_if_any o)) (sym there) upto);
    }

-- THE DELAY OF A LINK

right_true : (a b : Bool) → b ≡ true → (a || b) ≡ true
right_true true b e = refl
right_true false b e = e

at_hop : (hops : List (ℕ × ℕ)) (y : ℕ × ℕ) → IsMember y hops → has_hop_at_bridge hops y.0 ≡ true
at_hop [] y i = absurd i
at_hop (h ∷ hops) y (inl same) = or_left (nat_eq h.0 y.0) (has_hop_at_bridge hops y.0) (eq-eqb h.0 y.0 (ap (λ (z : ℕ × ℕ). z.0) (sym same)))
at_hop (h ∷ hops) y (inr i) = right_true (nat_eq h.0 y.0) (has_hop_at_bridge hops y.0) (at_hop hops y i)

-- The link of a port whose other end is at a bridge with a hop.
record IsLinkOf (rows : List LinkRow) (hops : List (ℕ × ℕ)) (b delay : ℕ) : Type 0 where
  row : LinkRow
  listed : IsMember row rows
  joined : is_joining_link hops b row ≡ true
  delay_is : row.delay ≡ delay

linked_in : (rows : List LinkRow) (hops : List (ℕ × ℕ)) (b q : ℕ) (s : Sender) → sender (map link_value (map link_row_value rows)) b q ≡ Some s → has_hop_at_bridge hops s.from.bridge ≡ true → IsLinkOf rows hops b s.delay
linked_in [] hops b q s h at = absurd (cc)
linked_in (l ∷ ls) hops b q s h at =
    let one : networks.End = record { bridge = l.one.0; port = l.one.1 } in
    let other : networks.End = record { bridge = l.other.0; port = l.other.1 } in
    by_bool (networks.is_bridge_port one b q)
    (λ k.
    let same : ◌≡◌ {A = Option Sender} (Some (record { from = other; delay = l.delay })) (Some s) = rw k at h in
    let is : ◌≡◌ {A = Sender} (record { from = other; delay = l.delay }) s = same_Some (record { from = other; delay = l.delay }) s same in
    let far : has_hop_at_bridge hops l.other.0 ≡ true = subst (λ (z : Sender). has_hop_at_bridge hops z.from.bridge ≡ true) (sym is) at in
    let near = (and_parts (nat_eq l.one.0 b) (nat_eq l.one.1 q) k).0 in
    record {
      row = l;
      listed = inl refl;
      joined = or_left (nat_eq l.one.0 b && has_hop_at_bridge hops l.other.0) (nat_eq l.other.0 b && has_hop_at_bridge hops l.one.0) (and_from (nat_eq l.one.0 b) (has_hop_at_bridge hops l.other.0) near far);
      delay_is = ap (λ (z : Sender). z.delay) is;
    })
    (λ k. by_bool (networks.is_bridge_port other b q)
    (λ j.
    let same : ◌≡◌ {A = Option Sender} (Some (record { from = one; delay = l.delay })) (Some s) = rw (k, j) at h in
    let is : ◌≡◌ {A = Sender} (record { from = one; delay = l.delay }) s = same_Some (record { from = one; delay = l.delay }) s same in
    let far : has_hop_at_bridge hops l.one.0 ≡ true = subst (λ (z : Sender). has_hop_at_bridge hops z.from.bridge ≡ true) (sym is) at in
    let near = (and_parts (nat_eq l.other.0 b) (nat_eq l.other.1 q) j).0 in
    record {
      row = l;
      listed = inl refl;
      joined = right_true (nat_eq l.one.0 b && has_hop_at_bridge hops l.other.0) (nat_eq l.other.0 b && has_hop_at_bridge hops l.one.0) (and_from (nat_eq l.other.0 b) (has_hop_at_bridge hops l.one.0) near far);
      delay_is = ap (λ (z : Sender). z.delay) is;
    })
    (λ j.
    let more : sender (map link_value (map link_row_value ls)) b q ≡ Some s = rw (k, j) at h in
    let r = linked_in ls hops b q s more at in
    record { row = r.row; listed = inr r.listed; joined = r.joined; delay_is = r.delay_is }))

delay_rises : (hops : List (ℕ × ℕ)) (b a : ℕ) (l : LinkRow) → a ≤ greater_delay hops b a l
delay_rises hops b a l = by_bool (is_joining_link hops b l) (λ k. rw k (le-max_left a l.delay)) (λ k. rw k (omega arith))

delay_reached : (hops : List (ℕ × ℕ)) (b a : ℕ) (l : LinkRow) → is_joining_link hops b l ≡ true → l.delay ≤ greater_delay hops b a l
delay_reached hops b a l joined = rw joined (le-max_right a l.delay)

link_within : (rows : List LinkRow) (hops : List (ℕ × ℕ)) (b q : ℕ) (s : Sender) → sender (map link_value (map link_row_value rows)) b q ≡ Some s → has_hop_at_bridge hops s.from.bridge ≡ true → s.delay ≤ link_delay rows hops b
link_within rows hops b q s linked at =
    let r = linked_in rows hops b q s linked at in
    let most = folded (greater_delay hops b) (delay_rises hops b) r.row.delay r.row (λ a. delay_reached hops b a r.row r.joined) rows 0 r.listed in
    subst (λ (d : ℕ). d ≤ link_delay rows hops b) r.delay_is most

-- ALL HOPS

in_flat : {X Y : Type 0} (g : X → List Y) (y : Y) (xs : List X) → IsMember y (flat_map g xs) → (x : X) × IsMember x xs × IsMember y (g x)
in_flat g y [] i = absurd i
in_flat g y (x ∷ xs) i = elim (in_either y (g x) (flat_map g xs) i) [ inl here ↦ (x, inl refl, here) | inr later ↦ let (z, listed, of) = in_flat g y xs later in (z, inr listed, of) ]

delivered_in : (on : Bool) (delay : ℕ) (ds : List ℕ) → IsMember delay (if_delivered on ds) → IsMember delay ds
delivered_in true delay ds i = absurd i
delivered_in false delay ds i = i

differs : (i j : ℕ) (js : List ℕ) → RelatesToEach (λ a b. a ≢ b) i js → IsMember j js → i ≢ j
differs i j [] apart k = absurd k
differs i j (x ∷ js) apart (inl same) = subst (λ (z : ℕ). i ≢ z) (sym same) apart.0
differs i j (x ∷ js) apart (inr k) = differs i j js apart.1 k

module _ {A : Type 0} (f : file.Network) (plans : List (Plan A)) (n : NetworkParts A) (made : IsNetworkOfFile f plans n) (bounds : List (Vec QueueBound A))
    (s : Stream) (o : ℕ → Outcome A) (hops : List (HopRun A)) (told : AreHopRuns o s.hops hops) where
  -- The bound of the hop at an index.
  abbrev most_at : ℕ → ℕ
  most_at i = value (map (hop_bound bounds) s.hops) i

  -- The delay of the links to a hop; 0 for the first hop.
  abbrev late_at : ℕ → ℕ
  late_at i = value (0 ∷ map (hop_delay f.links s.hops) (drop 1 s.hops)) i

  -- Each frame comes from the first hop.
  from_first : (r : SourceFrame) (legs : List (ℕ × ℕ)) (i k : ℕ) → HasSourceOverRoute n.links hops r legs i k → IsMember 0 (route_hops i legs)
  from_first r [] i k first = inl (sym first.place)
  from_first r (leg ∷ legs) i k over =
      let b = over.behind in
      let known : HasSourceOverRoute n.links hops r legs leg.0 (b.copy.own - 1) = subst (λ (place : ℕ). HasSourceOverRoute n.links hops r legs place (b.copy.own - 1)) over.place b.known in
      inr (from_first r legs leg.0 (b.copy.own - 1) known)

  -- A link's delay is at most the longest delay of the links to its hop.
  leg_within : (r : SourceFrame) (leg : ℕ × ℕ) (legs : List (ℕ × ℕ)) (i k : ℕ) → HasSourceOverRoute n.links hops r (leg ∷ legs) i k → i ≢ 0 → leg.1 ≤ late_at i
  leg_within r leg legs i k over behind_first =
      let b = over.behind in
      let (x, at, is) = told i b.hop b.there in
      let (y, there, sent) = told b.place b.other b.other_there in
      let linked : sender (map link_value (map link_row_value f.links)) x.0 b.origin.port ≡ Some b.over.from =
      subst (λ (z : ℕ). sender (map link_value (map link_row_value f.links)) z b.origin.port ≡ Some b.over.from) is.bridge
      (subst (λ (ls : List Link). sender (map link_value ls) b.hop.bridge b.origin.port ≡ Some b.over.from) made.links b.over.linked) in
      let bridge : y.0 ≡ b.over.from.from.bridge = sym sent.bridge ∙ b.over.bridge in
      let end : has_hop_at_bridge s.hops b.over.from.from.bridge ≡ true = subst (λ (z : ℕ). has_hop_at_bridge s.hops z ≡ true) bridge (at_hop s.hops y (in_at s.hops b.place y there)) in
      let upto : b.over.from.delay ≤ hop_delay f.links s.hops x = link_within f.links s.hops x.0 b.origin.port b.over.from linked end in
      let same = value_behind (hop_delay f.links s.hops) s.hops i x at behind_first in
      let delay = over.delay in
      omega (arith, upto, same, delay)

  sums_within : (r : SourceFrame) (legs : List (ℕ × ℕ)) (i k : ℕ) → HasSourceOverRoute n.links hops r legs i k → GoesOnce i legs
      → route_time most_at i legs ≤ total_at most_at (route_hops i legs) + total_at late_at (route_hops i legs)
  sums_within r [] i k first once = omega arith
  sums_within r (leg ∷ legs) i k over once =
      let b = over.behind in
      let known : HasSourceOverRoute n.links hops r legs leg.0 (b.copy.own - 1) = subst (λ (place : ℕ). HasSourceOverRoute n.links hops r legs place (b.copy.own - 1)) over.place b.known in
      let before = sums_within r legs leg.0 (b.copy.own - 1) known once.1 in
      let link = leg_within r leg legs i k over (differs i 0 (route_hops leg.0 legs) once.0 (from_first r legs leg.0 (b.copy.own - 1) known)) in
      omega (arith, before, link)

  -- The whole delay is at most the bound of the stream.
  took_within : (r : SourceFrame) (legs : List (ℕ × ℕ)) (i k : ℕ) → HasSourceOverRoute n.links hops r legs i k → GoesOnce i legs → route_time most_at i legs ≤ stream_bound bounds f.links s.hops
  took_within r legs i k over once =
      let sums = sums_within r legs i k over once in
      let one : total_at most_at (route_hops i legs) ≤ total (map (hop_bound bounds) s.hops) = within_total (route_hops i legs) (map (hop_bound bounds) s.hops) once in
      let two : total_at late_at (route_hops i legs) ≤ 0 + total (map (hop_delay f.links s.hops) (drop 1 s.hops)) = within_total (route_hops i legs) (0 ∷ map (hop_delay f.links s.hops) (drop 1 s.hops)) once in
      let bound : total (map (hop_bound bounds) s.hops) ≡ sum_by (hop_bound bounds) s.hops = total_map (hop_bound bounds) s.hops in
      let late : total (map (hop_delay f.links s.hops) (drop 1 s.hops)) ≡ sum_by (hop_delay f.links s.hops) (drop 1 s.hops) = total_map (hop_delay f.links s.hops) (drop 1 s.hops) in
      omega (arith, sums, one, two, bound, late)

  module _ (network : IsNetwork (network_value n)) (none : first_fault n ≡ None) (came : List (BridgeInput A)) (settled : List (BridgeResult A))
      (ran : RunsNetwork n came settled) (outcomes : AreOutcomes settled o) (are : AreQueueBoundsOfPlans n.plans bounds) (listed_stream : IsMember s f.streams) where
    all_within : (i : ℕ) (x : ℕ × ℕ) → slice_get s.hops i ≡ Some x → IsBoundedBy (λ (p : Plan A) (m q c b : ℕ). IsLeastBound p m q c b) (network_value n) x (most_at i)
    all_within i x there = subst (IsBoundedBy (λ (p : Plan A) (m q c b : ℕ). IsLeastBound p m q c b) (network_value n) x) (sym (value_map (hop_bound bounds) s.hops i x there)) (within_bound n bounds x network are (hop_protected f plans n s i x made none listed_stream there))

    pub copy_within : (r : SourceFrame) (legs : List (ℕ × ℕ)) (i : ℕ) (h : HopRun A) (d : Departure) → slice_get hops i ≡ Some h → IsMember d h.view.now.departures.items → HasSourceOverRoute n.links hops r legs i (d.own - 1)
        → GoesOnce i legs → d.done ≤ r.came + stream_bound bounds f.links s.hops
    copy_within r legs i h d there listed over once =
        let done = in_time (network_value n) (commands_of_bridge came) ran.frames o network (ran.run o outcomes) (λ (p : Plan A) (m q c b : ℕ). IsLeastBound p m q c b) (leaves_by_octets n came settled o network ran outcomes)
        s.hops n.links hops most_at told all_within r legs i h d there listed over in
        let most = took_within r legs i (d.own - 1) over once in
        omega (arith, done, most)

    delay_within : (known : List (Option SourceFrame)) (i : ℕ) (h : HopRun A) (d : Departure) (delay : ℕ) (root : Option SourceFrame) → source_frame known d.own ≡ root
        → ((k : ℕ) (r : SourceFrame) → slice_get known k ≡ Some (Some r) → (legs : List (ℕ × ℕ)) × HasSourceOverRoute n.links hops r legs i k × GoesOnce i legs)
        → slice_get hops i ≡ Some h → IsMember d h.view.now.departures.items → IsMember delay (delay_if_known d root) → delay ≤ stream_bound bounds f.links s.hops
    delay_within known i h d delay None e once there listed is = absurd is
    delay_within known i h d delay (Some r) e once there listed (inr is) = absurd is
    delay_within known i h d delay (Some r) e once there listed (inl is) =
        let (legs, over, apart) = once (d.own - 1) r (root_there known d.own r e).1 in
        let done = copy_within r legs i h d there listed over apart in
        omega (arith, done, is)

    pub delays_within : (all : List (Vec (Option SourceFrame) A)) (i : ℕ) (h : HopRun A) (known : Vec (Option SourceFrame) A) (ways : List Bool) (delay : ℕ) → HaveSources n.links hops all → slice_get hops i ≡ Some h → slice_get all i ≡ Some known
        → GoOnce n.links hops i known.items → IsMember delay (departure_delays ways known.items h.view.now.departures.items) → delay ≤ stream_bound bounds f.links s.hops
    delays_within all i h known ways delay traced there is once listed =
        let (d, left, of) = in_flat (delay_of ways known.items) delay h.view.now.departures.items listed in
        delay_within known.items i h d delay (source_frame known.items d.own) refl
        (λ k r root.
        let (m, from) = traced i k known r is root in
        let (legs, many, over) = over_legs n.links hops r m i k from in
        (legs, over, once k r legs root over))
        there left (delivered_in (is_onward ways d.port) delay (delay_if_known d (source_frame known.items d.own)) of)
