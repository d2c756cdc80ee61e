-- In an accepted network, the hops of a stream whose hops are a tree feed each other: only copies of the previous hop's queue arrive at a later hop.
use Rattle.std.proofs.Common.{◌≡◌, ◌≤◌, ◌+◌, ℕ, Bool, true, false, ◌&&◌, List, [], ◌∷◌, map, Option, Some, None, nat_eq, nat_le, refl, sym, ap, ◌∙◌, subst, inl, inr, length, arith}
use Rattle.std.specs.Prelude.{◌⊎◌, filter, option_map, slice_get}
use Rattle.std.specs.Map.{lookup}
use Rattle.std.proofs.lemmas.Bool.{and_from, and_parts, eq-eqb, eqb-true, false≢true}
use Rattle.std.proofs.lemmas.Bool.Decides.{nat_tests}
use Rattle.std.proofs.lemmas.Option.{same_Some}
use Rattle.bridge_limits.specs.Members.{IsMember}
use Rattle.bridge_limits.proofs.Cases.{by_bool}
use Rattle.bridge_limits.proofs.Members as members
use Rattle.bridge_limits.proofs.Orders.{same_eq}
use Rattle.bridge_capture.specs.Grammar.{CapturedFrame}
use Rattle.bridge_frame.specs.Link.{transmission_time}
use Rattle.bridge_filter.specs.declared.FilterPlan.{FilterPlan}
use Rattle.bridge_filter.specs.OwnEvents.{is_filter_number}
use Rattle.bridge_filter.proofs.Members.{member_found}
use Rattle.bridge_ident.specs.declared.StreamEntry.{StreamEntry}
use Rattle.bridge_ident.specs.Identification.{accepts_tag}
use Rattle.bridge_port.specs.Schedule.{Copy, Started}
use Rattle.bridge_config.specs.declared.ports.PortPlan.{PortPlan}
use Rattle.bridge_config.specs.Model.{Plan}
use Rattle.bridge_config.specs.Rules.{find_port}
use Rattle.bridge_config.proofs.PlanPorts.{at_own, at_port, number_is}
use Rattle.bridge_check.specs.FrameInput.{frame_vid, frame_priority}
use Rattle.bridge_check.specs.Reach.{reaches_queue}
use Rattle.bridge_check.proofs.Isolated.{class_few}
use Rattle.bridge_bounds.proofs.Reached.{found_in}
use Rattle.bridge_semantics.specs.declared.outcome.Outcome.{Outcome}
use Rattle.bridge_semantics.specs.Events.{Arrival, Event, arrival, arrival_filter, frame_destination, is_own_event}
use Rattle.bridge_semantics.specs.Merge.{Input, capture_input, capture_inputs, input_events}
use Rattle.bridge_semantics.specs.Offers.{CarriedFrame, port_offers}
use Rattle.bridge_semantics.specs.Outputs.{IsDeparture, departed_frame}
use Rattle.bridge_semantics.proofs.Headline.{as_offer, flow_reaches, in_offered}
use Rattle.bridge_semantics.proofs.Safe.{IsSafe}
use Rattle.net_model.specs.declared.links.Link.{Link}
use Rattle.net_model.specs.declared.links.StreamHop.{StreamHop}
use Rattle.net_model.specs.ClosedTest.{is_protected}
use Rattle.net_model.specs.Faults.{has_entry, is_entry_port, protected_handle}
use Rattle.net_model.specs.LinkFrames.{matching_filter}
use Rattle.net_model.specs.NetworkParts.{NetworkParts, hop_value, link_value, network_value, stream_value}
use Rattle.net_model.specs.Networks.{IsClosed, IsHop, IsNetwork, IsNetworkRun, IsOfStream, Sender, delayed_frame, external_inputs, hop, inputs_over_link, port_inputs, sender}
use Rattle.net_model.proofs.Feeding.{IsTaken, taken_way}
use Rattle.net_model.proofs.Handles.{names_handle, protected_names}
use Rattle.net_model.proofs.Marking.{plain}
use Rattle.net_model.proofs.Members.{in_inputs, in_map, in_own, map_in, rank_in}
use Rattle.net_latency.specs.declared.next_hop.NextHop.{NextHop}
use Rattle.net_latency.specs.declared.tree.HopQueue.{HopQueue}
use Rattle.net_latency.specs.Delivered.{AreCommands, HasReachableQueues, IsAcceptedNetwork, IsStreamOfNetwork}
use Rattle.net_latency.specs.Entering.{come_in_once, comes_in_at, comes_in_once, may_come_in}
use Rattle.net_latency.specs.NextHop.{hop_at_bridge, next_hop, next_hop_over_link}
use Rattle.net_latency.specs.Phased.{AreFedInTurn, IsCommand, IsFedByHop, IsForwardedCopy, IsRouteOfStream, queue_of_route_hop, stream_hop}
use Rattle.net_latency.specs.Trees.{count_feeders, have_distinct_bridges, have_single_feeders, is_feeder, is_tree}
use Rattle.net_latency.specs.Ways.{IsRoute, IsRouteHop, RouteHop}
use Rattle.net_latency.proofs.Linked.{are_single, both_ways}
use Rattle.net_latency.proofs.Phased.{first_leg}
use Rattle.net_latency.proofs.Within.{in_filter}

-- LISTS

some_long : {X : Type 0} (x : X) (xs : List X) → IsMember x xs → 1 ≤ length xs
some_long x [] i = absurd i
some_long x (y ∷ ys) i = omega arith

one_member : {X : Type 0} (x y : X) (xs : List X) → length xs ≤ 1 → IsMember x xs → IsMember y xs → x ≡ y
one_member x y [] few i j = absurd i
one_member x y (z ∷ zs) few (inl a) (inl b) = a ∙ sym b
one_member x y (z ∷ zs) few (inl a) (inr j) = let some = some_long y zs j in absurd (omega (arith, few, some))
one_member x y (z ∷ zs) few (inr i) j = let some = some_long x zs i in absurd (omega (arith, few, some))

-- THE TREE

pub hop_there : (hops : List StreamHop) (b : ℕ) (h : StreamHop) → hop_at_bridge hops b ≡ Some h → IsMember h hops × (h.bridge ≡ b)
hop_there [] b h e = absurd (cc)
hop_there (g ∷ gs) b h e = by_bool (nat_eq g.bridge b)
    (λ k.
    let same : Some g ≡ Some h = rw k at e in
    let is : g ≡ h = same_Some g h same in
    (inl (sym is), subst (λ (z : StreamHop). z.bridge ≡ b) is (eqb-true g.bridge b k)))
    (λ k. let more : hop_at_bridge gs b ≡ Some h = rw k at e in let (i, at) = hop_there gs b h more in (inr i, at))

-- A port leads to a hop over its link.
record LeadsToHop (links : List Link) (hops : List StreamHop) (b q : ℕ) (h : StreamHop) : Type 0 where
  far : Sender
  linked : sender (map link_value links) b q ≡ Some far
  listed : IsMember h hops
  bridge : h.bridge ≡ far.from.bridge

leads_by : (links : List Link) (hops : List StreamHop) (b q delay : ℕ) (h : StreamHop) (o : Option Sender) → sender (map link_value links) b q ≡ o → next_hop_over_link hops o ≡ Some (record { hop = h; delay = delay }) → LeadsToHop links hops b q h
leads_by links hops b q delay h None e is = absurd (cc)
leads_by links hops b q delay h (Some s) e is = leads_at (hop_at_bridge hops s.from.bridge) refl is
  where
    leads_at : (o : Option StreamHop) → hop_at_bridge hops s.from.bridge ≡ o → option_map {U = NextHop} (λ (g : StreamHop). record { hop = g; delay = s.delay }) o ≡ Some (record { hop = h; delay = delay }) → LeadsToHop links hops b q h
    leads_at None found told = absurd (cc)
    leads_at (Some g) found told =
        let same : g ≡ h = ap (λ (z : NextHop). z.hop) (same_Some _ _ told) in
        let (i, at) = hop_there hops s.from.bridge g found in
        record { far = s; linked = e; listed = subst (λ (z : StreamHop). IsMember z hops) same i; bridge = subst (λ (z : StreamHop). z.bridge ≡ s.from.bridge) same at }

-- The tests of a tree.
pub record IsTree (links : List Link) (hops : List StreamHop) (queues : List HopQueue) (first : StreamHop) : Type 0 where
  pub single : (h : StreamHop) → IsMember h hops → count_feeders links queues h.bridge ≤ 1
  pub root : count_feeders links queues first.bridge ≡ 0

pub tree_parts : (links : List Link) (hops : List StreamHop) (queues : List HopQueue) (first : StreamHop) → is_tree links hops queues first ≡ true → IsTree links hops queues first
tree_parts links hops queues first is =
    let (both, root) = and_parts (have_distinct_bridges hops && have_single_feeders links hops queues) (nat_eq (count_feeders links queues first.bridge) 0) is in
    let (distinct, single) = and_parts (have_distinct_bridges hops) (have_single_feeders links hops queues) both in
    record {
      single = λ h i. (let few : nat_le (count_feeders links queues h.bridge) 1 ≡ true = members.each_passes (λ (g : StreamHop). nat_le (count_feeders links queues g.bridge) 1) hops h single i in let most : count_feeders links queues h.bridge ≤ 1 = grind (arith, nat_tests) in most);
      root = eqb-true (count_feeders links queues first.bridge) 0 root;
    }

-- Two queues that lead to the bridge of a hop are the same queue.
one_feeder : (links : List Link) (queues : List HopQueue) (b : ℕ) (x y : HopQueue) → count_feeders links queues b ≤ 1 → IsMember x queues → IsMember y queues → is_feeder links b x ≡ true → is_feeder links b y ≡ true → x ≡ y
one_feeder links queues b x y few i j a c =
    one_member x y (filter (is_feeder links b) queues) few (in_filter (is_feeder links b) x queues i a) (in_filter (is_feeder links b) y queues j c)

pub no_root : (links : List Link) (queues : List HopQueue) (b : ℕ) (x : HopQueue) → count_feeders links queues b ≡ 0 → IsMember x queues → is_feeder links b x ≡ true → ⊥
no_root links queues b x none i a = let some = some_long x (filter (is_feeder links b) queues) (in_filter (is_feeder links b) x queues i a) in omega (arith, none, some)

-- ENTRY

later_once : {A : Type 0} (plans : List (Plan A)) (links : List Link) (hs : List StreamHop) (h : StreamHop) → IsMember h hs → come_in_once plans links false hs ≡ true → comes_in_once links false h (slice_get plans h.bridge) ≡ true
later_once plans links [] h i all = absurd i
later_once plans links (g ∷ gs) h i all =
    let (here, more) = and_parts (comes_in_once links false g (slice_get plans g.bridge)) (come_in_once plans links false gs) all in
    elim i [
      | inl same ↦ subst (λ (z : StreamHop). comes_in_once links false z (slice_get plans z.bridge) ≡ true) (sym same) here
      | inr j ↦ later_once plans links gs h j more
    ]

-- A hop that isn't the first has no unlinked port at which other frames get its handle.
not_first : {A : Type 0} (plans : List (Plan A)) (links : List Link) (hops : List StreamHop) (first h : StreamHop) → slice_get hops 0 ≡ Some first → ¬ (h ≡ first) → IsMember h hops → come_in_once plans links true hops ≡ true → comes_in_once links false h (slice_get plans h.bridge) ≡ true
not_first plans links [] first h begins other i all = absurd i
not_first plans links (g ∷ gs) first h begins other (inl same) all = absurd (other (same ∙ same_Some g first begins))
not_first plans links (g ∷ gs) first h begins other (inr i) all = later_once plans links gs h i (and_parts (comes_in_once links true g (slice_get plans g.bridge)) (come_in_once plans links false gs) all).1

pub none_comes : {A : Type 0} (links : List Link) (is_first : Bool) (h : StreamHop) (p : Plan A) (ports : List (PortPlan A)) (on : PortPlan A) → comes_in_at links is_first h p ports ≡ true → IsMember on ports → may_come_in links is_first h p on ≡ false
none_comes links is_first h p [] on all i = absurd i
none_comes {A} links is_first h p (x ∷ xs) on all i = by_bool (may_come_in links is_first h p x)
    (λ k. let z : false ≡ true = rw k at all in absurd (false≢true z))
    (λ k.
    let more : comes_in_at links is_first h p xs ≡ true = rw k at all in
    elim i [ inl same ↦ subst (λ (z : PortPlan A). may_come_in links is_first h p z ≡ false) (sym same) k | inr j ↦ none_comes links is_first h p xs on more j ])

-- A frame of a protected filter from outside arrives at an open port that has an entry with the filter's handle.
pub enters_at : {A : Type 0} (links : List Link) (p : Plan A) (b m q : ℕ) (f : FilterPlan) (c : CapturedFrame) (o : Option (PortPlan A)) → IsSafe p m f → sender (map link_value links) b q ≡ None → find_port p.ports q ≡ o → (h : ℕ) → protected_handle p.filters m ≡ Some h
    → is_filter_number m (arrival_filter p (arrival c.time q c.octets c.len)) ≡ true → (on : PortPlan A) × (find_port p.ports q ≡ Some on) × (is_entry_port links b p h on ≡ true)
enters_at links p b m q f c None safe unlinked at h named own = let z : false ≡ true = rw at at own in absurd (false≢true z)
enters_at {A} links p b m q f c (Some on) safe unlinked at h named own =
    let a : Arrival = arrival c.time q c.octets c.len in
    let t : IsTaken p on m a = taken_way p on m f a safe at (frame_destination p a) refl own in
    let e : StreamEntry = t.entry in
    let tag = plain t.parsed.tag in
    let (before, number) = and_parts (nat_eq e.port on.number && nat_eq e.vid (frame_vid on tag) && accepts_tag e.tag tag) (is_filter_number m (matching_filter p (Some e.handle) (frame_priority on tag))) t.gives in
    let (two, tagged) = and_parts (nat_eq e.port on.number && nat_eq e.vid (frame_vid on tag)) (accepts_tag e.tag tag) before in
    let (port, vlan) = and_parts (nat_eq e.port on.number) (nat_eq e.vid (frame_vid on tag)) two in
    let handle : e.handle ≡ h = names_handle p m h safe.plan named e.handle (frame_priority on tag) number in
    let both : (nat_eq e.port on.number && nat_eq e.handle h) ≡ true = and_from (nat_eq e.port on.number) (nat_eq e.handle h) port (rw handle (same_eq h)) in
    let entry : has_entry p on.number h ≡ true = members.passes_any (λ (x : StreamEntry). nat_eq x.port on.number && nat_eq x.handle h) p.streams e t.listed both in
    let here : sender (map link_value links) b on.number ≡ None = subst (λ (k : ℕ). sender (map link_value links) b k ≡ None) (sym (at_port p.ports q on at).number) unlinked in
    (on, at, rw (here, entry) refl)

-- A frame from outside can't belong to the filter of a hop that has no port of entry.
none_from_outside : {A : Type 0} (links : List Link) (p : Plan A) (b m q : ℕ) (f : FilterPlan) (c : CapturedFrame) → IsSafe p m f → sender (map link_value links) b q ≡ None
    → comes_in_at links false (record { bridge = b; filter = m }) p p.ports ≡ true → (h : ℕ) → protected_handle p.filters m ≡ Some h → is_filter_number m (arrival_filter p (arrival c.time q c.octets c.len)) ≡ true → ⊥
none_from_outside links p b m q f c safe unlinked none h named own =
    let (on, at, enters) = enters_at links p b m q f c (find_port p.ports q) safe unlinked refl h named own in
    let may : may_come_in links false (record { bridge = b; filter = m }) p on ≡ true = rw named enters in
    false≢true (sym (none_comes links false (record { bridge = b; filter = m }) p p.ports on none (at_port p.ports q on at).listed) ∙ may)

-- THE RUN

module _ {A : Type 0} (n : NetworkParts A) (hops : List StreamHop) (queues : List HopQueue) (first : StreamHop) (commands : ℕ → List Input) (captures : ℕ → ℕ → List CapturedFrame) (o : ℕ → Outcome A)
    (accepted : IsAcceptedNetwork n) (known : IsStreamOfNetwork n hops) (all : HasReachableQueues n.plans hops queues) (commanded : AreCommands commands)
    (begins : slice_get hops 0 ≡ Some first) (once : come_in_once n.plans n.links true hops ≡ true) (tree : is_tree n.links hops queues first ≡ true)
    (run : IsNetworkRun (network_value n) commands captures o) where
  net : IsNetwork (network_value n)
  net = accepted.checked.network

  stream_closed : IsClosed (network_value n) (stream_value hops)
  stream_closed = let (s, i, same) = known in subst (λ (hs : List StreamHop). IsClosed (network_value n) (stream_value hs)) same (accepted.checked.closed.each s i)

  safe_hop : (b m : ℕ) (p : Plan A) (f : FilterPlan) → IsHop (network_value n) (stream_value hops) (hop b p m f) → IsSafe p m f
  safe_hop b m p f is = record { plan = net.plan b p is.plan; listed = is.filter; passes = net.acceptable b p is.plan m f is.filter is.protected }

  listed_hop : (b m : ℕ) → IsMember (b, m) (stream_value hops) → IsMember (record { bridge = b; filter = m }) hops
  listed_hop b m i =
      let (h, j, same) = in_map hop_value (b, m) hops i in
      let is : record { bridge = b; filter = m } ≡ h = ap (λ (z : ℕ × ℕ). record { bridge = z.0; filter = z.1 }) same in
      subst (λ (z : StreamHop). IsMember z hops) (sym is) j

  -- An input of a filter is a copy that the far end of its port's link sent from a queue of the stream.
  pub record IsFromQueue (q : ℕ) (s : Sender) (x : Input) : Type 0 where
    pub plan : Plan A
    pub number : ℕ
    pub filter : FilterPlan
    pub is : IsHop (network_value n) (stream_value hops) (hop s.from.bridge plan number filter)
    pub out : PortPlan A
    pub at : find_port plan.ports s.from.port ≡ Some out
    pub copy : Copy CarriedFrame
    pub start : ℕ
    pub listed : IsMember copy (run.lists s.from.bridge s.from.port)
    pub flow : copy.item.flow ≡ Some number
    pub started : copy.fate ≡ Started start
    pub input : x ≡ capture_input q (delayed_frame s.delay (departed_frame out.speed start copy.item))

  pub at_rank : (b : ℕ) (p : Plan A) (x : Input) (m : Option Sender) → slice_get n.plans b ≡ Some p → IsMember x (run.inputs b) → sender (map link_value n.links) b x.rank ≡ m → IsMember x (inputs_over_link m (external_inputs commands captures b x.rank) run.left x.rank)
  at_rank b p x m at i linked =
      let here : IsMember x (port_inputs (map link_value n.links) commands captures run.left b x.rank) = subst (IsMember x) ((run.merged b p at).each x.rank) (rank_in x.rank x (run.inputs b) i refl) in
      subst (λ (z : Option Sender). IsMember x (inputs_over_link z (external_inputs commands captures b x.rank) run.left x.rank)) linked here

  pub sent_over : (b m : ℕ) (p : Plan A) (f : FilterPlan) (s : Sender) (x : Input) → IsHop (network_value n) (stream_value hops) (hop b p m f) → sender (map link_value n.links) b x.rank ≡ Some s → IsMember x (run.inputs b) → is_own_event p m f x.event ≡ true → IsFromQueue x.rank s x
  sent_over b m p f s x is linked i mine =
      let c = s.from.bridge in
      let r = s.from.port in
      let (sp, there) = net.bridge b x.rank s linked in
      let (out, port) = net.port b x.rank s sp linked there in
      let (d, kd, ed) = in_inputs x.rank x (map (delayed_frame s.delay) (run.left c r)) (at_rank b p x (Some s) is.plan i linked) in
      let (e, ke, ee) = in_map (delayed_frame s.delay) d (run.left c r) kd in
      let l : IsDeparture out.speed (run.lists c r) e = ((run.output c r sp out there port).members e).0 ke in
      let es : List Event = input_events (run.inputs c) in
      let told = run.outcome c sp there in
      let among : IsMember (as_offer l.copy) (port_offers sp out es) = subst (IsMember (as_offer l.copy)) (told.run.offers r out port) (in_offered l.copy (run.lists c r) l.listed) in
      let input : x ≡ capture_input x.rank (delayed_frame s.delay (departed_frame out.speed l.start l.copy.item)) = ed ∙ ap (capture_input x.rank) (ee ∙ ap (delayed_frame s.delay) l.is) in
      let t = l.start + transmission_time l.copy.item.len out.speed + s.delay in
      let taken : is_filter_number m (arrival_filter p (arrival t x.rank l.copy.item.octets l.copy.item.len)) ≡ true = subst (λ (z : Input). is_own_event p m f z.event ≡ true) input mine in
      let k : IsOfStream (network_value n) (stream_value hops) c sp (as_offer l.copy) = stream_closed (hop b p m f) x.rank t s sp out es (as_offer l.copy) is linked there port among taken in
      record {
        plan = sp;
        number = k.number;
        filter = k.filter;
        is = k.is;
        out = out;
        at = port;
        copy = l.copy;
        start = l.start;
        listed = l.listed;
        flow = k.flow;
        started = l.started;
        input = input;
      }

  -- The queue of such a copy is a queue of the stream.
  pub queue_of : (q : ℕ) (s : Sender) (x : Input) (u : IsFromQueue q s x) → IsMember (record { hop = record { bridge = s.from.bridge; filter = u.number }; port = s.from.port; class = u.copy.class }) queues
  queue_of q s x u =
      let c = s.from.bridge in
      let r = s.from.port in
      let plan = net.plan c u.plan u.is.plan in
      let told = run.outcome c u.plan u.is.plan in
      let es : List Event = input_events (run.inputs c) in
      let among : IsMember (as_offer u.copy) (port_offers u.plan u.out es) = subst (IsMember (as_offer u.copy)) (told.run.offers r u.out u.at) (in_offered u.copy (run.lists c r) u.listed) in
      let own : reaches_queue u.plan u.filter u.out.number u.copy.class ≡ true = flow_reaches u.plan u.number u.filter u.out (safe_hop c u.number u.plan u.filter u.is) (at_own u.plan.ports r u.out u.at) es (as_offer u.copy) among u.flow in
      let reach : reaches_queue u.plan u.filter r u.copy.class ≡ true = subst (λ (k : ℕ). reaches_queue u.plan u.filter k u.copy.class ≡ true) (at_port u.plan.ports r u.out u.at).number own in
      let (from, to) = number_is u.plan.ports r u.out plan.ports u.at in
      all (record { bridge = c; filter = u.number }) u.plan u.filter r u.copy.class (listed_hop c u.number u.is.listed) u.is.plan (member_found u.plan.filters u.number u.filter plan.filters.own u.is.filter) u.is.protected from to
      (class_few u.plan u.filter r u.copy.class u.out plan u.at reach) reach

  -- A copy over a link comes from the queue of the previous hop, because no other queue of the stream leads to the hop.
  from_hop : (leg next : RouteHop A) (port delay : ℕ) (s : Sender) (x : Input) → IsRouteHop (network_value n) run.lists leg → IsMember (queue_of_route_hop leg) queues → LeadsToHop n.links hops leg.bridge leg.port (stream_hop next)
      → sender (map link_value n.links) next.bridge port ≡ Some (record { from = record { bridge = leg.bridge; port = leg.port }; delay = delay }) → sender (map link_value n.links) next.bridge x.rank ≡ Some s → IsFromQueue x.rank s x → IsForwardedCopy run.lists leg port delay x
  from_hop leg next port delay s x is among leads linked from_far u =
      let single = are_single n accepted.without_fault in
      let back : sender (map link_value n.links) s.from.bridge s.from.port ≡ Some (record { from = record { bridge = next.bridge; port = x.rank }; delay = s.delay }) = both_ways n.links next.bridge x.rank s single from_far in
      let there : sender (map link_value n.links) leg.bridge leg.port ≡ Some (record { from = record { bridge = next.bridge; port = port }; delay = delay }) = both_ways n.links next.bridge port _ single linked in
      let y : HopQueue = record { hop = record { bridge = s.from.bridge; filter = u.number }; port = s.from.port; class = u.copy.class } in
      let z : HopQueue = queue_of_route_hop leg in
      let one : is_feeder n.links next.bridge y ≡ true = rw back (same_eq next.bridge) in
      let two : is_feeder n.links next.bridge z ≡ true = rw there (same_eq next.bridge) in
      let same : y ≡ z = one_feeder n.links queues next.bridge y z ((tree_parts n.links hops queues first tree).single (stream_hop next) leads.listed) (queue_of x.rank s x u) among one two in
      let bridge : s.from.bridge ≡ leg.bridge = ap (λ (v : HopQueue). v.hop.bridge) same in
      let out_port : s.from.port ≡ leg.port = ap (λ (v : HopQueue). v.port) same in
      let number : u.number ≡ leg.filter = ap (λ (v : HopQueue). v.hop.filter) same in
      let class : u.copy.class ≡ leg.copy.class = ap (λ (v : HopQueue). v.class) same in
      let to_here : Some (record { from = record { bridge = next.bridge; port = x.rank }; delay = s.delay }) ≡ Some (record { from = record { bridge = next.bridge; port = port }; delay = delay }) =
      sym back ∙ (ap (λ (v : HopQueue). sender (map link_value n.links) v.hop.bridge v.port) same ∙ there) in
      let ends : ◌≡◌ {A = Sender} (record { from = record { bridge = next.bridge; port = x.rank }; delay = s.delay }) (record { from = record { bridge = next.bridge; port = port }; delay = delay }) = same_Some _ _ to_here in
      let rank : x.rank ≡ port = ap (λ (v : Sender). v.from.port) ends in
      let late : s.delay ≡ delay = ap (λ (v : Sender). v.delay) ends in
      let plan : u.plan ≡ leg.plan = same_Some u.plan leg.plan (sym u.is.plan ∙ (ap (slice_get n.plans) bridge ∙ is.plan)) in
      let out : u.out ≡ leg.out = same_Some u.out leg.out (sym u.at ∙ (ap (λ (p : Plan A). find_port p.ports s.from.port) plan ∙ (ap (find_port leg.plan.ports) out_port ∙ is.port))) in
      record {
        copy = u.copy;
        start = u.start;
        listed = subst (λ (k : ℕ). IsMember u.copy (run.lists leg.bridge k)) out_port (subst (λ (k : ℕ). IsMember u.copy (run.lists k s.from.port)) bridge u.listed);
        flow = u.flow ∙ ap Some number;
        class = class;
        started = u.started;
        is = u.input ∙ (ap (λ (k : ℕ). capture_input k (delayed_frame s.delay (departed_frame u.out.speed u.start u.copy.item))) rank
            ∙ (ap (λ (k : ℕ). capture_input port (delayed_frame k (departed_frame u.out.speed u.start u.copy.item))) late
            ∙ ap (λ (v : PortPlan A). capture_input port (delayed_frame delay (departed_frame v.speed u.start u.copy.item))) out));
      }

  -- Inputs from outside are commands.
  from_outside : (b m : ℕ) (p : Plan A) (f : FilterPlan) (x : Input) → IsHop (network_value n) (stream_value hops) (hop b p m f) → comes_in_once n.links false (record { bridge = b; filter = m }) (slice_get n.plans b) ≡ true
      → sender (map link_value n.links) b x.rank ≡ None → IsMember x (run.inputs b) → is_own_event p m f x.event ≡ true → IsCommand x
  from_outside b m p f x is enters unlinked i mine = by_bool (nat_eq x.rank 0)
      (λ k. let here : IsMember x (commands b) = rw k at (at_rank b p x None is.plan i unlinked) in commanded b x here)
      (λ k.
      let here : IsMember x (capture_inputs x.rank (captures b x.rank)) = rw k at (at_rank b p x None is.plan i unlinked) in
      let (c, kc, ec) = in_inputs x.rank x (captures b x.rank) here in
      let own : is_filter_number m (arrival_filter p (arrival c.time x.rank c.octets c.len)) ≡ true = subst (λ (z : Input). is_own_event p m f z.event ≡ true) ec mine in
      let none : comes_in_at n.links false (record { bridge = b; filter = m }) p p.ports ≡ true = subst (λ (v : Option (Plan A)). comes_in_once n.links false (record { bridge = b; filter = m }) v ≡ true) is.plan enters in
      let safe = safe_hop b m p f is in
      let protected : is_protected p m ≡ true = members.passes_any (λ (g : ℕ × FilterPlan). nat_eq g.0 m && g.1.protected) p.filters (m, f) is.filter (and_from (nat_eq m m) f.protected (same_eq m) is.protected) in
      let (h, named) = protected_names p m (net.plan b p is.plan) (net.acceptable b p is.plan) protected in
      absurd (none_from_outside n.links p b m x.rank f c safe unlinked none h named own))

  -- Each later hop is fed by the previous hop.
  pub fed_by_hop : (leg next : RouteHop A) (delay : ℕ) (g : FilterPlan) → IsRouteHop (network_value n) run.lists leg → slice_get n.plans next.bridge ≡ Some next.plan → lookup (nat_eq next.filter) next.plan.filters ≡ Some g → g.protected ≡ true → IsMember (queue_of_route_hop leg) queues
      → next_hop n.links hops leg.bridge leg.port ≡ Some (record { hop = stream_hop next; delay = delay }) → IsFedByHop (network_value n) run.inputs run.lists leg next delay
  fed_by_hop leg next delay g is there listed protected among leads port x linked (f, found, i) =
      let same : g ≡ f = same_Some g f (sym listed ∙ found) in
      let to_hop = leads_by n.links hops leg.bridge leg.port delay (stream_hop next) (sender (map link_value n.links) leg.bridge leg.port) refl leads in
      let (here, mine) = in_own next.plan next.filter f x (run.inputs next.bridge) i in
      let hop_is : IsHop (network_value n) (stream_value hops) (hop next.bridge next.plan next.filter f) =
      record {
        listed = map_in hop_value (stream_hop next) hops to_hop.listed;
        plan = there;
        filter = found_in next.plan.filters next.filter f found;
        protected = subst (λ (z : FilterPlan). z.protected ≡ true) same protected;
      } in
      let feeds : is_feeder n.links next.bridge (queue_of_route_hop leg) ≡ true = rw to_hop.linked (eq-eqb to_hop.far.from.bridge next.bridge (sym to_hop.bridge)) in
      let later : ¬ (stream_hop next ≡ first) = λ e. no_root n.links queues first.bridge (queue_of_route_hop leg) (tree_parts n.links hops queues first tree).root among (subst (λ (h : StreamHop). is_feeder n.links h.bridge (queue_of_route_hop leg) ≡ true) e feeds) in
      let enters = not_first n.plans n.links hops first (stream_hop next) begins later to_hop.listed once in
      at_sender leg next port delay x f is among to_hop linked hop_is enters here mine (sender (map link_value n.links) next.bridge x.rank) refl
    where
      at_sender : (leg next : RouteHop A) (port delay : ℕ) (x : Input) (f : FilterPlan) → IsRouteHop (network_value n) run.lists leg → IsMember (queue_of_route_hop leg) queues → LeadsToHop n.links hops leg.bridge leg.port (stream_hop next)
          → sender (map link_value n.links) next.bridge port ≡ Some (record { from = record { bridge = leg.bridge; port = leg.port }; delay = delay }) → IsHop (network_value n) (stream_value hops) (hop next.bridge next.plan next.filter f)
          → comes_in_once n.links false (stream_hop next) (slice_get n.plans next.bridge) ≡ true → IsMember x (run.inputs next.bridge) → is_own_event next.plan next.filter f x.event ≡ true
          → (s : Option Sender) → sender (map link_value n.links) next.bridge x.rank ≡ s → IsForwardedCopy run.lists leg port delay x ⊎ IsCommand x
      at_sender leg next port delay x f is among leads linked hop_is enters i mine None unlinked = inr (from_outside next.bridge next.filter next.plan f x hop_is enters unlinked i mine)
      at_sender leg next port delay x f is among leads linked hop_is enters i mine (Some s) far = inl (from_hop leg next port delay s x is among leads linked far (sent_over next.bridge next.filter next.plan f s x hop_is far i mine))

  pub fed_in_turn : (leg : RouteHop A) (more : List (ℕ × RouteHop A)) → IsRoute (network_value n) run.lists leg more → IsRouteOfStream n.links hops queues leg more → AreFedInTurn (network_value n) run.inputs run.lists leg more
  fed_in_turn leg [] way of = tt
  fed_in_turn leg (x ∷ more) (is, joined, way) (among, leads, rest) =
      let then = first_leg (network_value n) run.lists x.1 more way in
      let b = then.bound in
      (fed_by_hop leg x.1 x.0 b.filter is then.plan b.found b.protected among leads, fed_in_turn x.1 more way rest)
