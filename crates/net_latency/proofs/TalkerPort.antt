-- At the first hop of a stream, all own frames arrive at the talker's port. So only frames that arrive there must keep the traffic.
use Rattle.std.proofs.Common.{◌≡◌, ℕ, Bool, true, false, not, ◌&&◌, List, [], ◌∷◌, map, Option, Some, None, nat_eq, refl, sym, ap, ◌∙◌, subst, inl, inr, arith}
use Rattle.std.specs.Prelude.{is_some, option_map, slice_get}
use Rattle.std.specs.Map.{lookup}
use Rattle.std.proofs.lemmas.Bool.{and_parts, eq-eqb, eqb-true, false≢true}
use Rattle.std.proofs.lemmas.Option.{same_Some}
use Rattle.bridge_limits.specs.Members.{IsMember}
use Rattle.bridge_limits.proofs.Cases.{by_bool}
use Rattle.bridge_limits.proofs.Members as members
use Rattle.bridge_limits.proofs.Orders.{same_eq}
use Rattle.bridge_capture.specs.Grammar.{CapturedFrame}
use Rattle.bridge_filter.specs.declared.FilterPlan.{FilterPlan}
use Rattle.bridge_filter.specs.OwnEvents.{is_filter_number}
use Rattle.bridge_config.specs.declared.ports.PortPlan.{PortPlan}
use Rattle.bridge_config.specs.declared.command.Command.{Command}
use Rattle.bridge_config.specs.Model.{Plan}
use Rattle.bridge_config.specs.Rules.{IsPort, find_port}
use Rattle.bridge_config.proofs.PlanPorts.{at_port}
use Rattle.bridge_bounds.proofs.Reached.{found_in}
use Rattle.bridge_semantics.specs.declared.outcome.Outcome.{Outcome}
use Rattle.bridge_semantics.specs.Events.{Arrival, Arrived, Cleared, Event, arrival, arrival_filter, is_own_event, own_events}
use Rattle.bridge_semantics.specs.Merge.{Input, capture_inputs, command_as_input, commands_of, input_events, inputs_by_rank, own_inputs}
use Rattle.bridge_semantics.proofs.Merging.{events_own, in_at, own_of_rank}
use Rattle.bridge_bounds.specs.declared.traffic.Traffic.{Traffic}
use Rattle.bridge_bounds.specs.Traffic.{ComeInPeriods, KeepsTraffic}
use Rattle.net_model.specs.declared.links.Link.{Link}
use Rattle.net_model.specs.declared.links.StreamHop.{StreamHop}
use Rattle.net_model.specs.Faults.{has_entry, is_entry_port, protected_handle}
use Rattle.net_model.specs.NetworkParts.{NetworkParts, hop_value, link_value, network_value, peer_port, stream_value}
use Rattle.net_model.specs.Networks.{IsHop, IsNetwork, IsNetworkRun, Sender, external_inputs, hop, inputs_over_link, sender}
use Rattle.net_model.proofs.Members.{in_inputs, in_map, in_own, map_in}
use Rattle.net_latency.specs.declared.tree.HopQueue.{HopQueue}
use Rattle.net_latency.specs.Delivered.{AreCommands, HasReachableQueues, IsAcceptedNetwork, IsFrameOfHop, IsStreamOfNetwork, KeepsTalkerTraffic, KeepsTrafficOfHop}
use Rattle.net_latency.specs.Entering.{come_in_once, comes_in_at, comes_in_once, is_talker_port, may_come_in}
use Rattle.net_latency.specs.Phased.{IsCommand}
use Rattle.net_latency.specs.Trees.{is_feeder, is_tree}
use Rattle.net_latency.proofs.FedInTurn.{at_rank, enters_at, no_root, none_comes, queue_of, sent_over, tree_parts}
use Rattle.net_latency.proofs.Linked.{are_single, both_ways}
use Rattle.net_latency.proofs.ProtectedHops.{HasFilter, filter_of}
use Rattle.bridge_semantics.proofs.Safe.{IsSafe}

-- COMMANDS

-- The commands of files are commands.
pub are_commands : (cs : List Command) (x : Input) → IsMember x (commands_of cs) → IsCommand x
are_commands [] x i = absurd i
are_commands (c ∷ cs) x i = elim (members.in_either x (commands_of cs) (command_as_input c ∷ []) i) [
  | inl earlier ↦ are_commands cs x earlier
  | inr last ↦ elim last [ inl same ↦ (c.clear, c.number, ap (λ (z : Input). z.event) same) | inr z ↦ absurd z ]
]

-- If all inputs of other ranks are commands, the inputs keep the traffic that the inputs of this rank keep.
with_commands : (t : Traffic) (q next : ℕ) (xs : List Input) → ((x : Input) → IsMember x xs → ¬ (x.rank ≡ q) → IsCommand x) → ComeInPeriods t next (input_events (inputs_by_rank q xs)) → ComeInPeriods t next (input_events xs)
with_commands t q next [] commands come = tt
with_commands t q next (x ∷ xs) commands come = by_bool (nat_eq x.rank q)
    (λ k. let here : ComeInPeriods t next (x.event ∷ input_events (inputs_by_rank q xs)) = rw k at come in event_more t q next x.event xs (λ n. with_commands t q n xs (λ z i. commands z (inr i))) here)
    (λ k.
    let here : ComeInPeriods t next (input_events (inputs_by_rank q xs)) = rw k at come in
    let (clear, m, is) = commands x (inl refl) (λ e. false≢true (sym k ∙ eq-eqb x.rank q e)) in
    subst (λ (e : Event). ComeInPeriods t next (e ∷ input_events xs)) (sym is) (with_commands t q next xs (λ z i. commands z (inr i)) here))
  where
    event_more : (t : Traffic) (q next : ℕ) (e : Event) (xs : List Input) → ((n : ℕ) → ComeInPeriods t n (input_events (inputs_by_rank q xs)) → ComeInPeriods t n (input_events xs)) → ComeInPeriods t next (e ∷ input_events (inputs_by_rank q xs)) → ComeInPeriods t next (e ∷ input_events xs)
    event_more t q next (Arrived a) xs go (p, multiple, before, low, high, least, most, rest) = (p, multiple, before, low, high, least, most, go p rest)
    event_more t q next (Cleared c m) xs go rest = go next rest

-- THE TALKER'S PORT

-- A stream has at most one talker's port.
one_port : {A : Type 0} (links : List Link) (b : ℕ) (p : Plan A) (h : ℕ) (ports : List (PortPlan A)) (q r : ℕ) → is_talker_port links b p h ports q ≡ true → is_talker_port links b p h ports r ≡ true → q ≡ r
one_port links b p h [] q r a c = absurd (false≢true a)
one_port links b p h (on ∷ more) q r a c = by_bool (is_entry_port links b p h on)
    (λ k.
    let one : nat_eq on.number q ≡ true = rw k at a in
    let two : nat_eq on.number r ≡ true = rw k at c in
    sym (eqb-true on.number q one) ∙ eqb-true on.number r two)
    (λ k.
    let one : is_talker_port links b p h more q ≡ true = rw k at a in
    let two : is_talker_port links b p h more r ≡ true = rw k at c in
    one_port links b p h more q r one two)

not_false : (b : Bool) → not b ≡ false → b ≡ true
not_false true h = refl
not_false false h = absurd (false≢true (sym h))

-- An open port with an entry for the first hop's handle is the talker's port.
only_port : {A : Type 0} (links : List Link) (b m h : ℕ) (p : Plan A) (on : PortPlan A) → comes_in_at links true (record { bridge = b; filter = m }) p p.ports ≡ true → IsMember on p.ports → protected_handle p.filters m ≡ Some h → is_entry_port links b p h on ≡ true → is_talker_port links b p h p.ports on.number ≡ true
only_port links b m h p on all listed named enters =
    let none : may_come_in links true (record { bridge = b; filter = m }) p on ≡ false = none_comes links true (record { bridge = b; filter = m }) p p.ports on all listed in
    let other : (is_entry_port links b p h on && not (is_talker_port links b p h p.ports on.number)) ≡ false = rw named at none in
    let here : not (is_talker_port links b p h p.ports on.number) ≡ false = rw enters at other in
    not_false (is_talker_port links b p h p.ports on.number) here

first_once : {A : Type 0} (plans : List (Plan A)) (links : List Link) (hops : List StreamHop) (first : StreamHop) → slice_get hops 0 ≡ Some first → come_in_once plans links true hops ≡ true → comes_in_once links true first (slice_get plans first.bridge) ≡ true
first_once plans links [] first begins all = absurd (cc)
first_once plans links (h ∷ hs) first begins all = subst (λ (z : StreamHop). comes_in_once links true z (slice_get plans z.bridge) ≡ true) (same_Some h first begins) (and_parts (comes_in_once links true h (slice_get plans h.bridge)) (come_in_once plans links false hs) all).0

unlinked_by : (o : Option Sender) → not (is_some (option_map (λ (s : Sender). s.from) o)) ≡ true → o ≡ None
unlinked_by None h = refl
unlinked_by (Some s) h = absurd (false≢true h)

unlinked_port : {A : Type 0} (links : List Link) (b h : ℕ) (p : Plan A) (on : PortPlan A) → is_entry_port links b p h on ≡ true → sender (map link_value links) b on.number ≡ None
unlinked_port links b h p on is = unlinked_by (sender (map link_value links) b on.number) (and_parts (not (is_some (peer_port links b on.number))) (has_entry p on.number h) is).0

-- The filter of a hop is protected.
protected_as : {A : Type 0} (plans : List (Plan A)) (h : StreamHop) (g : HasFilter plans h) (p : Plan A) (f : FilterPlan) → slice_get plans h.bridge ≡ Some p → lookup (nat_eq h.filter) p.filters ≡ Some f → f.protected ≡ true
protected_as {A} plans h g p f at found =
    let plan : g.plan ≡ p = same_Some g.plan p (sym g.at ∙ at) in
    let same : g.filter ≡ f = same_Some g.filter f (sym (subst (λ (v : Plan A). lookup (nat_eq h.filter) v.filters ≡ Some g.filter) plan g.found) ∙ found) in
    subst (λ (e : FilterPlan). e.protected ≡ true) same g.protected

module _ {A : Type 0} (n : NetworkParts A) (hops : List StreamHop) (queues : List HopQueue) (first : StreamHop) (commands : ℕ → List Input) (captures : ℕ → ℕ → List CapturedFrame) (o : ℕ → Outcome A)
    (accepted : IsAcceptedNetwork n) (known : IsStreamOfNetwork n hops) (all : HasReachableQueues n.plans hops queues) (commanded : AreCommands commands)
    (begins : slice_get hops 0 ≡ Some first) (once : come_in_once n.plans n.links true hops ≡ true) (tree : is_tree n.links hops queues first ≡ true)
    (run : IsNetworkRun (network_value n) commands captures o) where
  net : IsNetwork (network_value n)
  net = accepted.checked.network

  -- No own frame of the first hop arrives over a link, because no queue of the stream leads there.
  none_over_link : (p : Plan A) (f : FilterPlan) (s : Sender) (x : Input) → IsHop (network_value n) (stream_value hops) (hop first.bridge p first.filter f) → sender (map link_value n.links) first.bridge x.rank ≡ Some s → IsMember x (run.inputs first.bridge) → is_own_event p first.filter f x.event ≡ true → ⊥
  none_over_link p f s x is linked i mine =
      let u = sent_over n hops queues first commands captures o accepted known all commanded begins once tree run first.bridge first.filter p f s x is linked i mine in
      let y : HopQueue = record { hop = record { bridge = s.from.bridge; filter = u.number }; port = s.from.port; class = u.copy.class } in
      let among = queue_of n hops queues first commands captures o accepted known all commanded begins once tree run x.rank s x u in
      let back = both_ways n.links first.bridge x.rank s (are_single n accepted.without_fault) linked in
      let feeds : is_feeder n.links first.bridge y ≡ true = rw back (same_eq first.bridge) in
      no_root n.links queues first.bridge y (tree_parts n.links hops queues first tree).root among feeds

  -- An own input of the first hop arrives at the talker's port, or is a command.
  from_talker : (p : Plan A) (f : FilterPlan) (h q : ℕ) (x : Input) → IsHop (network_value n) (stream_value hops) (hop first.bridge p first.filter f) → IsSafe p first.filter f → protected_handle p.filters first.filter ≡ Some h → is_talker_port n.links first.bridge p h p.ports q ≡ true
      → comes_in_at n.links true first p p.ports ≡ true → IsMember x (run.inputs first.bridge) → is_own_event p first.filter f x.event ≡ true → ¬ (x.rank ≡ q) → (s : Option Sender) → sender (map link_value n.links) first.bridge x.rank ≡ s → IsCommand x
  from_talker p f h q x is safe named port enters i mine other (Some s) linked = absurd (none_over_link p f s x is linked i mine)
  from_talker p f h q x is safe named port enters i mine other None unlinked = by_bool (nat_eq x.rank 0)
      (λ k.
      let here : IsMember x (commands first.bridge) = rw k at (at_rank n hops queues first commands captures o accepted known all commanded begins once tree run first.bridge p x None is.plan i unlinked) in
      commanded first.bridge x here)
      (λ k.
      let here : IsMember x (capture_inputs x.rank (captures first.bridge x.rank)) = rw k at (at_rank n hops queues first commands captures o accepted known all commanded begins once tree run first.bridge p x None is.plan i unlinked) in
      let (c, kc, ec) = in_inputs x.rank x (captures first.bridge x.rank) here in
      let own : is_filter_number first.filter (arrival_filter p (arrival c.time x.rank c.octets c.len)) ≡ true = subst (λ (z : Input). is_own_event p first.filter f z.event ≡ true) ec mine in
      let (on, at, entry) = enters_at n.links p first.bridge first.filter x.rank f c (find_port p.ports x.rank) safe unlinked refl h named own in
      let place = at_port p.ports x.rank on at in
      let talker = only_port n.links first.bridge first.filter h p on enters place.listed named entry in
      absurd (other (sym place.number ∙ one_port n.links first.bridge p h p.ports on.number q talker port)))

  -- The inputs of the talker's port.
  port_linked : (b q h : ℕ) (p : Plan A) (ports : List (PortPlan A)) → is_talker_port n.links b p h ports q ≡ true → (on : PortPlan A) × IsMember on ports × (on.number ≡ q) × (is_entry_port n.links b p h on ≡ true)
  port_linked b q h p [] is = absurd (false≢true is)
  port_linked b q h p (on ∷ more) is = by_bool (is_entry_port n.links b p h on)
      (λ k. let one : nat_eq on.number q ≡ true = rw k at is in (on, inl refl, eqb-true on.number q one, k))
      (λ k. let rest : is_talker_port n.links b p h more q ≡ true = rw k at is in let (x, i, number, enters) = port_linked b q h p more rest in (x, inr i, number, enters))

  port_inputs_are : (b q h : ℕ) (p : Plan A) → slice_get n.plans b ≡ Some p → is_talker_port n.links b p h p.ports q ≡ true → inputs_by_rank q (run.inputs b) ≡ capture_inputs q (captures b q)
  port_inputs_are b q h p at is =
      let (on, listed, number, enters) = port_linked b q h p p.ports is in
      let unlinked : sender (map link_value n.links) b q ≡ None = subst (λ (k : ℕ). sender (map link_value n.links) b k ≡ None) number (unlinked_port n.links b h p on enters) in
      let some = (members.each_in IsPort p.ports on (net.plan b p at).ports.each listed).number_from in
      let differs : nat_eq q 0 ≡ false = by_bool (nat_eq q 0) (λ k. (let zero : q ≡ 0 = eqb-true q 0 k in absurd (omega (arith, some, number, zero)))) (λ k. k) in
      let here : external_inputs commands captures b q ≡ capture_inputs q (captures b q) = rw differs refl in
      (run.merged b p at).each q ∙ (ap (λ (s : Option Sender). inputs_over_link s (external_inputs commands captures b q) run.left q) unlinked ∙ here)

  -- If the frames at the talker's port keep the traffic, the own events of the first hop do.
  pub talker_keeps : (t : Traffic) (q : ℕ) → KeepsTalkerTraffic n captures t first q → KeepsTrafficOfHop n.plans run.inputs t first
  talker_keeps t q k p f at found =
      let b = first.bridge in
      let m = first.filter in
      let g = filter_of n hops first accepted known (members.in_at hops 0 first begins) in
      let plan : k.plan ≡ p = same_Some k.plan p (sym k.at ∙ at) in
      let filter : k.filter ≡ f = same_Some k.filter f (sym (subst (λ (v : Plan A). lookup (nat_eq m) v.filters ≡ Some k.filter) plan k.found) ∙ found) in
      let named : protected_handle p.filters m ≡ Some k.handle = subst (λ (v : Plan A). protected_handle v.filters m ≡ Some k.handle) plan k.named in
      let port : is_talker_port n.links b p k.handle p.ports q ≡ true = subst (λ (v : Plan A). is_talker_port n.links b v k.handle v.ports q ≡ true) plan k.is_port in
      let frames : List Input = capture_inputs q (captures b q) in
      let (next, come) : KeepsTraffic t (own_events p m f (input_events frames)) = subst (λ (e : FilterPlan). KeepsTraffic t (own_events p m e (input_events frames))) filter (subst (λ (v : Plan A). KeepsTraffic t (own_events v m k.filter (input_events frames))) plan k.keeps) in
      let listed = found_in p.filters m f found in
      let protected : f.protected ≡ true = protected_as n.plans first g p f at found in
      let is : IsHop (network_value n) (stream_value hops) (hop b p m f) = record { listed = map_in hop_value first hops (members.in_at hops 0 first begins); plan = at; filter = listed; protected = protected } in
      let safe : IsSafe p m f = record { plan = net.plan b p at; listed = listed; passes = net.acceptable b p at m f listed protected } in
      let enters : comes_in_at n.links true first p p.ports ≡ true = subst (λ (v : Option (Plan A)). comes_in_once n.links true first v ≡ true) at (first_once n.plans n.links hops first begins once) in
      let own : List Input = own_inputs p m f (run.inputs b) in
      let by_rank : inputs_by_rank q own ≡ own_inputs p m f frames = own_of_rank p m f q (run.inputs b) ∙ ap (own_inputs p m f) (port_inputs_are b q k.handle p at port) in
      let here : ComeInPeriods t next (input_events (own_inputs p m f frames)) = subst (ComeInPeriods t next) (events_own p m f frames) come in
      let ranked : ComeInPeriods t next (input_events (inputs_by_rank q own)) = subst (λ (xs : List Input). ComeInPeriods t next (input_events xs)) (sym by_rank) here in
      let whole : ComeInPeriods t next (input_events own) = with_commands t q next own
      (λ x i other. let (among, mine) = in_own p m f x (run.inputs b) i in from_talker p f k.handle q x is safe named port enters among mine other (sender (map link_value n.links) b x.rank) refl) ranked in
      (next, subst (ComeInPeriods t next) (sym (events_own p m f (run.inputs b))) whole)

  -- An own frame at the talker's port is a frame of the first hop.
  pub talker_frame : (t : Traffic) (q : ℕ) (a : Arrival) (k : KeepsTalkerTraffic n captures t first q) → IsMember (Arrived a) (own_events k.plan first.filter k.filter (input_events (capture_inputs q (captures first.bridge q)))) → IsFrameOfHop n.plans run.inputs first a
  talker_frame t q a k i =
      let b = first.bridge in
      let m = first.filter in
      let frames : List Input = capture_inputs q (captures b q) in
      let own : List Input = own_inputs k.plan m k.filter (run.inputs b) in
      let by_rank : inputs_by_rank q own ≡ own_inputs k.plan m k.filter frames = own_of_rank k.plan m k.filter q (run.inputs b) ∙ ap (own_inputs k.plan m k.filter) (port_inputs_are b q k.handle k.plan k.at k.is_port) in
      let there : IsMember (Arrived a) (input_events (own_inputs k.plan m k.filter frames)) = subst (IsMember (Arrived a)) (events_own k.plan m k.filter frames) i in
      let ranked : IsMember (Arrived a) (input_events (inputs_by_rank q own)) = subst (λ (xs : List Input). IsMember (Arrived a) (input_events xs)) (sym by_rank) there in
      let (x, j, same) = in_map (λ (z : Input). z.event) (Arrived a) (inputs_by_rank q own) ranked in
      let event : IsMember x.event (input_events own) = map_in (λ (z : Input). z.event) x own (in_at q x own j) in
      let here : IsMember (Arrived a) (input_events own) = subst (λ (e : Event). IsMember e (input_events own)) (sym same) event in
      record { plan = k.plan; filter = k.filter; at = k.at; found = k.found; own = subst (IsMember (Arrived a)) (sym (events_own k.plan m k.filter (run.inputs b))) here }
