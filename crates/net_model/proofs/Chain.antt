-- In a network run, a stream's records are the records of the stream alone.
use Rattle.std.proofs.Common.{◌≡◌, ◌+◌, ℕ, true, List, map, refl, ap, sym, ◌∙◌, subst, Option, Some, None}
use Rattle.std.specs.Prelude.{nat_eq, slice_get}
use Rattle.std.specs.Map.{lookup}
use Rattle.bridge_limits.specs.Members.{IsMember, IsOrdered}
use Rattle.bridge_limits.proofs.Cases.{by_bool}
use Rattle.bridge_capture.specs.Grammar.{CapturedFrame}
use Rattle.bridge_frame.specs.Link.{transmission_time}
use Rattle.bridge_filter.specs.OwnEvents.{is_filter_number}
use Rattle.bridge_filter.proofs.Owned.{told_listed}
use Rattle.bridge_filter.proofs.Members.{member_found}
use Rattle.bridge_port.specs.Schedule.{Copy}
use Rattle.bridge_config.specs.declared.ports.PortPlan.{PortPlan}
use Rattle.bridge_config.specs.Model.{Plan}
use Rattle.bridge_config.specs.Rules.{find_port}
use Rattle.bridge_semantics.specs.declared.outcome.View.{View}
use Rattle.bridge_semantics.specs.declared.outcome.Outcome.{Outcome}
use Rattle.bridge_semantics.specs.Events.{Event, arrival, arrival_filter, is_own_event, own_events, filter_inputs, plan_police}
use Rattle.bridge_semantics.specs.Offers.{CarriedFrame, port_offers}
use Rattle.bridge_semantics.specs.Merge.{Input, FollowsInput, inputs_by_rank, input_events, capture_inputs, own_inputs, capture_input, IsTimed, AreTimed, IsLater}
use Rattle.bridge_semantics.specs.Outputs.{IsOutput, IsDeparture, departed_frame}
use Rattle.bridge_semantics.specs.Runs.{AreSolo, IsPortCopy, IsFilterView}
use Rattle.bridge_semantics.proofs.Safe.{IsSafe, apart}
use Rattle.bridge_semantics.proofs.Steps.{steps_own}
use Rattle.bridge_semantics.proofs.Headline.{origins_own, as_offer, in_offered, queues, solo_queues, lies_by, view_as, queued_at}
use Rattle.bridge_semantics.proofs.Merging.{rising_own, own_of_rank, events_own}
use Rattle.net_model.specs.Networks.{Network, Sender, sender, delayed_frame, external_inputs, inputs_over_link, port_inputs, IsNetworkRun, IsNetwork, Hop, hop, IsHop, IsOfStream, IsClosed}
use Rattle.net_model.specs.Alone.{ArrivesOverLink, IsAlone}
use Rattle.net_model.proofs.Members.{in_map, map_in, in_own, own_in, rank_in, in_inputs, inputs_in, frames_apart}

-- Each hop passes the tests of its plan.
safe_of : {A : Type 0} (n : Network A) (stream : List (ℕ × ℕ)) (h : Hop A) → IsNetwork n → IsHop n stream h → IsSafe h.plan h.number h.filter
safe_of n stream h net is = record { plan = net.plan h.bridge h.plan is.plan; listed = is.filter; passes = net.acceptable h.bridge h.plan is.plan h.number h.filter is.filter is.protected }

module _ {A : Type 0} (n : Network A) (stream : List (ℕ × ℕ)) (commands : ℕ → List Input) (captures : ℕ → ℕ → List CapturedFrame) (o : ℕ → Outcome A) (net : IsNetwork n) (run : IsNetworkRun n commands captures o) where
  -- The own inputs of a hop.
  abbrev pub own_of : Hop A → List Input
  own_of h = own_inputs h.plan h.number h.filter (run.inputs h.bridge)

  -- The copies in each queue of a hop.
  abbrev pub lists_of : Hop A → ℕ → ℕ → List (Copy CarriedFrame)
  lists_of h = queues h.plan h.number h.filter (input_events (run.inputs h.bridge)) (run.lists h.bridge)

  own_rank : (h : Hop A) (q : ℕ) → IsHop n stream h → inputs_by_rank q (own_of h) ≡ own_inputs h.plan h.number h.filter (port_inputs n.links commands captures run.left h.bridge q)
  own_rank h q is = own_of_rank h.plan h.number h.filter q (run.inputs h.bridge) ∙ ap (own_inputs h.plan h.number h.filter) ((run.merged h.bridge h.plan is.plan).each q)

  own_open : (h : Hop A) (q : ℕ) → IsHop n stream h → sender n.links h.bridge q ≡ None → inputs_by_rank q (own_of h) ≡ own_inputs h.plan h.number h.filter (external_inputs commands captures h.bridge q)
  own_open h q is none = own_rank h q is ∙ ap (λ (m : Option Sender). own_inputs h.plan h.number h.filter (inputs_over_link m (external_inputs commands captures h.bridge q) run.left q)) none

  own_linked : (h : Hop A) (q : ℕ) (s : Sender) → IsHop n stream h → sender n.links h.bridge q ≡ Some s → inputs_by_rank q (own_of h) ≡ own_inputs h.plan h.number h.filter (capture_inputs q (map (delayed_frame s.delay) (run.left s.from.bridge s.from.port)))
  own_linked h q s is linked = own_rank h q is ∙ ap (λ (m : Option Sender). own_inputs h.plan h.number h.filter (inputs_over_link m (external_inputs commands captures h.bridge q) run.left q)) linked

  -- The frames that left the port at the other end of a hop's link.
  left_output : (h : Hop A) (q : ℕ) (s : Sender) → sender n.links h.bridge q ≡ Some s → (p : Plan A) × (slice_get n.bridges s.from.bridge ≡ Some p) × (out : PortPlan A) × (find_port p.ports s.from.port ≡ Some out) × IsOutput out.speed (run.lists s.from.bridge s.from.port) (run.left s.from.bridge s.from.port)
  left_output h q s linked =
      let (p, at) = net.bridge h.bridge q s linked in
      let (out, there) = net.port h.bridge q s p linked at in
      (p, at, out, there, run.output s.from.bridge s.from.port p out at there)

  own_apart : (h : Hop A) (q : ℕ) (s : Sender) → IsHop n stream h → sender n.links h.bridge q ≡ Some s → IsOrdered IsLater (inputs_by_rank q (own_of h))
  own_apart h q s is linked =
      let (p, at, out, there, output) = left_output h q s linked in
      subst (IsOrdered IsLater) (sym (own_linked h q s is linked)) (rising_own h.plan h.number h.filter IsLater (capture_inputs q (map (delayed_frame s.delay) (run.left s.from.bridge s.from.port))) (frames_apart q s.delay (run.left s.from.bridge s.from.port) output.rises))

  -- Own inputs of a hop over a link were sent by hops of the stream.
  sent_by_stream : IsClosed n stream → (h : Hop A) (q : ℕ) (s : Sender) → IsHop n stream h → sender n.links h.bridge q ≡ Some s → (x : Input) → IsMember x (inputs_by_rank q (own_of h)) → ArrivesOverLink n stream lists_of h q s x
  sent_by_stream closed h q s is linked x i =
      let (p, at, out, there, output) = left_output h q s linked in
      let b = s.from.bridge in
      let r = s.from.port in
      let j : IsMember x (own_inputs h.plan h.number h.filter (capture_inputs q (map (delayed_frame s.delay) (run.left b r)))) = subst (IsMember x) (own_linked h q s is linked) i in
      let (k, mine) = in_own h.plan h.number h.filter x (capture_inputs q (map (delayed_frame s.delay) (run.left b r))) j in
      let (c, kc, ec) = in_inputs q x (map (delayed_frame s.delay) (run.left b r)) k in
      let (d, kd, ed) = in_map (delayed_frame s.delay) c (run.left b r) kc in
      let l : IsDeparture out.speed (run.lists b r) d = (output.members d).0 kd in
      let es = input_events (run.inputs b) in
      let told = run.outcome b p at in
      let among : IsMember (as_offer l.copy) (port_offers p out es) = subst (IsMember (as_offer l.copy)) (told.run.offers r out there) (in_offered l.copy (run.lists b r) l.listed) in
      let input : x ≡ capture_input q (delayed_frame s.delay (departed_frame out.speed l.start l.copy.item)) = ec ∙ ap (capture_input q) (ed ∙ ap (delayed_frame s.delay) l.is) in
      let t = l.start + transmission_time l.copy.item.len out.speed + s.delay in
      let taken : is_filter_number h.number (arrival_filter h.plan (arrival t q l.copy.item.octets l.copy.item.len)) ≡ true = subst (λ (z : Input). is_own_event h.plan h.number h.filter z.event ≡ true) input mine in
      let m : IsOfStream n stream b p (as_offer l.copy) = closed h q t s p out es (as_offer l.copy) is linked at there among taken in
      record {
        plan = p;
        number = m.number;
        filter = m.filter;
        is = m.is;
        out = out;
        at = there;
        class = l.copy.class;
        copy = l.copy;
        start = l.start;
        listed = lies_by p m.number m.filter (safe_of n stream (hop b p m.number m.filter) net m.is) es told.moments (run.lists b) told.run r l.copy (find_port p.ports r) refl m.flow l.listed;
        started = l.started;
        input = input;
        own = mine;
      }

  -- Frames that hops of the stream sent over the link arrive.
  comes_of_stream : (h : Hop A) (q : ℕ) (s : Sender) → IsHop n stream h → sender n.links h.bridge q ≡ Some s → (x : Input) → ArrivesOverLink n stream lists_of h q s x → IsMember x (inputs_by_rank q (own_of h))
  comes_of_stream h q s is linked x r =
      let b = s.from.bridge in
      let m = s.from.port in
      let es = input_events (run.inputs b) in
      let there : IsMember r.copy (run.lists b m) = queued_at r.plan r.number r.filter es (run.lists b) m r.class r.copy r.listed in
      let d = departed_frame r.out.speed r.start r.copy.item in
      let l : IsDeparture r.out.speed (run.lists b m) d = record { copy = r.copy; start = r.start; listed = there; started = r.started; is = refl } in
      let kd : IsMember d (run.left b m) = ((run.output b m r.plan r.out r.is.plan r.at).members d).1 l in
      let kc : IsMember (delayed_frame s.delay d) (map (delayed_frame s.delay) (run.left b m)) = map_in (delayed_frame s.delay) d (run.left b m) kd in
      let k : IsMember (capture_input q (delayed_frame s.delay d)) (capture_inputs q (map (delayed_frame s.delay) (run.left b m))) = inputs_in q (delayed_frame s.delay d) (map (delayed_frame s.delay) (run.left b m)) kc in
      let here : IsMember x (capture_inputs q (map (delayed_frame s.delay) (run.left b m))) = subst (λ (z : Input). IsMember z (capture_inputs q (map (delayed_frame s.delay) (run.left b m)))) (sym r.input) k in
      subst (IsMember x) (sym (own_linked h q s is linked)) (own_in h.plan h.number h.filter x (capture_inputs q (map (delayed_frame s.delay) (run.left b m))) here r.own)

  frame_timed : (q : ℕ) (x : Input) (cs : List CapturedFrame) → IsMember x (capture_inputs q cs) → IsTimed x.at x.event
  frame_timed q x cs i = let (c, kc, e) = in_inputs q x cs i in subst (λ (z : Input). IsTimed z.at z.event) (sym e) refl

  coming_timed : ((b : ℕ) → AreTimed (commands b)) → (b q : ℕ) (m : Option Sender) (x : Input) → IsMember x (inputs_over_link m (external_inputs commands captures b q) run.left q) → IsTimed x.at x.event
  coming_timed times b q (Some s) x i = frame_timed q x (map (delayed_frame s.delay) (run.left s.from.bridge s.from.port)) i
  coming_timed times b q None x i = by_bool (nat_eq q 0)
      (λ k. let j : IsMember x (commands b) = rw k at i in times b x j)
      (λ k. let j : IsMember x (capture_inputs q (captures b q)) = rw k at i in frame_timed q x (captures b q) j)

  own_timed : ((b : ℕ) → AreTimed (commands b)) → (h : Hop A) → IsHop n stream h → (x : Input) → IsMember x (own_of h) → IsTimed x.at x.event
  own_timed times h is x i =
      let (k, mine) = in_own h.plan h.number h.filter x (run.inputs h.bridge) i in
      let j : IsMember x (inputs_by_rank x.rank (run.inputs h.bridge)) = rank_in x.rank x (run.inputs h.bridge) k refl in
      coming_timed times h.bridge x.rank (sender n.links h.bridge x.rank) x (subst (IsMember x) ((run.merged h.bridge h.plan is.plan).each x.rank) j)

  -- The queues and the record of a hop.
  own_solo : (h : Hop A) → IsHop n stream h → AreSolo h.plan (input_events (own_of h)) (lists_of h)
  own_solo h is =
      let safe = safe_of n stream h net is in
      let es = input_events (run.inputs h.bridge) in
      let told = run.outcome h.bridge h.plan is.plan in
      let all : AreSolo h.plan (own_events h.plan h.number h.filter es) (lists_of h) = solo_queues h.plan h.number h.filter safe es told.moments (run.lists h.bridge) told.run told.whole in
      subst (λ (ds : List Event). AreSolo h.plan ds (lists_of h)) (events_own h.plan h.number h.filter (run.inputs h.bridge)) all

  own_view : (h : Hop A) (v : View A) → IsHop n stream h → lookup (nat_eq h.number) (o h.bridge).filters.items ≡ Some v → IsFilterView h.plan h.number h.filter (input_events (own_of h)) (λ q x. (c : ℕ) × IsMember x (lists_of h q c)) v
  own_view h v is found =
      let safe = safe_of n stream h net is in
      let es = input_events (run.inputs h.bridge) in
      let told = run.outcome h.bridge h.plan is.plan in
      let lists = run.lists h.bridge in
      let P : ℕ → Copy CarriedFrame → Type 0 = IsPortCopy lists in
      let Q : ℕ → Copy CarriedFrame → Type 0 = λ q x. (c : ℕ) × IsMember x (lists_of h q c) in
      let to : (q : ℕ) (x : Copy CarriedFrame) → x.item.flow ≡ Some h.number → P q x → Q q x = λ q x e i. (x.class, lies_by h.plan h.number h.filter safe es told.moments lists told.run q x (find_port h.plan.ports q) refl e i) in
      let from : (q : ℕ) (x : Copy CarriedFrame) → x.item.flow ≡ Some h.number → Q q x → P q x = λ q x e i. queued_at h.plan h.number h.filter es lists q i.0 x i.1 in
      let listed : lookup (nat_eq h.number) h.plan.filters ≡ Some h.filter = member_found h.plan.filters h.number h.filter safe.plan.filters.own safe.listed in
      let all : IsFilterView h.plan h.number h.filter (own_events h.plan h.number h.filter es) Q v = view_as h.plan h.number h.filter (apart h.plan h.number h.filter safe) es (own_events h.plan h.number h.filter es) (told_listed (plan_police h.plan) (filter_inputs h.plan es)) (steps_own h.plan h.number h.filter (apart h.plan h.number h.filter safe) es) (origins_own h.plan h.number h.filter es) P Q to from v (told.views h.number h.filter v listed found) in
      subst (λ (ds : List Event). IsFilterView h.plan h.number h.filter ds Q v) (events_own h.plan h.number h.filter (run.inputs h.bridge)) all

  -- In a network run, the stream is alone on an idle network.
  pub alone_in : ((b : ℕ) → AreTimed (commands b)) → IsClosed n stream → IsAlone n commands captures stream (λ (h : Hop A). lookup (nat_eq h.number) (o h.bridge).filters.items)
  alone_in times closed = record {
    own = own_of;
    lists = lists_of;
    order = λ h is. rising_own h.plan h.number h.filter FollowsInput (run.inputs h.bridge) (run.merged h.bridge h.plan is.plan).in_order;
    timed = own_timed times;
    first = own_open;
    apart = own_apart;
    next = λ h q s is linked x. (sent_by_stream closed h q s is linked x, comes_of_stream h q s is linked x);
    solo = own_solo;
    view = own_view;
  }
