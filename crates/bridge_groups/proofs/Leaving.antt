-- Frames of an admitted talker leave the shared queues of a plan in time.
use Rattle.std.proofs.Common.{◌≡◌, ◌≤◌, ◌+◌, ℕ, true, Some, List, ◌∷◌, ◌++◌, arith, ap, refl, sym, subst, ◌∙◌}
use Rattle.std.proofs.lemmas.Option.{same_Some}
use Rattle.bridge_limits.specs.Members.{IsMember}
use Rattle.bridge_frame.specs.Link.{transmission_time}
use Rattle.bridge_forward.specs.Ports.{has_port}
use Rattle.bridge_filter.specs.declared.FilterInput.{FilterInput}
use Rattle.bridge_filter.specs.declared.FilterPlan.{FilterPlan}
use Rattle.bridge_filter.specs.Verdicts.{frame_filter}
use Rattle.bridge_port.specs.Schedule.{Copy, Full}
use Rattle.bridge_config.specs.declared.ports.PortPlan.{PortPlan}
use Rattle.bridge_config.specs.Model.{Plan}
use Rattle.bridge_config.specs.Rules.{IsPlan, find_port}
use Rattle.bridge_check.specs.Acceptable.{HasAcceptableGroups}
use Rattle.bridge_check.specs.Reach.{reaches_queue}
use Rattle.bridge_semantics.specs.declared.destination.Destination.TheVariants as way
use Rattle.bridge_semantics.specs.Events.{Arrival, Arrived, Event, count_filter_frames, frame_destination}
use Rattle.bridge_semantics.specs.Groups.{IsGroupMember}
use Rattle.bridge_semantics.specs.Offers.{CarriedFrame}
use Rattle.bridge_semantics.specs.Runs.{AreFinished, IsRun}
use Rattle.bridge_groups.specs.Admission.{HasSufficientQueue}
use Rattle.bridge_groups.specs.Curves.{AreArrivalsInOrder}
use Rattle.bridge_groups.specs.Talkers.{AdmitsTalker, IsConformingTalker, IsDelivered}
use Rattle.bridge_groups.proofs.Delivered.{own_copy, starts}
use Rattle.bridge_groups.proofs.SharedRuns.{in_time, not_full}

module _ {A : Type 0} (p : Plan A) (group : ℕ) (plan : IsPlan p) (is : HasAcceptableGroups p) where
  pub leaves : (n m most burst rate q set : ℕ) (f : FilterPlan) (out : PortPlan A) (a : Arrival) (newer older : List Event) (c : FilterInput) (moments : ℕ → ℕ) (lists : ℕ → List (Copy CarriedFrame)) (enough : (k : ℕ) → reaches_queue p f q k ≡ true → HasSufficientQueue p group q k)
      → IsGroupMember p group n f → AdmitsTalker p f m most burst rate → IsRun p (newer ++ Arrived a ∷ older) moments lists → AreFinished lists → AreArrivalsInOrder (newer ++ Arrived a ∷ older) → IsConformingTalker p n most burst rate (newer ++ Arrived a ∷ older)
      → frame_destination p a ≡ way.Forwarded set c → frame_filter p.filters c ≡ Some (n, f) → has_port set q ≡ true → find_port p.ports q ≡ Some out
      → (k : ℕ) × (reach : reaches_queue p f q k ≡ true) × (d : IsDelivered out (lists q) a n (count_filter_frames p n older + 1) (enough k reach).row.bound) × (d.copy.class ≡ k) × (a.at ≤ d.start)
  leaves n m most burst rate q set f out a newer older c moments lists enough member lets run whole order keeps goes fl sent at =
      let es : List Event = newer ++ Arrived a ∷ older in
      let own = own_copy p group plan is n m most burst rate q set f out a newer older c moments lists member lets run order keeps goes fl sent at in
      let x = own.copy in
      let queue = enough x.class own.reach in
      let row = queue.is_row in
      let here : IsMember x (lists queue.row.port) = subst (λ (k : ℕ). IsMember x (lists k)) (sym row.port_is) own.listed in
      let free : x.fate ≡ Full → ⊥ = not_full p queue.row row.is plan is es moments lists run whole order queue.room x queue.known queue.enough here (sym row.class_is) in
      let (s, started, late) = starts p group plan is n q f out es moments lists x member run whole at own.listed own.flow own.reach free in
      let done = in_time p queue.row row.is plan is es moments lists run whole order s x here (sym row.class_is) started in
      let port : row.is.out ≡ out = same_Some row.is.out out (sym row.is.at ∙ (ap (find_port p.ports) row.port_is ∙ at)) in
      let in_bound : s + transmission_time x.item.len out.speed ≤ x.at + queue.row.bound = subst (λ (o : PortPlan A). s + transmission_time x.item.len o.speed ≤ x.at + queue.row.bound) port done in
      let came = own.at in
      (x.class, own.reach, record { copy = x; start = s; listed = own.listed; at = came; len = own.len; flow = own.flow; own = own.own; started = started; done = omega (arith, in_bound, came) }, refl, omega (arith, late, came))
