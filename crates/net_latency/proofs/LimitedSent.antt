-- Frames of a talker that keeps a passing row pass, and are sent within the row's delays.
use Rattle.std.proofs.Common.{◌≡◌, ◌≤◌, ◌+◌, ℕ, true, Option, None, Some, List, [], ◌∷◌, ◌++◌, refl, inl, sym, subst, arith, ap, ◌∙◌}
use Rattle.std.specs.Prelude.{min, nat_eq, not, ◌&&◌}
use Rattle.std.specs.List.{list_all}
use Rattle.std.specs.Map.{lookup}
use Rattle.std.proofs.lemmas.Bool.{and_from, and_parts}
use Rattle.std.proofs.lemmas.Bool.Decides.{nat_tests}
use Rattle.std.proofs.lemmas.Option.{same_Some}
use Rattle.bridge_limits.specs.Members.{IsMember}
use Rattle.bridge_limits.proofs.Members as members
use Rattle.bridge_limits.proofs.Orders.{same_eq}
use Rattle.bridge_frame.specs.Link.{transmission_time}
use Rattle.bridge_forward.specs.Ports.{has_port}
use Rattle.bridge_filter.specs.declared.FilterInput.{FilterInput}
use Rattle.bridge_filter.specs.declared.FilterPlan.{FilterPlan}
use Rattle.bridge_filter.specs.Verdicts.{frame_filter}
use Rattle.bridge_filter.proofs.Members.{member_found}
use Rattle.bridge_port.specs.Schedule.{Copy}
use Rattle.bridge_config.specs.Model.{Plan}
use Rattle.bridge_config.specs.declared.ports.PortPlan.{PortPlan}
use Rattle.bridge_config.specs.Rules.{IsPlan, find_port}
use Rattle.bridge_config.proofs.PlanPorts.{number_is}
use Rattle.bridge_check.specs.Acceptable.{HasAcceptableGroups}
use Rattle.bridge_check.specs.Faults.{is_in_group}
use Rattle.bridge_check.specs.Reach.{reaches_queue}
use Rattle.bridge_check.proofs.Isolated.{class_few}
use Rattle.bridge_semantics.specs.declared.destination.Destination.TheVariants as way
use Rattle.bridge_semantics.specs.declared.outcome.Outcome.{Outcome}
use Rattle.bridge_semantics.specs.declared.outcome.View.{View}
use Rattle.bridge_semantics.specs.Events.{Arrival, Arrived, Event, count_filter_frames, destination_input, frame_destination}
use Rattle.bridge_semantics.specs.Groups.{IsGroupMember}
use Rattle.bridge_semantics.specs.Offers.{CarriedFrame}
use Rattle.bridge_semantics.specs.Runs.{AreFinished, IsOutcome, IsRun}
use Rattle.bridge_semantics.proofs.Grouped.{apart}
use Rattle.bridge_bounds.specs.Passing.{longest_sdu, passes}
use Rattle.bridge_bounds.proofs.Sizes.{occupied_rises}
use Rattle.bridge_groups.specs.Admission.{HasSufficientQueue}
use Rattle.bridge_groups.specs.Curves.{AreArrivalsInOrder}
use Rattle.bridge_groups.specs.GroupRows.{AreSharedQueues}
use Rattle.bridge_groups.specs.SharedQueues.{IsRowOf}
use Rattle.bridge_groups.specs.Talkers.{AdmitsTalker, IsDelivered}
use Rattle.bridge_groups.specs.declared.shared_queues.SharedQueue.{SharedQueue}
use Rattle.bridge_groups.proofs.Admitting.{admits}
use Rattle.bridge_groups.proofs.Leaving.{leaves}
use Rattle.bridge_groups.proofs.Passing.{all_pass}
use Rattle.net_file.specs.declared.limited_row.LimitedRow.{LimitedRow}
use Rattle.net_file.specs.LimitedRows.{IsLimitedRow}
use Rattle.net_latency.specs.SharedLines.{is_lossy}
use Rattle.net_latency.specs.declared.timings.QueueTiming.{QueueTiming}
use Rattle.net_latency.specs.LimitedTraffic.{AreLimitedTimings, IsLimitedTiming, IsSentFrame, KeepsRow, admits_row, are_passing, limit_burst, limit_rate, shares_queue}
use Rattle.net_latency.proofs.Conforming.{frame_allowed, row_conforms}
use Rattle.net_latency.proofs.LimitedRows.{timing_for, timing_of}

-- A queue that isn't lossy has a capacity that suffices.
sufficient : (room : Option ℕ) (capacity : ℕ) → not (is_lossy room capacity) ≡ true → (n : ℕ) × (room ≡ Some n) × (n ≤ capacity)
sufficient None capacity h = absurd (cc)
sufficient (Some n) capacity h = (n, refl, (let upto : n ≤ capacity = grind (arith, nat_tests) in upto))

-- A row that passes has at least one line, and passes in each.
passing_line : (xs : List QueueTiming) → are_passing xs ≡ true → (x : QueueTiming) × IsMember x xs × (list_all (λ (y : QueueTiming). y.passes) xs ≡ true)
passing_line [] h = absurd (cc)
passing_line (x ∷ xs) h = (x, inl refl, h)

module _ {A : Type 0} (p : Plan A) (group : ℕ) (f : FilterPlan) (r : LimitedRow) (plan : IsPlan p) (good : HasAcceptableGroups p) (member : IsGroupMember p group r.filter f) (row : IsLimitedRow r) where
  known : lookup (nat_eq r.filter) p.filters ≡ Some f
  known = member_found p.filters r.filter f plan.filters.own member.listed

  -- If a line passes, the filter admits the talker.
  admitted : (index : ℕ) (s : SharedQueue) (x : QueueTiming) → IsLimitedTiming p index r s x → x.passes ≡ true → (m : ℕ) × AdmitsTalker p f m (longest_sdu p f.handle r.longest) (limit_burst r.limit r.longest) (limit_rate r.limit r.longest)
  admitted index s x is pass =
      let both : (admits_row p r (lookup (nat_eq r.filter) p.filters) && not (is_lossy s.room s.capacity)) ≡ true = sym is.passes ∙ pass in
      let (first, second) = and_parts (admits_row p r (lookup (nat_eq r.filter) p.filters)) (not (is_lossy s.room s.capacity)) both in
      let tested : admits_row p r (Some f) ≡ true = subst (λ (o : Option FilterPlan). admits_row p r o ≡ true) known first in
      admits p f (longest_sdu p f.handle r.longest) (limit_burst r.limit r.longest) (limit_rate r.limit r.longest) plan tested

  pub row_passes : (index : ℕ) (s : SharedQueue) (x : QueueTiming) (es : List Event) (lists : ℕ → List (Copy CarriedFrame)) (o : Outcome A) (v : View A) → IsLimitedTiming p index r s x → x.passes ≡ true → IsOutcome p es lists o → lookup (nat_eq r.filter) o.filters.items ≡ Some v → AreArrivalsInOrder es → KeepsRow p r es → list_all passes v.verdicts.items ≡ true
  row_passes index s x es lists o v is pass out found order keeps =
      let (m, lets) = admitted index s x is pass in
      let all = all_pass p r.filter m (longest_sdu p f.handle r.longest) (limit_burst r.limit r.longest) (limit_rate r.limit r.longest) f (apart p group plan good r.filter f member) lets es order (row_conforms p r f plan member.listed es row.limit keeps) in
      let view = out.views r.filter f v known found in
      rw view.verdicts all

  -- A shared queue that the row's filter can reach, with the delays of its line.
  record IsFoundQueue (index q k : ℕ) (xs : List QueueTiming) : Type 0 where
    queue : SharedQueue
    is_row : IsRowOf p group q k queue
    timing : QueueTiming
    listed : IsMember timing xs
    is : IsLimitedTiming p index r queue timing

  find_queue : (index q k : ℕ) (out : PortPlan A) (shared : List SharedQueue) (xs : List QueueTiming) → AreSharedQueues p shared → AreLimitedTimings p index r shared xs → find_port p.ports q ≡ Some out → reaches_queue p f q k ≡ true → IsFoundQueue index q k xs
  find_queue index q k out shared xs are timings at reach =
      let (from, to) = number_is p.ports q out plan.ports at in
      let class = class_few p f q k out plan at reach in
      let (s, i, is) = are.all group q k from to class (record { number = r.filter; filter = f; member = member; reaches = reach }) in
      let grouped : is_in_group group f.group ≡ true = rw member.grouped (same_eq group) in
      let own : is_in_group s.group f.group ≡ true = subst (λ (g : ℕ). is_in_group g f.group ≡ true) (sym is.group_is) grouped in
      let there : reaches_queue p f s.port s.class ≡ true = subst (λ (c : ℕ). reaches_queue p f s.port c ≡ true) (sym is.class_is) (subst (λ (n : ℕ). reaches_queue p f n k ≡ true) (sym is.port_is) reach) in
      let both : shares_queue p s (Some f) ≡ true = and_from _ _ own there in
      let shares : shares_queue p s (lookup (nat_eq r.filter) p.filters) ≡ true = subst (λ (o : Option FilterPlan). shares_queue p s o ≡ true) (sym known) both in
      let (x, j, timing) = timing_for p index r s shared xs timings i shares in
      record { queue = s; is_row = is; timing = x; listed = j; is = timing }

  -- The queue of a line that passes has enough capacity.
  enough_by : (index q k : ℕ) (xs : List QueueTiming) → list_all (λ (y : QueueTiming). y.passes) xs ≡ true → IsFoundQueue index q k xs → HasSufficientQueue p group q k
  enough_by index q k xs all e =
      let pass : e.timing.passes ≡ true = members.each_passes (λ (y : QueueTiming). y.passes) xs e.timing all e.listed in
      let both : (admits_row p r (lookup (nat_eq r.filter) p.filters) && not (is_lossy e.queue.room e.queue.capacity)) ≡ true = sym e.is.passes ∙ pass in
      let room = sufficient e.queue.room e.queue.capacity (and_parts (admits_row p r (lookup (nat_eq r.filter) p.filters)) (not (is_lossy e.queue.room e.queue.capacity)) both).1 in
      record { row = e.queue; is_row = e.is_row; room = room.0; known = room.1; enough = room.2 }

  -- A frame that leaves a found queue within its bound is sent within the delays of the queue's line.
  sent_by : (index q k : ℕ) (xs : List QueueTiming) (out : PortPlan A) (a : Arrival) (number : ℕ) (copies : List (Copy CarriedFrame)) (e : IsFoundQueue index q k xs) (d : IsDelivered out copies a r.filter number e.queue.bound) → d.copy.class ≡ k → a.at ≤ d.start → r.least ≤ a.len → find_port p.ports q ≡ Some out
      → (x : QueueTiming) × (y : Copy CarriedFrame) × IsMember x xs × IsMember y copies × (x.port ≡ q) × IsSentFrame out a r.filter number x y
  sent_by index q k xs out a number copies e d class_is late least at =
      let x = e.timing in
      let port : x.port ≡ q = e.is.port ∙ e.is_row.port_is in
      let class : d.copy.class ≡ x.class = class_is ∙ (sym e.is_row.class_is ∙ sym e.is.class) in
      let same_port : e.is.out ≡ out = same_Some e.is.out out (sym e.is.at ∙ (ap (find_port p.ports) e.is_row.port_is ∙ at)) in
      let best : x.timing.best ≡ min (transmission_time r.least out.speed) e.queue.bound = e.is.best ∙ ap (λ (o : PortPlan A). min (transmission_time r.least o.speed) e.queue.bound) same_port in
      let len : d.copy.item.len ≡ a.len = d.len in
      let rise : transmission_time r.least out.speed ≤ transmission_time d.copy.item.len out.speed = occupied_rises r.least d.copy.item.len out.speed (omega (arith, least, len)) in
      let came : d.copy.at ≡ a.at = d.at in
      let done : d.start + transmission_time d.copy.item.len out.speed ≤ a.at + e.queue.bound = d.done in
      let worst : x.timing.worst ≡ e.queue.bound = e.is.worst in
      let not_sooner : d.copy.at + x.timing.best ≤ d.start + transmission_time d.copy.item.len out.speed = omega (arith, best, rise, came, late) in
      let not_later : d.start + transmission_time d.copy.item.len out.speed ≤ d.copy.at + x.timing.worst = omega (arith, done, came, worst) in (
        x,
        d.copy,
        e.listed,
        d.listed,
        port,
        record {
          at = came;
          len = len;
          flow = d.flow;
          own = d.own;
          class = class;
          start = d.start;
          started = d.started;
          times = record { best = not_sooner; worst = not_later };
        },
      )

  pub row_sent : (index q set : ℕ) (shared : List SharedQueue) (xs : List QueueTiming) (out : PortPlan A) (a : Arrival) (newer older : List Event) (c : FilterInput) (moments : ℕ → ℕ) (lists : ℕ → List (Copy CarriedFrame))
      → AreSharedQueues p shared → AreLimitedTimings p index r shared xs → are_passing xs ≡ true
      → IsRun p (newer ++ Arrived a ∷ older) moments lists → AreFinished lists → AreArrivalsInOrder (newer ++ Arrived a ∷ older) → KeepsRow p r (newer ++ Arrived a ∷ older)
      → frame_destination p a ≡ way.Forwarded set c → frame_filter p.filters c ≡ Some (r.filter, f) → has_port set q ≡ true → find_port p.ports q ≡ Some out
      → (x : QueueTiming) × (y : Copy CarriedFrame) × IsMember x xs × IsMember y (lists q) × (x.port ≡ q) × IsSentFrame out a r.filter (count_filter_frames p r.filter older + 1) x y
  unfolding enough_by
  row_sent index q set shared xs out a newer older c moments lists are timings passing run whole order keeps goes flows sent at =
      let es : List Event = newer ++ Arrived a ∷ older in
      let (z, first, all) = passing_line xs passing in
      let (s, line) = timing_of p index r z shared xs timings first in
      let (m, lets) = admitted index s z line (members.each_passes (λ (y : QueueTiming). y.passes) xs z all first) in
      let conforms = row_conforms p r f plan member.listed es row.limit keeps in
      let find : (k : ℕ) → reaches_queue p f q k ≡ true → IsFoundQueue index q k xs = λ k reach. find_queue index q k out shared xs are timings at reach in
      let (k, reach, d, class_is, late) = leaves p group plan good r.filter m (longest_sdu p f.handle r.longest) (limit_burst r.limit r.longest) (limit_rate r.limit r.longest) q set f out a newer older c moments lists (λ k reach. enough_by index q k xs all (find k reach)) member lets run whole order conforms goes flows sent at in
      let allowed = frame_allowed p r f plan member.listed newer older a c (ap destination_input goes) flows keeps.frames in
      sent_by index q k xs out a (count_filter_frames p r.filter older + 1) (lists q) (find k reach) d class_is late allowed.least at
