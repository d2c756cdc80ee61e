-- Talkers that keep a row of traffic conform to its burst and its rate.
use Rattle.std.proofs.Common.{◌≡◌, ◌<◌, ◌≤◌, ◌*◌, ℕ, true, Option, None, Some, List, [], ◌∷◌, ◌++◌, refl, subst, arith}
use Rattle.std.proofs.lemmas.Bool.{both_ways, eqb-true}
use Rattle.std.proofs.lemmas.Grind.{div_ceil_times}
use Rattle.bridge_limits.specs.Members.{IsMember}
use Rattle.bridge_limits.proofs.Cases.{by_bool}
use Rattle.bridge_limits.proofs.Orders.{same_eq}
use Rattle.bridge_meter.specs.Colours.{octet_units}
use Rattle.bridge_filter.specs.declared.FilterInput.{FilterInput}
use Rattle.bridge_filter.specs.declared.FilterPlan.{FilterPlan}
use Rattle.bridge_filter.specs.OwnEvents.{is_filter_number}
use Rattle.bridge_filter.specs.Verdicts.{frame_filter}
use Rattle.bridge_filter.proofs.Members.{one_number}
use Rattle.bridge_filter.proofs.Owned.{flow_listed}
use Rattle.bridge_groups.specs.TalkerFrames.{HasFrameLimit, SentFrame, recent_sent_octets}
use Rattle.bridge_groups.proofs.TalkerFrames.{few_conform}
use Rattle.bridge_config.specs.Model.{Plan}
use Rattle.bridge_config.specs.Rules.{IsPlan}
use Rattle.bridge_semantics.specs.Events.{Arrival, Arrived, Cleared, Event, arrival_filter, arrival_input, frame_destination, input_filter, metered_octets}
use Rattle.bridge_bounds.specs.Passing.{longest_sdu}
use Rattle.bridge_bounds.proofs.Passed.{octets_rise, seen_by}
use Rattle.bridge_groups.specs.Talkers.{IsConformingTalker, recent_own_octets}
use Rattle.net_file.specs.declared.limited_row.FrameLimit.{FrameLimit}
use Rattle.net_file.specs.declared.limited_row.FrameLimit.TheVariants as limit
use Rattle.net_file.specs.declared.limited_row.LimitedRow.{LimitedRow}
use Rattle.net_file.specs.LimitedRows.{IsFrameLimit}
use Rattle.net_latency.specs.LimitedTraffic.{AreRowFrames, IsRowFrame, KeepsLimit, KeepsRate, KeepsRow, limit_burst, limit_rate, sent_frames}

-- BURST AND RATE

count_keeps : (frames longest period : ℕ) (xs : List SentFrame) → 0 < period → HasFrameLimit frames (metered_octets longest) period xs → KeepsRate (limit_burst (limit.Count frames period) longest) (limit_rate (limit.Count frames period) longest) xs
count_keeps frames longest period [] some few = tt
count_keeps frames longest period (x ∷ xs) some few =
    let gives = (div_ceil_times (metered_octets longest * frames * octet_units) period some).0 in
    ((λ u w at. few_conform frames (metered_octets longest) period (limit_rate (limit.Count frames period) longest) octet_units u w x xs some few gives at), count_keeps frames longest period xs some few.3)

-- Frames that keep a limit keep its burst and its rate.
pub keeps_rate : (l : FrameLimit) (longest : ℕ) (xs : List SentFrame) → IsFrameLimit l → KeepsLimit l longest xs → KeepsRate (limit_burst l longest) (limit_rate l longest) xs
keeps_rate (limit.Rate burst rate) longest xs is keeps = keeps
keeps_rate (limit.Count frames period) longest xs is keeps = let some = is.some_time in count_keeps frames longest period xs (omega (arith, some)) keeps

-- THE FRAMES OF A FILTER

same_octets : {A : Type 0} (p : Plan A) (n u : ℕ) (es : List Event) → recent_own_octets p n u es ≡ recent_sent_octets u (sent_frames p n es)
same_octets p n u [] = refl
same_octets p n u (Arrived a ∷ es) =
    let rest = same_octets p n u es in
    by_bool (is_filter_number n (arrival_filter p a)) (λ k. rw (k, rest) refl) (λ k. rw k (omega (arith, rest)))
same_octets p n u (Cleared c k ∷ es) = same_octets p n u es

-- The filter of an own frame, by its input.
own_filter : {A : Type 0} (p : Plan A) (n : ℕ) (f : FilterPlan) (c : FilterInput) (o : Option (ℕ × FilterPlan)) → IsPlan p → IsMember (n, f) p.filters → frame_filter p.filters c ≡ o → is_filter_number n o ≡ true → frame_filter p.filters c ≡ Some (n, f)
own_filter p n f c None plan listed is own = absurd (cc)
own_filter p n f c (Some x) plan listed is own =
    let number : x.0 ≡ n = eqb-true x.0 n own in
    let there : IsMember (n, x.1) p.filters = subst (λ (i : ℕ). IsMember (i, x.1) p.filters) number (flow_listed p.filters c x is) in
    let same : x.1 ≡ f = one_number p.filters n x.1 f plan.filters.own there listed in
    subst (λ (g : FilterPlan). frame_filter p.filters c ≡ Some (n, g)) same (subst (λ (i : ℕ). frame_filter p.filters c ≡ Some (i, x.1)) number is)

module _ {A : Type 0} (p : Plan A) (r : LimitedRow) (f : FilterPlan) (plan : IsPlan p) (listed : IsMember (r.filter, f) p.filters) where
  -- The service data unit of an own frame.
  short : (a : Arrival) (c : FilterInput) → arrival_input p a ≡ Some c → is_filter_number r.filter (arrival_filter p a) ≡ true → a.len ≤ r.longest → c.sdu ≤ longest_sdu p f.handle r.longest
  short a c called own upto =
      let asked : is_filter_number r.filter (frame_filter p.filters c) ≡ true = subst (λ (o : Option FilterInput). is_filter_number r.filter (input_filter p o) ≡ true) called own in
      let flows = own_filter p r.filter f c (frame_filter p.filters c) plan listed refl asked in
      let seen = seen_by p r.filter f a c (frame_destination p a) refl called flows in
      let few = seen.few in
      let rise = octets_rise p f.handle a.len r.longest upto in
      omega (arith, few, rise)

  conforms : (burst rate : ℕ) (es : List Event) → AreRowFrames p r es → KeepsRate burst rate (sent_frames p r.filter es) → IsConformingTalker p r.filter (longest_sdu p f.handle r.longest) burst rate es
  conforms burst rate [] frames keeps = tt
  conforms burst rate (Cleared c k ∷ es) frames keeps = conforms burst rate es frames keeps
  conforms burst rate (Arrived a ∷ es) (form, frames) keeps = by_bool (is_filter_number r.filter (arrival_filter p a))
      (λ k.
      let all : KeepsRate burst rate (record { at = a.at; octets = metered_octets a.len } ∷ sent_frames p r.filter es) = rw k at keeps in
      let allowed = form k in (
        (λ own. record {
          form = λ c called. (allowed.dei c called, short a c called k allowed.longest);
          octets = λ u w at.
              let sent = all.0 u w at in
              let same = same_octets p r.filter u es in
              rw (k, same) sent;
        }),
        conforms burst rate es frames all.1,
      ))
      (λ k.
      let rest : KeepsRate burst rate (sent_frames p r.filter es) = rw k at keeps in
      ((λ own. absurd (both_ways _ k own)), conforms burst rate es frames rest))

  -- A talker that keeps the row conforms.
  pub row_conforms : (es : List Event) → IsFrameLimit r.limit → KeepsRow p r es → IsConformingTalker p r.filter (longest_sdu p f.handle r.longest) (limit_burst r.limit r.longest) (limit_rate r.limit r.longest) es
  row_conforms es is keeps = conforms (limit_burst r.limit r.longest) (limit_rate r.limit r.longest) es keeps.frames (keeps_rate r.limit r.longest (sent_frames p r.filter es) is keeps.limit)

  -- Each own frame is allowed by the row.
  pub frame_allowed : (newer older : List Event) (a : Arrival) (c : FilterInput) → arrival_input p a ≡ Some c → frame_filter p.filters c ≡ Some (r.filter, f) → AreRowFrames p r (newer ++ Arrived a ∷ older) → IsRowFrame p r a
  frame_allowed [] older a c called flows (form, frames) = form (rw (called, flows) (same_eq r.filter))
  frame_allowed (Arrived b ∷ newer) older a c called flows (form, frames) = frame_allowed newer older a c called flows frames
  frame_allowed (Cleared k m ∷ newer) older a c called flows frames = frame_allowed newer older a c called flows frames
