-- Rows with a frame limit: talkers that keep the row, grouped filters that admit such a talker, and delays in shared
-- queues.
use Rattle.std.specs.Prelude.{◌≡◌, ℕ, Bool, true, false, not, ◌+◌, ◌*◌, ◌≤◌, ◌&&◌, List, [], ◌∷◌, Option, None, Some, nat_eq, min, if◌then◌else◌}
use Rattle.std.specs.Int.{div_ceil}
use Rattle.std.specs.List.{list_all}
use Rattle.std.specs.Map.{lookup}
use Rattle.bridge_frame.specs.Link.{transmission_time}
use Rattle.bridge_meter.specs.Colours.{octet_units}
use Rattle.bridge_filter.specs.declared.FilterInput.{FilterInput}
use Rattle.bridge_filter.specs.declared.FilterPlan.{FilterPlan}
use Rattle.bridge_filter.specs.OwnEvents.{is_filter_number}
use Rattle.bridge_port.specs.Schedule.{Copy, Started}
use Rattle.bridge_groups.specs.TalkerFrames.{HasFrameLimit, SentFrame, recent_sent_octets}
use Rattle.bridge_config.specs.Model.{Plan}
use Rattle.bridge_config.specs.Rules.{find_port}
use Rattle.bridge_config.specs.declared.ports.PortPlan.{PortPlan}
use Rattle.bridge_semantics.specs.Events.{Arrival, Arrived, Cleared, Event, arrival_filter, arrival_input, metered_octets}
use Rattle.bridge_semantics.specs.Offers.{CarriedFrame}
use Rattle.bridge_bounds.specs.Passing.{longest_sdu}
use Rattle.bridge_bounds.specs.Timings.{IsDelayInBounds}
use Rattle.bridge_groups.specs.Admission.{admits_talker}
use Rattle.bridge_groups.specs.Sharers.{is_sharer}
use Rattle.bridge_groups.specs.declared.shared_queues.SharedQueue.{SharedQueue}
use Rattle.net_file.specs.declared.limited_row.FrameLimit.{FrameLimit}
use Rattle.net_file.specs.declared.limited_row.FrameLimit.TheVariants as limit
use Rattle.net_file.specs.declared.limited_row.LimitedRow.{LimitedRow}
use Rattle.net_latency.specs.SharedLines.{is_lossy}
use Rattle.net_latency.specs.Traffic.{Begins, IfElse}
use Rattle.net_latency.specs.declared.timings.QueueTiming.{QueueTiming}

-- TALKERS THAT KEEP A ROW

-- The frames of filter `n` among the events, newest first, with their metered octets.
abbrev pub sent_frames : {A : Type 0} → Plan A → ℕ → List Event → List SentFrame
sent_frames p n [] = []
sent_frames p n (Arrived a ∷ es) =
    if is_filter_number n (arrival_filter p a) then record { at = a.at; octets = metered_octets a.len } ∷ sent_frames p n es
    else sent_frames p n es
sent_frames p n (Cleared clear k ∷ es) = sent_frames p n es

-- Holds if frames keep a burst and a rate. In any `w` ns, their metered octets are at most the burst and the octets that the rate gives in
-- `w` ns.
abbrev pub KeepsRate : ℕ → ℕ → List SentFrame → Type 0
KeepsRate burst rate [] = Unit {0}
KeepsRate burst rate (x ∷ xs) = ((u w : ℕ) → x.at ≡ u + w → recent_sent_octets u (x ∷ xs) * octet_units ≤ burst * octet_units + rate * w) × KeepsRate burst rate xs

-- Holds if the frames `xs`, newest first, keep a limit. `longest` is the greatest length of a frame in octets.
abbrev pub KeepsLimit : FrameLimit → ℕ → List SentFrame → Type 0
KeepsLimit (limit.Rate burst rate) longest xs = KeepsRate burst rate xs
KeepsLimit (limit.Count frames period) longest xs = HasFrameLimit frames (metered_octets longest) period xs

-- Holds if frame `a` has a length that row `r` allows, and isn't drop eligible.
pub record IsRowFrame {A : Type 0} (p : Plan A) (r : LimitedRow) (a : Arrival) : Type 0 where
  pub least : r.least ≤ a.len
  pub longest : a.len ≤ r.longest
  pub dei : (c : FilterInput) → arrival_input p a ≡ Some c → c.dei ≡ false

-- Holds if each frame of the row's filter has a length that the row allows, and isn't drop eligible.
abbrev pub AreRowFrames : {A : Type 0} → Plan A → LimitedRow → List Event → Type 0
AreRowFrames p r [] = Unit {0}
AreRowFrames p r (Arrived a ∷ es) = (is_filter_number r.filter (arrival_filter p a) ≡ true → IsRowFrame p r a) × AreRowFrames p r es
AreRowFrames p r (Cleared clear k ∷ es) = AreRowFrames p r es

-- Holds if the frames of the row's filter keep the row: their lengths, their limit, and no frame is drop eligible.
pub record KeepsRow {A : Type 0} (p : Plan A) (r : LimitedRow) (es : List Event) : Type 0 where
  pub frames : AreRowFrames p r es
  pub limit : KeepsLimit r.limit r.longest (sent_frames p r.filter es)

-- BURST AND RATE

-- The largest burst, in metered octets, of a talker that keeps a limit with frames of at most `longest` octets.
abbrev pub limit_burst : FrameLimit → ℕ → ℕ
limit_burst (limit.Rate burst rate) longest = burst
limit_burst (limit.Count frames period) longest = metered_octets longest * frames

-- The least rate in bit/s, rounded up, that suffices for a talker that keeps a limit with frames of at most `longest`
-- octets.
abbrev pub limit_rate : FrameLimit → ℕ → ℕ
limit_rate (limit.Rate burst rate) longest = rate
limit_rate (limit.Count frames period) longest = div_ceil (metered_octets longest * frames * octet_units) period

-- DELAYS

-- True if the filter of row `r` passes each frame of the row's talker. False if the plan lacks the filter (`None`).
abbrev pub admits_row : {A : Type 0} → Plan A → LimitedRow → Option FilterPlan → Bool
admits_row p r None = false
admits_row p r (Some f) = admits_talker p f (longest_sdu p f.handle r.longest) (limit_burst r.limit r.longest) (limit_rate r.limit r.longest)

-- True if the optional filter is in the group of shared queue `s`, and its frames can enter this queue.
abbrev pub shares_queue : {A : Type 0} → Plan A → SharedQueue → Option FilterPlan → Bool
shares_queue p s None = false
shares_queue p s (Some f) = is_sharer p s.group s.port s.class f

-- Holds if `x` has the delays of row `r` in shared queue `s`. The worst delay is the queue's bound, and the best delay the transmission
-- time of the shortest frame, if it is less.
--
-- The row passes if its filter admits the talker, and the queue drops no copy as full.
pub record IsLimitedTiming {A : Type 0} (p : Plan A) (index : ℕ) (r : LimitedRow) (s : SharedQueue) (x : QueueTiming) : Type 0 where
  pub row : x.row ≡ index
  pub filter : x.filter ≡ r.filter
  pub port : x.port ≡ s.port
  pub class : x.class ≡ s.class
  pub deadline : x.deadline ≡ r.deadline
  pub out : PortPlan A
  pub at : find_port p.ports s.port ≡ Some out
  pub worst : x.timing.worst ≡ s.bound
  pub best : x.timing.best ≡ min (transmission_time r.least out.speed) s.bound
  pub phases : x.timing.phases ≡ None
  pub passes : x.passes ≡ (admits_row p r (lookup (nat_eq r.filter) p.filters) && not (is_lossy s.room s.capacity))

-- Holds if `xs` has the delays of row `r`, one item for each shared queue that frames of its filter can enter, in order.
abbrev pub AreLimitedTimings : {A : Type 0} → Plan A → ℕ → LimitedRow → List SharedQueue → List QueueTiming → Type 0
AreLimitedTimings p index r [] xs = xs ≡ []
AreLimitedTimings p index r (s ∷ ss) xs =
    IfElse (shares_queue p s (lookup (nat_eq r.filter) p.filters)) (Begins (IsLimitedTiming p index r s) (AreLimitedTimings p index r ss) xs) (AreLimitedTimings p index r ss xs)

-- True if a row has delays in at least one shared queue, and passes in each.
abbrev pub are_passing : List QueueTiming → Bool
are_passing [] = false
are_passing (x ∷ xs) = list_all (λ y. y.passes) (x ∷ xs)

-- Holds if copy `y` of frame `a`, which is frame `number` of filter `n`, is sent with a delay from `x.timing.best` to `x.timing.worst`.
pub record IsSentFrame {A : Type 0} (out : PortPlan A) (a : Arrival) (n number : ℕ) (x : QueueTiming) (y : Copy CarriedFrame) : Type 0 where
  pub at : y.at ≡ a.at
  pub len : y.item.len ≡ a.len
  pub flow : y.item.flow ≡ Some n
  pub own : y.item.own ≡ number
  pub class : y.class ≡ x.class
  pub start : ℕ
  pub started : y.fate ≡ Started start
  pub times : IsDelayInBounds out x.timing y start
