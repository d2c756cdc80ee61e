-- Runs of bridges whose inputs are the frames sent to them are a run of the network.
use Rattle.std.proofs.Common.{◌≡◌, ℕ, zero, suc, Bool, false, ◌+◌, ◌<◌, List, [], ◌∷◌, map, nat_eq, option_map, Option, Some, None, refl, sym, ap, ◌∙◌, subst, arith}
use Rattle.std.specs.Prelude.{All, slice_get, if◌then◌else◌}
use Rattle.std.proofs.lemmas.Bool.Decides.{nat_tests}
use Rattle.std.proofs.lemmas.List.Elements.{All-cons, All-head, All-nil, All-tail}
use Rattle.std.proofs.lemmas.Option.{slice_get-map, slice_get_within, same_Some}
use Rattle.bridge_limits.specs.Members.{IsMember, IsOrdered}
use Rattle.bridge_limits.specs.declared.TheConstants.{END_OF_TIME}
use Rattle.bridge_limits.proofs.Lists.{there_is}
use Rattle.bridge_capture.specs.Grammar.{CapturedFrame, IsCapture, AtEnd}
use Rattle.bridge_capture.specs.WrittenCapture.{written_text}
use Rattle.bridge_config.specs.declared.ports.PortPlan.{PortPlan}
use Rattle.bridge_config.specs.Model.{Plan}
use Rattle.bridge_config.specs.Rules.{IsPlan, find_port}
use Rattle.bridge_config.proofs.PlanPorts.{number_is}
use Rattle.bridge_semantics.specs.declared.outcome.Outcome.{Outcome}
use Rattle.bridge_semantics.specs.Merge.{Input, FollowsInput, commands_of, input_events, capture_inputs, inputs_by_rank, input_streams}
use Rattle.bridge_port.specs.Schedule.{Copy}
use Rattle.bridge_semantics.specs.Offers.{CarriedFrame}
use Rattle.bridge_semantics.specs.Outputs.{IsOutput}
use Rattle.bridge_semantics.specs.Runs.{IsOutcome}
use Rattle.bridge_core.specs.CaptureWriters.{FitsRecord}
use Rattle.bridge_core.proofs.Beginning.{covered}
use Rattle.bridge_config.proofs.Sorted.{rising_numbers}
use Rattle.net_model.specs.Networks.{IsNetwork, IsNetworkRun, Network, Sender, inputs_over_link, port_inputs, delayed_frame, external_inputs, sender}
use Rattle.net_run.specs.DelayedCapture.{delayed}
use Rattle.net_run.specs.BridgeRuns.{AreUpToDate, IsBridgeRun, IsCaptureOfFrames, RunsBridge, BridgeRunState, sent_capture}
use Rattle.net_run.specs.Rounds.{IsWithinLength}
use Rattle.net_run.proofs.Back.{IsEarly, read_back}
use Rattle.net_run.proofs.CapturedLengths.{each_within}
use Rattle.net_run.proofs.Over.{text_at}

-- DELAYED FRAMES

-- A delayed frame fits its record.
delayed_fits : (d : ℕ) (cs : List CapturedFrame) → All FitsRecord cs → All FitsRecord (map (delayed d) cs)
delayed_fits d [] fits = All-nil FitsRecord
delayed_fits d (c ∷ cs) fits =
    let one = All-head FitsRecord c cs fits in
    All-cons FitsRecord (delayed d c) (map (delayed d) cs)
    (record { seconds = omega arith; captured = one.captured; within = one.within; original = one.original })
    (delayed_fits d cs (All-tail FitsRecord c cs fits))

-- Before the end of time, the delay is exact.
delayed_later : (d : ℕ) (cs : List CapturedFrame) → All IsEarly (map (delayed d) cs) → map (delayed d) cs ≡ map (delayed_frame d) cs
delayed_later d [] early = refl
delayed_later d (c ∷ cs) early =
    let one : (delayed d c).time < END_OF_TIME = All-head IsEarly (delayed d c) (map (delayed d) cs) early in
    let moment : (delayed d c).time ≡ c.time + d = omega (arith, one) in
    let first : delayed d c ≡ delayed_frame d c = ap (λ (z : ℕ). record { time = z; len = c.len; octets = c.octets }) moment in
    let more = delayed_later d cs (All-tail IsEarly (delayed d c) (map (delayed d) cs) early) in
    ap (λ (z : CapturedFrame). z ∷ map (delayed d) cs) first ∙ ap (λ (z : List CapturedFrame). delayed_frame d c ∷ z) more

-- The frames read from a link's capture are the sent frames, delayed.
pub read_later : (d : ℕ) (cs fs : List CapturedFrame) → All FitsRecord cs → IsCapture (written_text (map (delayed d) cs)) fs AtEnd → fs ≡ map (delayed_frame d) cs
read_later d cs fs fits reads = let back = read_back (map (delayed d) cs) fs (delayed_fits d cs fits) reads in back.0 ∙ delayed_later d cs back.1

-- RUNS OF ALL BRIDGES

-- A bridge has run over its texts.
pub record Ran {A : Type 0} (x : BridgeRunState A) : Type 0 where
  pub outcome : Outcome A
  pub told : x.outcome ≡ Some outcome
  pub runs : RunsBridge x.plan x.ports x.commands x.texts x.taps outcome

-- All bridges have run.
abbrev pub AllRan : {A : Type 0} → List (BridgeRunState A) → Type 0
AllRan [] = Unit {0}
AllRan (x ∷ xs) = Ran x × AllRan xs

pub frames_in : {A : Type 0} (xs : List (BridgeRunState A)) → AllRan xs → ℕ → ℕ → List CapturedFrame
frames_in [] all b = λ q. []
frames_in (x ∷ xs) all zero = all.0.runs.frames
frames_in (x ∷ xs) all (suc b) = frames_in xs all.1 b

pub inputs_in : {A : Type 0} (xs : List (BridgeRunState A)) → AllRan xs → ℕ → List Input
inputs_in [] all b = []
inputs_in (x ∷ xs) all zero = all.0.runs.inputs
inputs_in (x ∷ xs) all (suc b) = inputs_in xs all.1 b

pub left_in : {A : Type 0} (xs : List (BridgeRunState A)) → AllRan xs → ℕ → ℕ → List CapturedFrame
left_in [] all b = λ q. []
left_in (x ∷ xs) all zero = all.0.runs.left
left_in (x ∷ xs) all (suc b) = left_in xs all.1 b

-- The run of a bridge.
pub record RanAt {A : Type 0} (xs : List (BridgeRunState A)) (all : AllRan xs) (b : ℕ) (x : BridgeRunState A) : Type 0 where
  pub ran : Ran x
  pub frames : frames_in xs all b ≡ ran.runs.frames
  pub inputs : inputs_in xs all b ≡ ran.runs.inputs
  pub left : left_in xs all b ≡ ran.runs.left

pub ran_at : {A : Type 0} (xs : List (BridgeRunState A)) (all : AllRan xs) (b : ℕ) (x : BridgeRunState A) → slice_get xs b ≡ Some x → RanAt xs all b x
unfolding frames_in inputs_in left_in
ran_at [] all b x is = absurd (cc)
ran_at {A} (y ∷ xs) all zero x is =
    let own : RanAt (y ∷ xs) all zero y = record { ran = all.0; frames = refl; inputs = refl; left = refl } in
    subst (RanAt (y ∷ xs) all zero) (same_Some y x is) own
ran_at (y ∷ xs) all (suc b) x is =
    let r = ran_at xs all.1 b x is in
    record { ran = r.ran; frames = r.frames; inputs = r.inputs; left = r.left }

-- The copies at the ports of a bridge.
pub lists_in : {A : Type 0} (xs : List (BridgeRunState A)) → AllRan xs → ℕ → ℕ → List (Copy CarriedFrame)
lists_in [] all b = λ q. []
lists_in (x ∷ xs) all zero = all.0.runs.ends.lists
lists_in (x ∷ xs) all (suc b) = lists_in xs all.1 b

outcome_in : {A : Type 0} (xs : List (BridgeRunState A)) (all : AllRan xs) (b : ℕ) (x : BridgeRunState A) (o : Outcome A) → slice_get xs b ≡ Some x → x.outcome ≡ Some o → IsOutcome x.plan (input_events (inputs_in xs all b)) (lists_in xs all b) o
unfolding inputs_in lists_in
outcome_in [] all b x o is told = absurd (cc)
outcome_in {A} (y ∷ xs) all zero x o is told =
    let own : all.0.outcome ≡ o = same_Some all.0.outcome o (sym all.0.told ∙ (ap (λ (z : BridgeRunState A). z.outcome) (same_Some y x is) ∙ told)) in
    subst (λ (z : BridgeRunState A). IsOutcome z.plan (input_events all.0.runs.inputs) all.0.runs.ends.lists o) (same_Some y x is)
    (subst (λ (z : Outcome A). IsOutcome y.plan (input_events all.0.runs.inputs) all.0.runs.ends.lists z) own all.0.runs.ends.outcome)
outcome_in (y ∷ xs) all (suc b) x o is told = outcome_in xs all.1 b x o is told

output_in : {A : Type 0} (xs : List (BridgeRunState A)) (all : AllRan xs) (b q : ℕ) (x : BridgeRunState A) (out : PortPlan A) → slice_get xs b ≡ Some x → find_port x.plan.ports q ≡ Some out → IsOutput out.speed (lists_in xs all b q) (left_in xs all b q)
unfolding lists_in left_in
output_in [] all b q x out is at = absurd (cc)
output_in {A} (y ∷ xs) all zero q x out is at = all.0.runs.ends.output q out (subst (λ (z : BridgeRunState A). find_port z.plan.ports q ≡ Some out) (sym (same_Some y x is)) at)
output_in (y ∷ xs) all (suc b) q x out is at = output_in xs all.1 b q x out is at

-- A NETWORK

-- The bridges of a network: their plans, and the senders of their ports.
pub record AreOf {A : Type 0} (n : Network A) (xs : List (BridgeRunState A)) : Type 0 where
  pub plans : n.bridges ≡ map (λ x. x.plan) xs
  pub kept : (b : ℕ) (x : BridgeRunState A) → slice_get xs b ≡ Some x → IsBridgeRun x
  pub senders : (b : ℕ) (x : BridgeRunState A) → slice_get xs b ≡ Some x → x.senders ≡ map (sender n.links b) x.ports

-- The bridge with a plan.
pub station_of : {A : Type 0} (n : Network A) (xs : List (BridgeRunState A)) (b : ℕ) (p : Plan A) → n.bridges ≡ map (λ x. x.plan) xs → slice_get n.bridges b ≡ Some p → (x : BridgeRunState A) × (slice_get xs b ≡ Some x) × (x.plan ≡ p)
station_of {A} n xs b p same is = go xs b (ap (λ (l : List (Plan A)). slice_get l b) (sym same) ∙ is)
  where
    go : (ys : List (BridgeRunState A)) (c : ℕ) → slice_get (map (λ (x : BridgeRunState A). x.plan) ys) c ≡ Some p → (x : BridgeRunState A) × (slice_get ys c ≡ Some x) × (x.plan ≡ p)
    go [] c e = absurd (cc)
    go (y ∷ ys) zero e = (y, refl, same_Some y.plan p e)
    go (y ∷ ys) (suc c) e = go ys c e

-- Port numbers are greater than 0.
port_above : {A : Type 0} (p : Plan A) (q : ℕ) (out : PortPlan A) → IsPlan p → find_port p.ports q ≡ Some out → nat_eq q 0 ≡ false
port_above p q out rules at = let from = (number_is p.ports q out rules.ports at).0 in grind (arith, nat_tests)

module _ {A : Type 0} (n : Network A) (commands : ℕ → List Input) (xs : List (BridgeRunState A)) (are : AreOf n xs) (asked : (b : ℕ) (x : BridgeRunState A) → slice_get xs b ≡ Some x → commands b ≡ commands_of x.commands) (all : AllRan xs) (fed : AreUpToDate xs) (network : IsNetwork n) where
  -- The frames that a bridge sent over a link are the frames of its capture.
  sent : (s : Sender) (b q : ℕ) → sender n.links b q ≡ Some s → IsCaptureOfFrames (left_in xs all s.from.bridge s.from.port) (sent_capture (slice_get xs s.from.bridge) s.from.port)
  sent s b q is =
      let sender_of = network.bridge b q s is in
      let at = station_of n xs s.from.bridge sender_of.0 are.plans sender_of.1 in
      let y = at.0 in
      let out = network.port b q s sender_of.0 is sender_of.1 in
      let station = are.kept s.from.bridge y at.1 in
      let place = covered y.plan y.ports s.from.port out.0 station.numbers (subst (λ (z : Plan A). find_port z.ports s.from.port ≡ Some out.0) (sym at.2) out.1) in
      let r = ran_at xs all s.from.bridge y at.1 in
      let within = slice_get_within y.ports place.0 s.from.port place.1 in
      let many = station.tapped r.ran.outcome r.ran.told in
      let tap = there_is y.taps place.0 (omega (arith, within, many)) in
      let written = r.ran.runs.written place.0 s.from.port tap.0 place.1 tap.1 in
      let beside = text_at y.ports y.taps place.0 s.from.port tap.0 (rising_numbers y.ports station.numbers.rises) place.1 tap.1 in
      let text : sent_capture (slice_get xs s.from.bridge) s.from.port ≡ tap.0 = ap (λ (o : Option (BridgeRunState A)). sent_capture o s.from.port) at.1 ∙ beside in
      subst (IsCaptureOfFrames (left_in xs all s.from.bridge s.from.port)) (sym text)
      (subst (λ (f : ℕ → List CapturedFrame). IsCaptureOfFrames (f s.from.port) tap.0) (sym r.left) written)

  -- The frames that arrived over a link are the sent frames, delayed.
  came : (b q : ℕ) (p : Plan A) (s : Sender) → slice_get n.bridges b ≡ Some p → sender n.links b q ≡ Some s → frames_in xs all b q ≡ map (delayed_frame s.delay) (left_in xs all s.from.bridge s.from.port)
  came b q p s plan is =
      let at = station_of n xs b p are.plans plan in
      let x = at.0 in
      let own = network.own b q s p is plan in
      let station = are.kept b x at.1 in
      let place = covered x.plan x.ports q own.0 station.numbers (subst (λ (z : Plan A). find_port z.ports q ≡ Some own.0) (sym at.2) own.1) in
      let within = slice_get_within x.ports place.0 q place.1 in
      let many = station.texts in
      let text = there_is x.texts place.0 (omega (arith, within, many)) in
      let r = ran_at xs all b x at.1 in
      let by : slice_get x.senders place.0 ≡ Some (Some s) =
      ap (λ (l : List (Option Sender)). slice_get l place.0) (are.senders b x at.1) ∙ (slice_get-map (sender n.links b) x.ports place.0 ∙ (ap (option_map (sender n.links b)) place.1 ∙ ap (λ (o : Option Sender). Some o) is)) in
      let tapped = sent s b q is in
      let is_later : text.0 ≡ written_text (map (delayed s.delay) (left_in xs all s.from.bridge s.from.port)) = fed b place.0 x at.1 within s text.0 by text.1 (left_in xs all s.from.bridge s.from.port) tapped in
      let reads = r.ran.runs.reads place.0 q text.0 place.1 text.1 in
      ap (λ (f : ℕ → List CapturedFrame). f q) r.frames ∙ read_later s.delay (left_in xs all s.from.bridge s.from.port) (r.ran.runs.frames q) tapped.fits (subst (λ (t : List ℕ). IsCapture t (r.ran.runs.frames q) AtEnd) is_later reads)

  -- The inputs of a port are the frames that were read there.
  comes_so : (b q : ℕ) (p : Plan A) (x : BridgeRunState A) (r : RanAt xs all b x) → slice_get n.bridges b ≡ Some p → slice_get xs b ≡ Some x → port_inputs n.links commands (frames_in xs all) (left_in xs all) b q ≡ input_streams (commands_of x.commands) r.ran.runs.frames q
  comes_so b q p x r plan is = go (sender n.links b q) refl
    where
      here : external_inputs commands (frames_in xs all) b q ≡ input_streams (commands_of x.commands) r.ran.runs.frames q
      here = ap (λ (l : List Input). if nat_eq q 0 then l else capture_inputs q (frames_in xs all b q)) (asked b x is) ∙ ap (λ (f : ℕ → List CapturedFrame). if nat_eq q 0 then commands_of x.commands else capture_inputs q (f q)) r.frames

      go : (o : Option Sender) → sender n.links b q ≡ o → port_inputs n.links commands (frames_in xs all) (left_in xs all) b q ≡ input_streams (commands_of x.commands) r.ran.runs.frames q
      go None e = ap (λ (o : Option Sender). inputs_over_link o (external_inputs commands (frames_in xs all) b q) (left_in xs all) q) e ∙ here
      go (Some s) e =
          let own = network.own b q s p e plan in
          let apart : nat_eq q 0 ≡ false = port_above p q own.0 (network.plan b p plan) own.1 in
          ap (λ (o : Option Sender). inputs_over_link o (external_inputs commands (frames_in xs all) b q) (left_in xs all) q) e
          ∙ (ap (capture_inputs q) (sym (came b q p s plan e))
          ∙ (ap (λ (f : ℕ → List CapturedFrame). capture_inputs q (f q)) r.frames
          ∙ sym (ap (λ (t : Bool). if t then commands_of x.commands else capture_inputs q (r.ran.runs.frames q)) apart)))

  -- All runs together are a run of the network.
  pub network_run : (o : ℕ → Outcome A) → ((b : ℕ) (x : BridgeRunState A) → slice_get xs b ≡ Some x → x.outcome ≡ Some (o b)) → IsNetworkRun n commands (frames_in xs all) o
  network_run o told = record {
    inputs = inputs_in xs all;
    left = left_in xs all;
    lists = lists_in xs all;
    merged = λ b p plan.
        let at = station_of n xs b p are.plans plan in
        let r = ran_at xs all b at.0 at.1 in
        record {
          in_order = subst (λ (l : List Input). IsOrdered FollowsInput l) (sym r.inputs) r.ran.runs.merged.in_order;
          each = λ q. ap (inputs_by_rank q) r.inputs ∙ (r.ran.runs.merged.each q ∙ sym (comes_so b q p at.0 r plan at.1));
        };
    outcome = λ b p plan.
        let at = station_of n xs b p are.plans plan in
        subst (λ (z : Plan A). IsOutcome z (input_events (inputs_in xs all b)) (lists_in xs all b) (o b)) at.2 (outcome_in xs all b at.0 (o b) at.1 (told b at.0 at.1));
    output = λ b q p out plan there_is.
        let at = station_of n xs b p are.plans plan in
        output_in xs all b q at.0 out at.1 (subst (λ (z : Plan A). find_port z.ports q ≡ Some out) (sym at.2) there_is);
  }

  -- The frames of an open port are the frames of its text.
  pub open_read : (b i q : ℕ) (x : BridgeRunState A) (text : List ℕ) → slice_get xs b ≡ Some x → slice_get x.ports i ≡ Some q → slice_get x.texts i ≡ Some text → IsCapture text (frames_in xs all b q) AtEnd
  open_read b i q x text is at text_is =
      let r = ran_at xs all b x is in
      subst (λ (f : ℕ → List CapturedFrame). IsCapture text (f q) AtEnd) (sym r.frames) (r.ran.runs.reads i q text at text_is)

  -- A missing port has no frames.
  pub none_read : (b q : ℕ) (p : Plan A) → slice_get n.bridges b ≡ Some p → find_port p.ports q ≡ None → frames_in xs all b q ≡ []
  none_read b q p plan none =
      let at = station_of n xs b p are.plans plan in
      let r = ran_at xs all b at.0 at.1 in
      ap (λ (f : ℕ → List CapturedFrame). f q) r.frames ∙ r.ran.runs.others q (subst (λ (z : Plan A). find_port z.ports q ≡ None) (sym at.2) none)

  -- A sent capture has the frames that left its port.
  pub tap_read : (b i q : ℕ) (x : BridgeRunState A) (tap : List ℕ) → slice_get xs b ≡ Some x → slice_get x.ports i ≡ Some q → slice_get x.taps i ≡ Some tap → tap ≡ written_text (left_in xs all b q)
  tap_read b i q x tap is at tap_is =
      let r = ran_at xs all b x is in
      (r.ran.runs.written i q tap at tap_is).is ∙ ap (λ (f : ℕ → List CapturedFrame). written_text (f q)) (sym r.left)

  -- No frame that a bridge received is longer in its capture than on the link.
  pub lengths_there : (o : ℕ → Outcome A) (told : (b : ℕ) (x : BridgeRunState A) → slice_get xs b ≡ Some x → x.outcome ≡ Some (o b)) (b : ℕ) (p : Plan A) (y : Input) → slice_get n.bridges b ≡ Some p → IsMember y ((network_run o told).inputs b) → IsWithinLength y.event
  unfolding network_run
  lengths_there o told b p y plan listed =
      let at = station_of n xs b p are.plans plan in
      let x = at.0 in
      let station = are.kept b x at.1 in
      let r = ran_at xs all b x at.1 in
      let runs = r.ran.runs in
      each_within x.plan x.commands runs.frames runs.inputs
      (λ q out is.
      let place = covered x.plan x.ports q out station.numbers is in
      let within = slice_get_within x.ports place.0 q place.1 in
      let many = station.texts in
      let text = there_is x.texts place.0 (omega (arith, within, many)) in
      (text.0, runs.reads place.0 q text.0 place.1 text.1))
      runs.others runs.merged y (subst (IsMember y) r.inputs listed)

  -- The frames that left a port in the network run.
  pub left_there : (o : ℕ → Outcome A) (told : (b : ℕ) (x : BridgeRunState A) → slice_get xs b ≡ Some x → x.outcome ≡ Some (o b)) (b q : ℕ) → (network_run o told).left b q ≡ left_in xs all b q
  unfolding network_run
  left_there o told b q = refl
