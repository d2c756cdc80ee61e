-- How a run of captures begins, ends and stops.
use Rattle.std.proofs.Common.{◌≡◌, ℕ, suc, Bool, ◌≤◌, List, [], ◌∷◌, length, map, nat_eq, slice_get, arith, refl, ap, sym, subst, ◌∙◌, inl, inr, Option, Some, None, Result, Ok, Err}
use Rattle.std.specs.Prelude.{IfOk, IfSome}
use Rattle.std.proofs.lemmas.List.{length-map}
use Rattle.std.proofs.lemmas.List.Sorted.{length_permutation}
use Rattle.bridge_limits.specs.declared.TheConstants.{MAX_ARRIVALS}
use Rattle.bridge_limits.proofs.Cases.{by_bool}
use Rattle.bridge_capture.specs.Grammar.{CapturedFrame}
use Rattle.bridge_capture.specs.declared.packet.Packet.{Packet}
use Rattle.bridge_config.proofs.PlanPorts.{number_is}
use Rattle.bridge_config.specs.declared.command.Command.{Command}
use Rattle.bridge_config.specs.declared.ports.PortPlan.{PortPlan}
use Rattle.bridge_config.specs.Model.{Plan}
use Rattle.bridge_config.specs.Rules.{IsPlan, find_port}
use Rattle.bridge_capture.specs.declared.fault.RunFault.{RunFault}
use Rattle.bridge_capture.specs.declared.fault.RunFault.TheVariants as run
use Rattle.bridge_check.specs.Acceptable.{HasAcceptableGroups, IsAcceptable}
use Rattle.bridge_relay.specs.RelayState.{RelayState, RelayStandsFor}
use Rattle.bridge_semantics.specs.declared.outcome.Outcome.{Outcome}
use Rattle.bridge_semantics.specs.Events.{Event}
use Rattle.bridge_semantics.specs.Merge.{Input, inputs_by_rank, commands_of, input_streams}
use Rattle.bridge_semantics.specs.Outputs.{EndsRun}
use Rattle.bridge_semantics.proofs.Headline.{protected_alone, two_runs}
use Rattle.bridge_semantics.proofs.Grouped as grouped
use Rattle.bridge_semantics.proofs.Merging.{group_ports, own_ports}
use Rattle.bridge_core.proofs.Beginning.{covered, gave_none, known}
use Rattle.bridge_config.proofs.Sorted.{rising_numbers}
use Rattle.bridge_core.proofs.Steps.{lane_at, number_at, source_of}
use Rattle.bridge_capture.specs.declared.capture_reader.CaptureReader.{CaptureReader}
use Rattle.bridge_capture.specs.CaptureReaders.{AreOneAhead, AreReaders, HaveRests, HaveTexts, FailsToBegin, FindsNext, port_numbers, total_frames_left}
use Rattle.bridge_capture.proofs.Looks.{untaken, begins_well}
use Rattle.bridge_core.specs.CaptureWriters.{AreWritten, StopsAtHeaders}
use Rattle.bridge_core.specs.WholeRuns.{ArePortNumbers, HaveSoundStarts, IsolatesFilters, IsolatesGroups, OthersChangeNothing, IsWholeRun, StopsRun, LacksMemory}
use Rattle.bridge_capture.specs.declared.capture_fault.CaptureFault.{CaptureFault}
use Rattle.bridge_core.specs.Running.{IsCaptureFault, FollowsInputs, IsFinishedRun, IsUnderWay, CanTakeFrames, StopsInCommands}

-- A property of every result holds for a successful one.
pub each_ok : {X E : Type 0} (r : Result X E) (P : X → Type 0) → ((x : X) → P x) → IfOk r P
each_ok (Ok x) P each = each x
each_ok (Err e) P each = tt

-- There are as many numbers as ports.
pub ports_many : {A : Type 0} (p : Plan A) (ports : List ℕ) → ArePortNumbers p ports → length ports ≡ length p.ports
ports_many {A} p ports a =
    let number : PortPlan A → ℕ = λ q. q.number in
    length_permutation (map number p.ports) ports a.same ∙ length-map p.ports number

lanes_long : {A : Type 0} (lanes : List (CaptureReader A)) → length (port_numbers lanes) ≡ length lanes
lanes_long [] = refl
lanes_long (lane ∷ more) = ap suc (lanes_long more)

-- There are as many readers as ports.
pub lanes_many : {A : Type 0} (p : Plan A) (ports : List ℕ) (lanes : List (CaptureReader A)) (n : ℕ) → ArePortNumbers p ports → port_numbers lanes ≡ ports → n ≡ length p.ports → n ≡ length lanes
lanes_many p ports lanes n a same many = let x = ports_many p ports a in let y = lanes_long lanes in let z = ap length same in omega (arith, x, y, z, many)

-- The reader of a capture, and its next frame after the frames taken.
record FindsAt {A : Type 0} (lanes : List (CaptureReader A)) (text : List ℕ) (taken : List CapturedFrame) : Type 0 where
  place : ℕ
  lane : CaptureReader A
  there : slice_get lanes place ≡ Some lane
  finds : FindsNext text taken lane.ahead

finds_at : {R A : Type 0} (remaining : R → Option (List ℕ)) (p : Plan A) (ports : List ℕ) (texts : ℕ → List ℕ) (frames : ℕ → List CapturedFrame) (lanes : List (CaptureReader A)) (sources : List R) (q : ℕ) (out : PortPlan A) → ArePortNumbers p ports → port_numbers lanes ≡ ports → length sources ≡ length lanes → AreOneAhead remaining texts frames lanes sources → find_port p.ports q ≡ Some out → FindsAt lanes (texts q) (frames q)
finds_at remaining p ports texts frames lanes sources q out are same size ahead e =
    let at = covered p ports q out are e in
    let l = lane_at lanes at.0 q (subst (λ ns. slice_get ns at.0 ≡ Some q) (sym same) at.1) in
    let s = source_of lanes sources at.0 l.0 size l.1 in
    record {
      place = at.0;
      lane = l.0;
      there = l.1;
      finds = subst (λ (n : ℕ). FindsNext (texts n) (frames n) l.0.ahead) l.2 (ahead at.0 l.0 s.0 l.1 s.1).finds;
    }

-- A relay before any event can handle the frames of all readers.
pub may_take : {G A : Type 0} (p : Plan A) (b : RelayState G A) (ports : List ℕ) (lanes : List (CaptureReader A)) → IsPlan p → ArePortNumbers p ports → port_numbers lanes ≡ ports → b.plan ≡ p → b.arrived ≡ 0 → b.earliest ≡ 0 → AreReaders lanes → total_frames_left lanes ≤ MAX_ARRIVALS → CanTakeFrames b lanes
may_take {G} {A} p b ports lanes rules are same plan none early each few = record {
  each = each;
  from = λ i lane e. (let k = there i lane e in (number_is p.ports lane.number k.0 rules.ports k.1).0);
  known = λ i lane e. (let k = there i lane e in (k.0, subst (λ (z : Plan A). find_port z.ports lane.number ≡ Some k.0) (sym plan) k.1));
  onward = λ i lane c e a. omega (arith, early);
  few = omega (arith, none, few);
  rises = rising_numbers (port_numbers lanes) (subst (λ ns. ArePortNumbers p ns) (sym same) are).rises;
} where
  there : (i : ℕ) (lane : CaptureReader A) → slice_get lanes i ≡ Some lane → (out : PortPlan A) × (find_port p.ports lane.number ≡ Some out)
  there i lane e = known p ports i lane.number are (subst (λ ns. slice_get ns i ≡ Some lane.number) same (number_at lanes i lane e))

none_yet : (q : ℕ) → inputs_by_rank q [] ≡ input_streams [] (λ n. []) q
none_yet q = by_bool (nat_eq q 0) (λ e. rw e refl) (λ e. rw e refl)

follows_none : (next : Option Input) → IfSome next (λ c. FollowsInputs c [])
follows_none None = tt
follows_none (Some c) = tt

-- A run begins: no input is taken, and each reader has its first frame.
pub under_first : {R W G A : Type 0} (remaining : R → Option (List ℕ)) (contents : W → Option (List ℕ)) (p : Plan A) (ports : List ℕ) (texts : ℕ → List ℕ) (next : Option Input) (olds : List W) (b : RelayState G A) (lanes : List (CaptureReader A)) (sources : List R) (sinks : List W) → ArePortNumbers p ports → port_numbers lanes ≡ ports → length sources ≡ length lanes → AreOneAhead remaining texts (λ q. []) lanes sources → RelayStandsFor p b [] (λ q. []) → AreWritten contents ports olds sinks (λ q. []) → IsUnderWay remaining contents p texts [] next olds b lanes sources sinks
under_first {R} {W} {G} {A} remaining contents p ports texts next olds b lanes sources sinks are same size ahead stands written = record {
  frames = λ q. [];
  inputs = [];
  left = λ q. [];
  taken = record {
    gave = λ q out e. (let f = finds_at remaining p ports texts (λ n. []) lanes sources q out are same size ahead e in gave_none (texts q) f.lane.ahead f.finds);
    others = λ q e. refl;
    merged = record { in_order = tt; each = none_yet };
    commands = follows_none next;
  };
  ahead = ahead;
  follow = λ i lane c e a. tt;
  covered = λ q out e. subst (λ ns. (i : ℕ) × (slice_get ns i ≡ Some q)) (sym same) (covered p ports q out are e);
  stands = stands;
  late = omega arith;
  written = subst (λ ns. AreWritten contents ns olds sinks (λ q. [])) (sym same) written;
}

-- If each reader has its first frame, each capture has a valid start.
pub begin_well : {R A : Type 0} (remaining : R → Option (List ℕ)) (p : Plan A) (ports : List ℕ) (texts : ℕ → List ℕ) (lanes : List (CaptureReader A)) (sources : List R) → ArePortNumbers p ports → port_numbers lanes ≡ ports → length sources ≡ length lanes → AreOneAhead remaining texts (λ q. []) lanes sources → HaveSoundStarts p texts
begin_well remaining p ports texts lanes sources are same size ahead q out e = let f = finds_at remaining p ports texts (λ n. []) lanes sources q out are same size ahead e in begins_well (texts q) f.lane.ahead f.finds

-- A run that is through has handled all frames and commands.
pub has_run : {R W G A : Type 0} (remaining : R → Option (List ℕ)) (contents : W → Option (List ℕ)) (p : Plan A) (ports : List ℕ) (commands : List Command) (texts : ℕ → List ℕ) (olds : List W) (b : RelayState G A) (lanes : List (CaptureReader A)) (sources : List R) (sinks : List W) (o : Outcome A) → ArePortNumbers p ports → port_numbers lanes ≡ ports → length sources ≡ length lanes → IsFinishedRun remaining contents p texts commands olds b lanes sources sinks → ((es : List Event) (left : ℕ → List CapturedFrame) → RelayStandsFor p b es left → EndsRun p es left o) → IsWholeRun p ports commands texts contents olds sinks o
has_run {R} {W} {G} {A} remaining contents p ports commands texts olds b lanes sources sinks o are same size through ends =
    let u = through.under in
    record {
      frames = u.frames;
      inputs = u.inputs;
      left = u.left;
      reads = λ q out e. (
          let f = finds_at remaining p ports texts u.frames lanes sources q out are same size u.ahead e in
          subst (λ (x : Option (Packet A)). FindsNext (texts q) (u.frames q) x) (through.none f.place f.lane f.there) f.finds);
      others = u.taken.others;
      merged = u.taken.merged;
      ends = ends _ u.left u.stands;
      written = subst (λ ns. AreWritten contents ns olds sinks u.left) same u.written;
    }

-- The start of a capture is faulty.
pub stops_look : {A W : Type 0} (p : Plan A) (ports : List ℕ) (commands : List Command) (texts : ℕ → List ℕ) (rests : ℕ → Option (List ℕ)) (contents : W → Option (List ℕ)) (has_failed : W → Bool) (olds : List W) (fault : RunFault) → ((port : ℕ) (why : CaptureFault) → fault ≡ run.Capture port why → IsCaptureFault why) → FailsToBegin texts rests ports fault → StopsRun p ports commands texts rests contents has_failed olds olds fault
stops_look p ports commands texts rests contents has_failed olds (run.Capture port fault) own h = inl (record { own = own port fault refl; looks = h; untouched = refl })
stops_look p ports commands texts rests contents has_failed olds (run.Write port) own h = absurd h
stops_look p ports commands texts rests contents has_failed olds run.NoMemory own h = inl (record { looks = inl h; untouched = refl })

-- Memory ran out before any capture was read.
pub wants_first : {R A W : Type 0} (remaining : R → Option (List ℕ)) (p : Plan A) (ports : List ℕ) (texts : ℕ → List ℕ) (rests : ℕ → Option (List ℕ)) (sources : List R) (olds : List W) → ArePortNumbers p ports → length sources ≡ length p.ports → HaveTexts remaining ports texts sources → HaveRests remaining ports rests sources → LacksMemory p ports texts rests olds olds
wants_first remaining p ports texts rests sources olds are many read left = record { looks = inl (inl (untaken remaining ports texts rests sources (many ∙ sym (ports_many p ports are)) read left)); untouched = refl }

-- A header wasn't written.
pub stops_header : {A W : Type 0} (p : Plan A) (ports : List ℕ) (commands : List Command) (texts : ℕ → List ℕ) (rests : ℕ → Option (List ℕ)) (contents : W → Option (List ℕ)) (has_failed : W → Bool) (olds news : List W) (fault : RunFault) → HaveSoundStarts p texts → StopsAtHeaders contents has_failed ports olds news fault → StopsRun p ports commands texts rests contents has_failed olds news fault
stops_header p ports commands texts rests contents has_failed olds news (run.Capture port fault) begins h = absurd h
stops_header p ports commands texts rests contents has_failed olds news (run.Write port) begins h = inl (record { begins = begins; headers = h })
stops_header p ports commands texts rests contents has_failed olds news run.NoMemory begins h = absurd h

-- A run under way stopped.
pub stops_among : {A W : Type 0} (p : Plan A) (ports : List ℕ) (commands : List Command) (texts : ℕ → List ℕ) (rests : ℕ → Option (List ℕ)) (contents : W → Option (List ℕ)) (has_failed : W → Bool) (olds news : List W) (fault : RunFault) → StopsInCommands p texts rests commands contents ports olds news fault → StopsRun p ports commands texts rests contents has_failed olds news fault
stops_among p ports commands texts rests contents has_failed olds news (run.Capture port fault) h = inr h
stops_among p ports commands texts rests contents has_failed olds news (run.Write port) h = inr h
stops_among p ports commands texts rests contents has_failed olds news run.NoMemory h = inr h

-- A run isolates each protected filter.
pub isolates : {A W : Type 0} (p : Plan A) (ports : List ℕ) (commands : List Command) (texts : ℕ → List ℕ) (contents : W → Option (List ℕ)) (olds news : List W) (o : Outcome A) → IsPlan p → IsAcceptable p → IsolatesFilters p ports commands texts contents olds news o
isolates p ports commands texts contents olds news o rules good ran n f v told = protected_alone p n f _ ran.ends.lists o v rules good told.listed told.protected ran.ends.outcome told.told

-- Inputs other than a protected filter's own change nothing in its record.
pub others_change_nothing : {A W : Type 0} (p : Plan A) (ports : List ℕ) (commands : List Command) (texts : ℕ → List ℕ) (contents : W → Option (List ℕ)) (olds news : List W) (o : Outcome A) → IsPlan p → IsAcceptable p → OthersChangeNothing p ports commands texts contents olds news o
others_change_nothing p ports commands texts contents olds news o rules good ran other_commands other_texts other_olds other_news other also n f u v told there same =
    two_runs p n f _ _ ran.ends.lists also.ends.lists o other u v rules good told.listed told.protected
    (own_ports p n f (input_streams (commands_of commands) ran.frames) (input_streams (commands_of other_commands) also.frames) ran.inputs also.inputs ran.merged also.merged same)
    ran.ends.outcome also.ends.outcome told.told there.told

-- A run isolates each group: outsiders change nothing in its records, and members change no verdict of each other.
pub isolates_groups : {A W : Type 0} (p : Plan A) (ports : List ℕ) (commands : List Command) (texts : ℕ → List ℕ) (contents : W → Option (List ℕ)) (olds news : List W) (o : Outcome A) → IsPlan p → HasAcceptableGroups p → IsolatesGroups p ports commands texts contents olds news o
isolates_groups p ports commands texts contents olds news o rules good = record {
  members = λ ran group n f v told. (
    grouped.members_alone p group rules good n f told.member _ ran.ends.lists o v ran.ends.outcome told.told,
    grouped.own_police p group rules good n f told.member _ ran.ends.lists o v ran.ends.outcome told.told,
  );
  outsiders = λ ran other_commands other_texts other_olds other_news other also group n f u v told there same.
      grouped.two_runs p group rules good n f told.member _ _ ran.ends.lists also.ends.lists o other u v
      (group_ports p group (input_streams (commands_of commands) ran.frames) (input_streams (commands_of other_commands) also.frames) ran.inputs also.inputs ran.merged also.merged same)
      ran.ends.outcome also.ends.outcome told.told there.told;
  verdicts = λ ran other_commands other_texts other_olds other_news other also group n f u v told there same.
      grouped.police_alone p group rules good n f told.member _ _ ran.ends.lists also.ends.lists o other u v
      (own_ports p n f (input_streams (commands_of commands) ran.frames) (input_streams (commands_of other_commands) also.frames) ran.inputs also.inputs ran.merged also.merged same)
      ran.ends.outcome also.ends.outcome told.told there.told;
}
