-- A command is carried out.
use Rattle.std.proofs.Common.{◌≡◌, ℕ, zero, suc, ◌≤◌, List, [], ◌∷◌, ◌++◌, arith, refl, ap, sym, subst, inl, inr, Option, Some, None}
use Rattle.std.specs.Prelude.{IfSome, nat_eq, false}
use Rattle.std.proofs.lemmas.Bool.Decides.{nat_tests}
use Rattle.std.proofs.lemmas.Option.{same_Some}
use Rattle.bridge_capture.specs.Grammar.{CapturedFrame}
use Rattle.bridge_capture.specs.Reading.{packet_frame}
use Rattle.bridge_config.specs.declared.command.Command.{Command}
use Rattle.bridge_config.specs.Model.{Plan}
use Rattle.bridge_config.specs.Rules.{find_port}
use Rattle.bridge_semantics.specs.Events.{Cleared}
use Rattle.bridge_semantics.specs.Merge.{Input, capture_input, FollowsInput, inputs_by_rank, IsMerged, input_events, capture_inputs, command_as_input, commands_of, input_streams}
use Rattle.bridge_relay.specs.RelayState.{RelayState, RelayStandsFor}
use Rattle.bridge_capture.specs.declared.capture_reader.CaptureReader.{CaptureReader}
use Rattle.bridge_capture.specs.CaptureReaders.{port_numbers}
use Rattle.bridge_core.specs.CaptureWriters.{AreWritten}
use Rattle.bridge_core.specs.Running.{AreHeadsLater, FollowsInputs, IsUnderWay, CanTakeFrames}
use Rattle.bridge_core.proofs.Order.{in_order_next}
use Rattle.bridge_core.proofs.Steps.{by_order}

merged_each : (commanded : List Input) (frames : ℕ → List CapturedFrame) (inputs : List Input) (c : Command) → ((q : ℕ) → inputs_by_rank q inputs ≡ input_streams commanded frames q) → (q : ℕ) → inputs_by_rank q (command_as_input c ∷ inputs) ≡ input_streams (command_as_input c ∷ commanded) frames q
merged_each commanded frames inputs c h zero = ap (λ l. command_as_input c ∷ l) (h 0)
merged_each commanded frames inputs c h (suc n) =
    let other : nat_eq 0 (suc n) ≡ false = grind (arith, nat_tests) in
    let never : nat_eq (suc n) 0 ≡ false = grind (arith, nat_tests) in
    let z : inputs_by_rank (suc n) inputs ≡ capture_inputs (suc n) (frames (suc n)) = rw never at (h (suc n)) in
    rw (other, never) z

merged_command : (commanded : List Input) (frames : ℕ → List CapturedFrame) (inputs : List Input) (c : Command) → IsMerged (input_streams commanded frames) inputs → FollowsInputs (command_as_input c) inputs → IsMerged (input_streams (command_as_input c ∷ commanded) frames) (command_as_input c ∷ inputs)
merged_command commanded frames inputs c m f = record { in_order = in_order_next (command_as_input c) inputs m.in_order f; each = merged_each commanded frames inputs c m.each }

-- An input at or after the command's time follows the command.
behind : (c : Command) (y : Input) → c.at ≤ y.at → FollowsInput y (command_as_input c)
behind c y l = by_order (FollowsInput y (command_as_input c)) c.at y.at (λ h. inl h) (λ h. absurd (omega (arith, h, l))) (λ h. inr (h, omega arith))

behind_next : (c : Command) (next : Option Input) (xs : List Input) → IfSome next (λ y. c.at ≤ y.at) → IfSome next (λ y. FollowsInputs y (command_as_input c ∷ xs))
behind_next c None xs h = tt
behind_next c (Some y) xs h = behind c y h

pub command_next : {R W G A : Type 0} (remaining : R → Option (List ℕ)) (contents : W → Option (List ℕ)) (p : Plan A) (texts : ℕ → List ℕ) (commanded : List Input) (c : Command) (next : Option Input) (olds : List W) (b d : RelayState G A) (lanes : List (CaptureReader A)) (sources : List R) (sinks news : List W) (left : ℕ → List CapturedFrame) → (u : IsUnderWay remaining contents p texts commanded (Some (command_as_input c)) olds b lanes sources sinks) → IfSome next (λ y. c.at ≤ y.at) → AreHeadsLater (Some c.at) lanes → RelayStandsFor p d (Cleared c.clear c.number ∷ input_events u.inputs) left → c.at ≤ d.earliest → AreWritten contents (port_numbers lanes) olds news left → IsUnderWay remaining contents p texts (command_as_input c ∷ commanded) next olds d lanes sources news
command_next remaining contents p texts commanded c next olds b d lanes sources sinks news left u after later stands late written = record {
  frames = u.frames;
  inputs = command_as_input c ∷ u.inputs;
  left = left;
  taken = record {
    gave = u.taken.gave;
    others = u.taken.others;
    merged = merged_command commanded u.frames u.inputs c u.taken.merged u.taken.commands;
    commands = behind_next c next u.inputs after;
  };
  ahead = u.ahead;
  follow = λ i l e at is. let z = later i l e at is in let y = same_Some c.at z.0 z.1 in let x = z.2 in behind c (capture_input l.number (packet_frame e)) (omega (arith, y, x));
  covered = u.covered;
  stands = stands;
  late = late;
  written = written;
}

-- After a command, the relay can handle frames.
pub may_still : {G A : Type 0} (b c : RelayState G A) (lanes : List (CaptureReader A)) (t : ℕ) → CanTakeFrames b lanes → c.plan ≡ b.plan → c.arrived ≡ b.arrived → c.earliest ≡ t → AreHeadsLater (Some t) lanes → CanTakeFrames c lanes
may_still {G} {A} b c lanes t may plan arrived earliest later = record {
  each = may.each;
  from = may.from;
  known = λ i l e. let k = may.known i l e in (k.0, subst (λ (v : Plan A). find_port v.ports l.number ≡ Some k.0) (sym plan) k.1);
  onward = λ i l d e a. let z = later i l d e a in let y = same_Some t z.0 z.1 in let x = z.2 in omega (arith, y, x, earliest);
  few = let few = may.few in omega (arith, few, arrived);
  rises = may.rises;
}

-- The inputs of a list of commands with one more.

pub commands_push : (cs : List Command) (c : Command) → commands_of (cs ++ c ∷ []) ≡ command_as_input c ∷ commands_of cs
commands_push [] c = refl
commands_push (d ∷ cs) c = ap (λ l. l ++ command_as_input d ∷ []) (commands_push cs c)
