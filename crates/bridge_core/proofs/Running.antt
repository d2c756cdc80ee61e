-- All commands, one after the other.
use Rattle.std.proofs.Common.{◌≡◌, ℕ, zero, suc, ◌+◌, ◌<◌, ◌≤◌, List, [], ◌∷◌, ◌++◌, length, take, drop, get_or, arith, refl, ap, sym, subst, ◌∙◌, inl, inr, Option, Some, None, Result, Ok, Err}
use Rattle.std.specs.Prelude.{IfSome, IsTrue, OnOk}
use Rattle.std.proofs.Math.Numerals.{add-one}
use Rattle.std.proofs.Math.Seq.{drop-cons, take-suc}
use Rattle.std.proofs.lemmas.List.{drop_all, take-append-drop, take_all}
use Rattle.bridge_limits.specs.Members.{IsMember, IsOrdered}
use Rattle.bridge_capture.specs.declared.packet.Packet.{Packet}
use Rattle.bridge_config.specs.declared.command.Command.{Command}
use Rattle.bridge_config.specs.Model.{Plan}
use Rattle.bridge_config.specs.Commands.{has_instance, AreCommands}
use Rattle.bridge_capture.specs.declared.fault.RunFault.{RunFault}
use Rattle.bridge_semantics.specs.Merge.{Input, input_events, command_as_input, commands_of}
use Rattle.bridge_relay.specs.RelayState.{RelayState}
use Rattle.bridge_capture.specs.declared.capture_reader.CaptureReader.{CaptureReader}
use Rattle.bridge_capture.specs.CaptureReaders.{port_numbers}
use Rattle.bridge_core.specs.CaptureWriters.{AreWritten, SendsDueFrames}
use Rattle.bridge_core.specs.Running.{AreHeadsLater, first_command, FinishesOrStops, IsUnderWay, StopsInCommands, StopsUnderWay}
use Rattle.bridge_core.proofs.Commanded.{commands_push}
use Rattle.bridge_core.proofs.Steps.{depart_stops}

-- The rest of a list of commands is its first command and the commands after it.

pub behind_it : (cs : List Command) (i : ℕ) (d : Command) → i < length cs → drop i cs ≡ get_or cs i d ∷ drop (i + 1) cs
behind_it cs i d l = subst (λ (n : ℕ). drop i cs ≡ get_or cs i d ∷ drop n cs) (sym (add-one i)) (drop-cons cs i d l)

pub with_it : (cs : List Command) (i : ℕ) (d : Command) → i < length cs → commands_of (take (i + 1) cs) ≡ command_as_input (get_or cs i d) ∷ commands_of (take i cs)
with_it cs i d l = ap commands_of (subst (λ (n : ℕ). take n cs ≡ take i cs ++ get_or cs i d ∷ []) (sym (add-one i)) (take-suc cs i d l)) ∙ commands_push (take i cs) (get_or cs i d)

in_at : (cs : List Command) (i : ℕ) (d : Command) → i < length cs → IsMember (get_or cs i d) cs
in_at [] i d l = absurd (omega arith)
in_at (c ∷ cs) zero d l = inl refl
in_at (c ∷ cs) (suc i) d l = inr (in_at cs i d (omega arith))

pub has_it : {A : Type 0} (p q : Plan A) (cs : List Command) (i : ℕ) (d : Command) → AreCommands p cs → q ≡ p → i < length cs → IsTrue (has_instance q (get_or cs i d).clear (get_or cs i d).number)
has_it {A} p q cs i d are same l = subst (λ (v : Plan A). IsTrue (has_instance v (get_or cs i d).clear (get_or cs i d).number)) (sym same) (are.instances (get_or cs i d) (in_at cs i d l))

rising_drop : {X : Type 0} (R : X → X → Type 0) (xs : List X) (i : ℕ) → IsOrdered R xs → IsOrdered R (drop i xs)
rising_drop R xs zero r = r
rising_drop R [] (suc i) r = tt
rising_drop R (x ∷ xs) (suc i) r = rising_drop R xs i r.1

pub rises_behind : {A : Type 0} (p : Plan A) (cs : List Command) (i : ℕ) (d : Command) → AreCommands p cs → i < length cs → (c : Command) (rest : List Command) → drop (i + 1) cs ≡ c ∷ rest → (get_or cs i d).at ≤ c.at
rises_behind p cs i d are l c rest e =
    let two : drop i cs ≡ get_or cs i d ∷ c ∷ rest = behind_it cs i d l ∙ ap (λ z. get_or cs i d ∷ z) e in
    (subst (IsOrdered (λ a b. a.at ≤ b.at)) two (rising_drop (λ a b. a.at ≤ b.at) cs i are.rise)).0.0

next_of : (e : Command) (rest : List Command) → ((c : Command) (more : List Command) → rest ≡ c ∷ more → e.at ≤ c.at) → IfSome (first_command rest) (λ y. e.at ≤ y.at)
next_of e [] h = tt
next_of e (c ∷ more) h = h c more refl

pub next_later : {A : Type 0} (p : Plan A) (cs : List Command) (i : ℕ) (d : Command) → AreCommands p cs → i < length cs → IfSome (first_command (drop (i + 1) cs)) (λ y. (get_or cs i d).at ≤ y.at)
next_later p cs i d are l = next_of (get_or cs i d) (drop (i + 1) cs) (rises_behind p cs i d are l)

pub first_is : (cs : List Command) (i : ℕ) (d : Command) → i < length cs → first_command (drop i cs) ≡ Some (command_as_input (get_or cs i d))
first_is cs i d l = ap first_command (behind_it cs i d l)

-- The run stopped before a command.
pub stops_at : {A W : Type 0} (p : Plan A) (texts : ℕ → List ℕ) (rests : ℕ → Option (List ℕ)) (cs : List Command) (i : ℕ) (d : Command) (contents : W → Option (List ℕ)) (ports : List ℕ) (olds news : List W) (fault : RunFault) → i < length cs → StopsUnderWay p texts rests (commands_of (take i cs)) (Some (command_as_input (get_or cs i d))) contents ports olds news fault → StopsInCommands p texts rests cs contents ports olds news fault
stops_at p texts rests cs i d contents ports olds news fault l stops = record {
  done = take i cs;
  later = drop i cs;
  all = sym (take-append-drop i cs);
  stops = subst (λ (o : Option Input). StopsUnderWay p texts rests (commands_of (take i cs)) o contents ports olds news fault) (sym (first_is cs i d l)) stops;
}

no_more : {X : Type 0} (xs : List X) → xs ≡ xs ++ []
no_more [] = refl
no_more (x ∷ xs) = ap (λ z. x ∷ z) (no_more xs)

-- The run stopped after the last command.
pub stops_behind : {A W : Type 0} (p : Plan A) (texts : ℕ → List ℕ) (rests : ℕ → Option (List ℕ)) (cs : List Command) (contents : W → Option (List ℕ)) (ports : List ℕ) (olds news : List W) (fault : RunFault) → StopsUnderWay p texts rests (commands_of cs) None contents ports olds news fault → StopsInCommands p texts rests cs contents ports olds news fault
stops_behind p texts rests cs contents ports olds news fault stops = record { done = cs; later = []; all = no_more cs; stops = stops }

-- All commands are carried out.
pub all_done : {R W G A : Type 0} (remaining : R → Option (List ℕ)) (contents : W → Option (List ℕ)) (p : Plan A) (texts : ℕ → List ℕ) (cs : List Command) (i : ℕ) (olds : List W) (b : RelayState G A) (lanes : List (CaptureReader A)) (sources : List R) (sinks : List W) → length cs ≤ i → IsUnderWay remaining contents p texts (commands_of (take i cs)) (first_command (drop i cs)) olds b lanes sources sinks → IsUnderWay remaining contents p texts (commands_of cs) None olds b lanes sources sinks
all_done remaining contents p texts cs i olds b lanes sources sinks l u =
    subst (λ (o : Option Input). IsUnderWay remaining contents p texts (commands_of cs) o olds b lanes sources sinks) (ap first_command (drop_all i cs l))
    (subst (λ (z : List Command). IsUnderWay remaining contents p texts (commands_of z) (first_command (drop i cs)) olds b lanes sources sinks) (take_all i cs l) u)

none_ahead : {A : Type 0} (o : Option (Packet A)) → ((p : Packet A) → o ≡ Some p → (t : ℕ) × (None ≡ Some t) × (t ≤ p.time)) → o ≡ None
none_ahead None h = refl
none_ahead (Some p) h = absurd (let z = (h p refl).1 in cc)

-- The last starts were made, or a sink failed.
pub gone : {R W G A : Type 0} (remaining : R → Option (List ℕ)) (contents : W → Option (List ℕ)) (p : Plan A) (texts : ℕ → List ℕ) (cs : List Command) (olds : List W) (b c : RelayState G A) (lanes : List (CaptureReader A)) (sources : List R) (sinks news : List W) (ports : List ℕ) (r : Result (Unit {0}) RunFault) → (u : IsUnderWay remaining contents p texts (commands_of cs) None olds b lanes sources sinks) → length sources ≡ length lanes → ports ≡ port_numbers lanes → AreHeadsLater None lanes → b.earliest ≤ c.earliest → SendsDueFrames contents p (input_events u.inputs) b.earliest None c ports olds news r → FinishesOrStops remaining contents p texts cs olds c lanes sources news r
gone remaining contents p texts cs olds b c lanes sources sinks news ports (Ok x) u size same later onward d = record {
  under = record {
    frames = u.frames;
    inputs = u.inputs;
    left = d.0;
    taken = u.taken;
    ahead = u.ahead;
    follow = u.follow;
    covered = u.covered;
    stands = d.1;
    late = let late = u.late in omega (arith, late, onward);
    written = subst (λ ns. AreWritten contents ns olds news d.0) same d.2;
  };
  none = λ i lane e. none_ahead lane.ahead (λ q a. later i lane q e a);
}
gone remaining contents p texts cs olds b c lanes sources sinks news ports (Err fault) u size same later onward d = λ rests are.
    stops_behind p texts rests cs contents (port_numbers lanes) olds news fault (depart_stops remaining contents p texts (commands_of cs) None olds b lanes sources sinks u size rests None c ports news fault same later tt d)

pub idle_at : (P : Type 0) (r : Result (Unit {0}) RunFault) → OnOk r (◌≡◌ {A = Option ℕ} None None → P) → OnOk r P
idle_at P (Ok u) h = h refl
idle_at P (Err e) h = tt
