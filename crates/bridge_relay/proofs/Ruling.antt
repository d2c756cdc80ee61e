-- A frame is policed.
use Rattle.std.proofs.Common.{◌≡◌, ℕ, Bool, true, false, ◌+◌, ◌-◌, ◌<◌, ◌≤◌, List, [], ◌∷◌, ◌++◌, length, arith, refl, ap, ◌∙◌, sym, subst, Option, Some, None, slice_set}
use Rattle.std.specs.Prelude.{nat_eq, if◌then◌else◌, ◌⊎◌, IsTrue}
use Rattle.std.specs.Map.{lookup}
use Rattle.std.proofs.lemmas.Bool.Decides.{nat_tests}
use Rattle.bridge_limits.specs.Members.{IsMember}
use Rattle.bridge_limits.proofs.Cases.{by_bool}
use Rattle.bridge_filter.specs.declared.FilterInput.{FilterInput}
use Rattle.bridge_filter.specs.declared.Ruling.{Ruling}
use Rattle.bridge_filter.specs.declared.Verdict.{Verdict}
use Rattle.bridge_filter.specs.declared.Verdict.TheVariants as verdict
use Rattle.std.specs.Option.{option_map}
use Rattle.bridge_filter.specs.declared.FilterPlan.{FilterPlan}
use Rattle.bridge_filter.specs.Plans.{is_listed, KeepsNumbers}
use Rattle.bridge_semantics.specs.declared.outcome.Origin.{Origin}
use Rattle.bridge_filter.specs.StandsFor as filter
use Rattle.bridge_filter.specs.Verdicts as verdicts
use Rattle.bridge_config.specs.Model.{Plan}
use Rattle.bridge_config.specs.Rules.{find_port}
use Rattle.bridge_semantics.specs.declared.outcome.Departure.{Departure}
use Rattle.bridge_semantics.specs.declared.outcome.Dropped.{Dropped}
use Rattle.bridge_relay.specs.declared.port_state.PortState.{PortState}
use Rattle.bridge_relay.specs.Recorders.{RecorderState, with_verdict}
use Rattle.bridge_relay.specs.Ports.{PortsState, nth_port, port_state}
use Rattle.bridge_relay.specs.RelayState.{RelayState, IsSound, IsRecorderSound, count_all_items, is_filter_item, is_item_invalid}
use Rattle.bridge_relay.specs.Ports.{MatchesPlan}
use Rattle.bridge_relay.specs.RelayedFrames.{HasPoliced, HasUncountedFrame, ruling_ingress, ingress_origin, recorders_with_ruling}
use Rattle.bridge_relay.proofs.Porting.{below, set_here}
use Rattle.bridge_relay.proofs.Sound.{changed, changed_there}
use Rattle.bridge_relay.proofs.Passing.{counting, passed_here, passed_there, count_passed, frames_of, alike_passed}

more_verdicts : (b : Bool) (t : RecorderState) (v : Verdict) (o : Origin) → length t.verdicts ≤ length (if b then with_verdict t v o else t).verdicts
more_verdicts true t v o = longer_end t.verdicts v where
  longer_end : (xs : List Verdict) (x : Verdict) → length xs ≤ length (xs ++ x ∷ [])
  longer_end [] x = omega arith
  longer_end (y ∷ xs) x = let h = longer_end xs x in omega arith
more_verdicts false t v o = omega arith

kept_ruled : {G A : Type 0} (held : G → ℕ → Option ℕ) (old new : RelayState G A) (n : ℕ) (b : Bool) (w : RecorderState) (v : Verdict) (o : Origin) → IsRecorderSound held old n w → count_all_items (is_filter_item n) new.ports ≡ count_all_items (is_filter_item n) old.ports → new.ports.agenda ≡ old.ports.agenda → new.arrived ≡ old.arrived → old.earliest ≤ new.earliest → IsRecorderSound held new n (if b then with_verdict w v o else w)
kept_ruled {G} {A} held old new n b w v o k counts agenda arrived onward =
    let grown = more_verdicts b w v o in
    let left : (d : Departure) → IsMember d w.departures → (d.start < new.earliest) × ((q u : ℕ) → held new.ports.agenda q ≡ Some u → (d.start < u) ⊎ ((d.start ≡ u) × (d.port < q))) = λ d i. let z = k.left d i in ((let y = z.0 in omega arith), subst (λ (a : G). (q u : ℕ) → held a q ≡ Some u → (d.start < u) ⊎ ((d.start ≡ u) × (d.port < q))) (sym agenda) z.1) in
    let heard : (d : Dropped) → IsMember d w.drops → d.own ≤ length (if b then with_verdict w v o else w).verdicts = λ d i. let z = k.dropped d i in omega (arith, z, grown) in
    by_case b left heard where
      by_case : (b : Bool) → ((d : Departure) → IsMember d w.departures → (d.start < new.earliest) × ((q u : ℕ) → held new.ports.agenda q ≡ Some u → (d.start < u) ⊎ ((d.start ≡ u) × (d.port < q)))) → ((d : Dropped) → IsMember d w.drops → d.own ≤ length (if b then with_verdict w v o else w).verdicts) → IsRecorderSound held new n (if b then with_verdict w v o else w)
      by_case true left heard = record { covered = let c = k.covered in omega (arith, counts, c); few = let f = k.few in omega arith; departures = k.departures; left = left; drops = k.drops; dropped = heard }
      by_case false left heard = record { covered = let c = k.covered in omega (arith, counts, c); few = let f = k.few in omega arith; departures = k.departures; left = left; drops = k.drops; dropped = heard }

ruled_each : {G A : Type 0} (held : G → ℕ → Option ℕ) (old new : RelayState G A) (o : Origin) (r : Option Ruling) (n : ℕ) (w : RecorderState) → new.tables ≡ recorders_with_ruling o r old.tables → lookup (nat_eq n) new.tables ≡ Some w → ((t : RecorderState) → lookup (nat_eq n) old.tables ≡ Some t → IsRecorderSound held old n t) → count_all_items (is_filter_item n) new.ports ≡ count_all_items (is_filter_item n) old.ports → new.ports.agenda ≡ old.ports.agenda → new.arrived ≡ old.arrived → old.earliest ≤ new.earliest → IsRecorderSound held new n w
ruled_each held old new o None n w tables found each counts agenda arrived onward = kept_ruled held old new n false w verdict.Blocked o (each w (subst (λ (z : List (ℕ × RecorderState)). lookup (nat_eq n) z ≡ Some w) tables found)) counts agenda arrived onward
ruled_each held old new o (Some r) n w tables found each counts agenda arrived onward =
    let c = changed (Some r.filter) (λ (t : RecorderState). with_verdict t r.verdict o) old.tables n w (subst (λ (z : List (ℕ × RecorderState)). lookup (nat_eq n) z ≡ Some w) tables found) in
    subst (IsRecorderSound held new n) (sym c.is) (kept_ruled held old new n (nat_eq r.filter n) c.was r.verdict o (each c.was c.there) counts agenda arrived onward)

there_judged : (o : Origin) (r : Option Ruling) (tables : List (ℕ × RecorderState)) (n : ℕ) → is_listed n (recorders_with_ruling o r tables) ≡ is_listed n tables
there_judged o None tables n = refl
there_judged o (Some r) tables n = changed_there (Some r.filter) (λ (t : RecorderState). with_verdict t r.verdict o) tables n

-- Policing keeps the relay's state consistent.
pub sound_ruled : {G A : Type 0} (held : G → ℕ → Option ℕ) (old new : RelayState G A) (q : ℕ) (s : PortState A) (c : FilterInput) (r : Option Ruling) → IsSound held old → HasUncountedFrame old → HasPoliced old new q s c r → port_state old.ports q ≡ Some s → 1 ≤ q → old.earliest ≤ c.at → IsSound held new
sound_ruled {G} {A} held old new q s c r sound fresh h there low onward =
    let same = h.arrived in
    let time = h.earliest in
    let v = ruling_ingress r in
    record {
      rules = rw h.plan sound.rules;
      acceptable = rw h.plan sound.acceptable;
      identified = h.streams ∙ (sound.identified ∙ ap (λ (p : Plan A). p.streams) (sym h.plan));
      filters = h.filters ∙ (sound.filters ∙ ap (λ (p : Plan A). p.filters) (sym h.plan));
      gates = λ n i. h.gates n (sound.gates n (subst (λ (p : Plan A). IsTrue (is_listed n p.gates)) h.plan i));
      meters = λ n i. h.meters n (sound.meters n (subst (λ (p : Plan A). IsTrue (is_listed n p.meters)) h.plan i));
      asked = let a = h.asked in omega (arith, a, time);
      few = let f = fresh.calls in let n = h.calls in let m = sound.few.1 in (omega (arith, f, n, same), omega (arith, m, same));
      alike = λ k l. by_bool (nat_eq k q)
          (λ y.
          let is : q ≡ k = grind (arith, nat_tests) in
          let at_now : port_state new.ports q ≡ Some (counting s v) = ap (λ (z : List (Option (PortState A))). nth_port z q) h.slots ∙ set_here old.ports.slots q (Some (counting s v)) (below old.ports.slots q s there) in
          subst (λ (p : Plan A). MatchesPlan (find_port p.ports k) (port_state new.ports k)) (sym h.plan)
          (subst (λ (m : ℕ). MatchesPlan (find_port old.plan.ports m) (port_state new.ports m)) is
          (subst (MatchesPlan (find_port old.plan.ports q)) (sym at_now) (alike_passed (find_port old.plan.ports q) s v (subst (MatchesPlan (find_port old.plan.ports q)) there (sound.alike q low))))))
          (λ y. subst (λ (p : Plan A). MatchesPlan (find_port p.ports k) (port_state new.ports k)) (sym h.plan) (subst (MatchesPlan (find_port old.plan.ports k)) (sym (passed_there old new q s v h.slots low k l y)) (sound.alike k l)));
      early = λ k w l at. by_bool (nat_eq k q)
          (λ y. let e = sound.early q s low there in let a = e.0 in let b = e.1 in subst (λ (z : PortState A). (z.port.earliest ≤ new.earliest) × (z.port.offered ≤ new.arrived)) (passed_here old new q s v h.slots there k w y at) (omega (arith, a, time, onward), omega (arith, b, same)))
          (λ y. let e = sound.early k w l (sym (passed_there old new q s v h.slots low k l y) ∙ at) in let a = e.0 in let b = e.1 in (omega (arith, a, time, onward), omega (arith, b, same)));
      in_turn = λ k r u w l at e.
          let held_old : held old.ports.agenda r ≡ Some u = subst (λ (z : G). held z r ≡ Some u) h.agenda e in
          by_bool (nat_eq k q)
          (λ y.
          let is : q ≡ k = grind (arith, nat_tests) in
          subst (λ (z : PortState A). (z.port.earliest ≤ u + 1) × (r ≤ k → z.port.earliest ≤ u)) (passed_here old new q s v h.slots there k w y at)
          (subst (λ (m : ℕ). (s.port.earliest ≤ u + 1) × (r ≤ m → s.port.earliest ≤ u)) is (sound.in_turn q r u s low there held_old)))
          (λ y. sound.in_turn k r u w l (sym (passed_there old new q s v h.slots low k l y) ∙ at) held_old);
      frames = λ k w l at. by_bool (nat_eq k q)
          (λ y. let e = fresh.frames q s low there in let f = frames_of s.count v in subst (λ (z : PortState A). z.count.frames ≤ new.arrived) (passed_here old new q s v h.slots there k w y at) (omega (arith, e, f, same)))
          (λ y. let e = sound.frames k w l (sym (passed_there old new q s v h.slots low k l y) ∙ at) in omega (arith, e, same));
      right = let z = count_passed old new q s v h.slots there (is_item_invalid old.plan.filters) in rw h.plan (z ∙ sound.right);
      there = λ n i. subst (λ (z : List (ℕ × RecorderState)). IsTrue (is_listed n z)) (sym h.tables) (subst IsTrue (sym (there_judged (ingress_origin q c.at) r old.tables n)) (sound.there n (subst (λ (p : Plan A). IsTrue (is_listed n p.filters)) h.plan i)));
      each = λ n w found. ruled_each held old new (ingress_origin q c.at) r n w h.tables found (sound.each n) (count_passed old new q s v h.slots there (is_filter_item n)) h.agenda same (omega (arith, time, onward));
    }

-- The parts of the relay prove that the frame was policed.
pub has_ruled : {G A : Type 0} (old : RelayState G A) (police : filter.PoliceState A) (ports : PortsState G A) (tables : List (ℕ × RecorderState)) (q : ℕ) (s : PortState A) (c : FilterInput) (r : Option Ruling) → ((p : verdicts.PolicePlans) (es : List verdicts.FilterEvent) → filter.StandsFor p old.police es → filter.StandsFor p police (verdicts.Arrived c ∷ es)) → ((p : verdicts.PolicePlans) (es : List verdicts.FilterEvent) → filter.StandsFor p old.police es → r ≡ verdicts.step_ruling (verdicts.input_step p (verdicts.filter_steps p es) c (verdicts.frame_filter p.filters c))) → option_map (λ (x : Ruling). x.filter) r ≡ option_map (λ (f : ℕ × FilterPlan). f.0) (verdicts.frame_filter old.police.filters c) → old.police.filters ≡ old.plan.filters → police.filters ≡ old.police.filters → KeepsNumbers old.police.gates police.gates → KeepsNumbers old.police.meters police.meters → police.calls ≡ old.police.calls + 1 → police.earliest ≡ c.at → ports.slots ≡ slice_set old.ports.slots (q - 1) (Some (counting s (ruling_ingress r))) → ports.agenda ≡ old.ports.agenda → tables ≡ recorders_with_ruling (ingress_origin q c.at) r old.tables → HasPoliced old (record old { police = police; ports = ports; tables = tables; earliest = c.at }) q s c r
has_ruled {G} {A} old police ports tables q s c r stands answer number listed filters gates meters calls earliest slots agenda told = record {
  slots = slots;
  agenda = agenda;
  tables = told;
  plan = refl;
  streams = refl;
  police = stands;
  answer = answer;
  number = number ∙ ap (λ (fs : List (ℕ × FilterPlan)). option_map (λ (f : ℕ × FilterPlan). f.0) (verdicts.frame_filter fs c)) listed;
  filters = filters;
  gates = gates;
  meters = meters;
  calls = calls;
  asked = earliest;
  arrived = refl;
  earliest = refl;
}
