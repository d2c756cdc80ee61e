-- A command clears a flag.
use Rattle.std.proofs.Common.{◌≡◌, ℕ, ◌≤◌, List, ◌∷◌, arith, ◌∙◌, sym, subst}
use Rattle.std.specs.Prelude.{IsTrue}
use Rattle.bridge_capture.specs.Grammar.{CapturedFrame}
use Rattle.bridge_filter.specs.declared.Clear.{Clear}
use Rattle.bridge_filter.specs.declared.Clear.TheVariants as clear
use Rattle.bridge_filter.specs.declared.FilterPlan.{FilterPlan}
use Rattle.bridge_filter.specs.Plans.{is_listed, KeepsNumbers}
use Rattle.bridge_filter.specs.StandsFor as filter
use Rattle.bridge_filter.specs.Verdicts as verdicts
use Rattle.bridge_config.specs.Model.{Plan}
use Rattle.bridge_config.specs.Commands.{has_instance}
use Rattle.bridge_semantics.specs.Events.{Event, Cleared, filter_inputs, plan_police}
use Rattle.bridge_relay.specs.RelayState.{RelayState, IsSound, RelayStandsFor}

-- The filters have each instance of the plan.
pub instance_there : {G A : Type 0} (held : G → ℕ → _) (b : RelayState G A) (c : Clear) (n : ℕ) → IsSound held b → IsTrue (has_instance b.plan c n) → IsTrue (filter.has_instance c n b.police)
instance_there held b clear.Blocked n sound h = subst (λ (fs : List (ℕ × FilterPlan)). IsTrue (is_listed n fs)) (sym sound.filters) h
instance_there held b clear.Rx n sound h = sound.gates n h
instance_there held b clear.Octets n sound h = sound.gates n h
instance_there held b clear.Red n sound h = sound.meters n h

abbrev pub clearing : {G A : Type 0} → RelayState G A → filter.PoliceState A → ℕ → RelayState G A
clearing b police t = record b { police = police; earliest = t }

-- A command keeps the relay's state consistent.
pub sound_cleared : {G A : Type 0} (held : G → ℕ → _) (b : RelayState G A) (police : filter.PoliceState A) (t : ℕ) → IsSound held b → b.earliest ≤ t → police.filters ≡ b.police.filters → KeepsNumbers b.police.gates police.gates → KeepsNumbers b.police.meters police.meters → police.calls ≡ b.police.calls → police.earliest ≡ b.police.earliest → IsSound held (clearing b police t)
sound_cleared {G} {A} held b police t sound onward filters gates meters called asked = record {
  rules = sound.rules;
  acceptable = sound.acceptable;
  identified = sound.identified;
  filters = filters ∙ sound.filters;
  gates = λ n i. gates n (sound.gates n i);
  meters = λ n i. meters n (sound.meters n i);
  asked = let a = sound.asked in omega (arith, a, asked, onward);
  few = let f = sound.few.0 in (omega (arith, f, called), sound.few.1);
  alike = sound.alike;
  early = λ q s l at. let e = sound.early q s l at in (let z = e.0 in omega (arith, z, onward), e.1);
  in_turn = sound.in_turn;
  frames = sound.frames;
  right = sound.right;
  there = sound.there;
  each = λ n w found. let k = sound.each n w found in record { covered = k.covered; few = k.few; departures = k.departures; left = λ d i. let z = k.left d i in ((let y = z.0 in omega (arith, y, onward)), z.1); drops = k.drops; dropped = k.dropped };
}

-- The relay stands for the events and one more command.
pub stands_cleared : {G A : Type 0} (b : RelayState G A) (police : filter.PoliceState A) (t : ℕ) (c : Clear) (n : ℕ) (p : Plan A) (es : List Event) (left : ℕ → List CapturedFrame) → ((ps : verdicts.PolicePlans) (cs : List verdicts.FilterEvent) → filter.StandsFor ps b.police cs → filter.StandsFor ps police (verdicts.Cleared c n ∷ cs)) → RelayStandsFor p b es left → RelayStandsFor p (clearing b police t) (Cleared c n ∷ es) left
stands_cleared b police t c n p es left cleared st = record {
  plan = st.plan;
  police = cleared (plan_police p) (filter_inputs p es) st.police;
  lists = st.lists;
  others = st.others;
  each = st.each;
  offers = st.offers;
  verdicts = st.verdicts;
  told = st.told;
  counts = λ q s l at. let k = st.counts q s l at in record { frames = k.frames; malformed = k.malformed; nowhere = k.nowhere; unfiltered = k.unfiltered; sent = k.sent; dropped = k.dropped };
  leaves = st.leaves;
  arrived = st.arrived;
}
