-- A relay before any event.
use Rattle.std.proofs.Common.{◌≡◌, ℕ, suc, Bool, true, ◌+◌, ◌-◌, ◌≤◌, List, [], ◌∷◌, arith, refl, ap, ◌∙◌, sym, subst, Option, Some, None, slice_index_or}
use Rattle.std.specs.Prelude.{nat_eq, sum_by}
use Rattle.std.specs.Map.{lookup}
use Rattle.std.proofs.lemmas.List.Sums.{sum_by-cons}
use Rattle.std.proofs.lemmas.Option.{same_Some}
use Rattle.bridge_limits.proofs.Cases.{by_bool}
use Rattle.bridge_check.specs.Acceptable.{IsAcceptable}
use Rattle.bridge_config.specs.declared.ports.PortPlan.{PortPlan}
use Rattle.bridge_config.specs.Model.{Plan}
use Rattle.bridge_config.specs.Rules.{IsPlan, find_port}
use Rattle.bridge_filter.specs.declared.FilterPlan.{FilterPlan}
use Rattle.bridge_filter.specs.Plans.{is_listed, KeepsNumbers}
use Rattle.bridge_filter.specs.StandsFor as filter
use Rattle.bridge_port.specs.declared.item.Item.{Item}
use Rattle.bridge_semantics.specs.declared.queued_frame.QueuedFrame.{QueuedFrame}
use Rattle.bridge_semantics.specs.declared.outcome.PortCount.{PortCount}
use Rattle.bridge_semantics.specs.Events.{plan_police}
use Rattle.bridge_semantics.specs.Runs.{HasCopyRecord, IsPortCount, IsPortCopy}
use Rattle.bridge_relay.specs.declared.port_state.PortState.{PortState}
use Rattle.bridge_relay.specs.Ports.{port_state, MatchesPlan, IsInitialPort, IsIdlePort}
use Rattle.bridge_relay.specs.Recorders.{RecorderState}
use Rattle.bridge_relay.specs.Records.{empty_recorder, empty_recorders}
use Rattle.bridge_relay.specs.RelayState.{RelayState, IsRecorderSound, IsSound, RelayStandsFor, recorded_frames, count_port_items, count_all_items, is_item_invalid, is_filter_item}

-- Holds if a relay consists of the parts of an accepted plan, before any event.
pub record IsMadeOf {G A : Type 0} (held : G → ℕ → Option ℕ) (b : RelayState G A) : Type 0 where
  pub rules : IsPlan b.plan
  pub acceptable : IsAcceptable b.plan
  pub streams : b.streams ≡ b.plan.streams
  pub police : filter.StandsFor (plan_police b.plan) b.police []
  pub gates : KeepsNumbers b.plan.gates b.police.gates
  pub meters : KeepsNumbers b.plan.meters b.police.meters
  pub ports : (q : ℕ) → 1 ≤ q → IsInitialPort (find_port b.plan.ports q) (port_state b.ports q)
  pub none_due : (q : ℕ) → held b.ports.agenda q ≡ None
  pub tables : b.tables ≡ empty_recorders b.plan.filters
  pub arrived : b.arrived ≡ 0
  pub earliest : b.earliest ≡ 0

pub made_of : {G A : Type 0} (held : G → ℕ → Option ℕ) (b : RelayState G A) (p : Plan A) → b.plan ≡ p → IsPlan p → IsAcceptable p → b.streams ≡ b.plan.streams → filter.StandsFor (plan_police b.plan) b.police [] → KeepsNumbers b.plan.gates b.police.gates → KeepsNumbers b.plan.meters b.police.meters → ((q : ℕ) → 1 ≤ q → IsInitialPort (find_port b.plan.ports q) (port_state b.ports q)) → ((q : ℕ) → held b.ports.agenda q ≡ None) → b.tables ≡ empty_recorders b.plan.filters → b.arrived ≡ 0 → b.earliest ≡ 0 → IsMadeOf held b
made_of held b p plan rules acceptable streams police gates meters ports none tables arrived earliest = record {
  rules = subst IsPlan (sym plan) rules;
  acceptable = subst IsAcceptable (sym plan) acceptable;
  streams = streams;
  police = police;
  gates = gates;
  meters = meters;
  ports = ports;
  none_due = none;
  tables = tables;
  arrived = arrived;
  earliest = earliest;
}

alike_first : {A : Type 0} (o : Option (PortPlan A)) (r : Option (PortState A)) → IsInitialPort o r → MatchesPlan o r
alike_first None None f = tt
alike_first None (Some s) f = absurd f
alike_first (Some out) None f = absurd f
alike_first (Some out) (Some s) f = f.0

new_first : {A : Type 0} (o : Option (PortPlan A)) (r : Option (PortState A)) (s : PortState A) → IsInitialPort o r → r ≡ Some s → IsIdlePort s
new_first o None s f e = absurd (cc)
new_first None (Some v) s f e = absurd f
new_first (Some out) (Some v) s f e = subst IsIdlePort (same_Some v s e) f.1

count_first : {A : Type 0} (f : Item (QueuedFrame A) → Bool) (o : Option (PortPlan A)) (r : Option (PortState A)) → IsInitialPort o r → count_port_items f r ≡ 0
count_first f o None h = refl
count_first f None (Some s) h = absurd h
count_first f (Some out) (Some s) h = h.1.empty f

sum_none : {A : Type 0} (f : Item (QueuedFrame A) → Bool) (slots : List (Option (PortState A))) → ((k : ℕ) → count_port_items f (slice_index_or slots k None) ≡ 0) → sum_by (count_port_items f) slots ≡ 0
sum_none f [] h = refl
sum_none f (o ∷ slots) h = let a = h 0 in let b = sum_none f slots (λ k. h (suc k)) in let c = sum_by-cons (count_port_items f) o slots in omega (arith, a, b, c)

none_queued : {G A : Type 0} (held : G → ℕ → Option ℕ) (b : RelayState G A) → IsMadeOf held b → (f : Item (QueuedFrame A) → Bool) → count_all_items f b.ports ≡ 0
none_queued {G} {A} held b m f = sum_none f b.ports.slots (λ k.
    let place : k + 1 - 1 ≡ k = omega arith in
    subst (λ (i : ℕ). count_port_items f (slice_index_or b.ports.slots i None) ≡ 0) place (count_first f (find_port b.plan.ports (k + 1)) (port_state b.ports (k + 1)) (m.ports (k + 1) (omega arith))))

fresh_at : (fs : List (ℕ × FilterPlan)) (n : ℕ) (t : RecorderState) → lookup (nat_eq n) (empty_recorders fs) ≡ Some t → t ≡ empty_recorder
fresh_at [] n t h = absurd (cc)
fresh_at (f ∷ fs) n t h = by_bool (nat_eq n f.0)
    (λ e. sym (same_Some empty_recorder t (rw e at h)))
    (λ e. fresh_at fs n t (rw e at h))

fresh_there : (fs : List (ℕ × FilterPlan)) (n : ℕ) → is_listed n (empty_recorders fs) ≡ is_listed n fs
fresh_there [] n = refl
fresh_there (f ∷ fs) n = by_bool (nat_eq n f.0) (λ e. rw e refl) (λ e. rw e (fresh_there fs n))

table_is : {G A : Type 0} (held : G → ℕ → Option ℕ) (b : RelayState G A) → IsMadeOf held b → (n : ℕ) (t : RecorderState) → lookup (nat_eq n) b.tables ≡ Some t → t ≡ empty_recorder
table_is held b m n t e = fresh_at b.plan.filters n t (subst (λ (z : List (ℕ × RecorderState)). lookup (nat_eq n) z ≡ Some t) m.tables e)

pub first_sound : {G A : Type 0} (held : G → ℕ → Option ℕ) (b : RelayState G A) → IsMadeOf held b → IsSound held b
first_sound {G} {A} held b m =
    let calls = m.police.calls in
    let asked = m.police.earliest in
    let arrived = m.arrived in
    let new : (q : ℕ) (s : PortState A) → 1 ≤ q → port_state b.ports q ≡ Some s → IsIdlePort s = λ q s l e. new_first (find_port b.plan.ports q) (port_state b.ports q) s (m.ports q l) e in
    record {
      rules = m.rules;
      acceptable = m.acceptable;
      identified = m.streams;
      filters = m.police.filters;
      gates = m.gates;
      meters = m.meters;
      asked = omega (arith, asked);
      few = (omega (arith, calls), omega (arith, arrived));
      alike = λ q l. alike_first (find_port b.plan.ports q) (port_state b.ports q) (m.ports q l);
      early = λ q s l e. (let x = (new q s l e).earliest in omega (arith, x), let y = (new q s l e).offered in omega (arith, y));
      in_turn = λ q r k s l e held_at. (let x = (new q s l e).earliest in omega (arith, x), λ z. let x = (new q s l e).earliest in omega (arith, x));
      frames = λ q s l e. (let x : s.count.frames ≡ 0 = ap (λ (c : PortCount). c.frames) (new q s l e).count in omega (arith, x));
      right = none_queued held b m (is_item_invalid b.plan.filters);
      there = λ n h. subst (λ (z : List (ℕ × RecorderState)). is_listed n z ≡ true) (sym m.tables) (fresh_there b.plan.filters n ∙ h);
      each = λ n t e. subst (IsRecorderSound held b n) (sym (table_is held b m n t e)) (record {
        covered = let x = none_queued held b m (is_filter_item n) in omega (arith, x);
        few = omega arith;
        departures = tt;
        left = λ d i. absurd i;
        drops = tt;
        dropped = λ d i. absurd i;
      });
    }

none_told : {A : Type 0} (p : Plan A) (n : ℕ) → HasCopyRecord p n (IsPortCopy (λ q. [])) [] [] None
none_told p n = record {
  departures_rise = tt;
  departures_are = λ d. ((λ i. absurd i), (λ h. absurd h.lies));
  drops_rise = tt;
  drops_are = λ d. ((λ i. absurd i), (λ h. absurd h.lies));
  longest = λ k h. absurd h.lies;
}

pub first_stands : {G A : Type 0} (held : G → ℕ → Option ℕ) (b : RelayState G A) → IsMadeOf held b → RelayStandsFor b.plan b [] (λ q. [])
first_stands {G} {A} held b m =
    let new : (q : ℕ) (s : PortState A) → 1 ≤ q → port_state b.ports q ≡ Some s → IsIdlePort s = λ q s l e. new_first (find_port b.plan.ports q) (port_state b.ports q) s (m.ports q l) e in
    record {
      plan = refl;
      police = m.police;
      lists = λ q. [];
      others = λ q e. refl;
      each = λ q s l e. (new q s l e).stands;
      offers = λ q out e. refl;
      verdicts = λ n t e. ap recorded_frames (table_is held b m n t e);
      told = λ n t e. subst (λ (v : RecorderState). HasCopyRecord b.plan n (IsPortCopy (λ q. [])) v.departures v.drops v.delay) (sym (table_is held b m n t e)) (none_told b.plan n);
      counts = λ q s l e. subst (IsPortCount b.plan [] q []) (sym (new q s l e).count) (record { frames = refl; malformed = refl; nowhere = refl; unfiltered = refl; sent = refl; dropped = refl });
      leaves = λ q s l e. record {
        output = record { rises = tt; members = λ d. ((λ i. absurd i), (λ h. absurd h.listed)) };
        before = λ d i. absurd i;
        many = (new q s l e).started;
      };
      arrived = m.arrived;
    }
