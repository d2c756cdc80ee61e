-- A relay after a start.
use Rattle.std.proofs.Common.{◌≡◌, ℕ, Bool, true, false, ◌+◌, ◌-◌, ◌≤◌, List, length, arith, refl, ap, ◌∙◌, sym, subst, Option, Some, None, slice_set, slice_index_or}
use Rattle.std.specs.Prelude.{if◌then◌else◌, nat_eq, nat_lt, sum_by, IfSome, not, max}
use Rattle.std.specs.Map.{lookup}
use Rattle.std.proofs.lemmas.Bool.{ltb-false}
use Rattle.std.proofs.lemmas.List.Sums.{sum_by-set}
use Rattle.std.proofs.lemmas.Bool.Decides.{nat_tests}
use Rattle.bridge_limits.proofs.Cases.{by_bool}
use Rattle.bridge_limits.proofs.Options.{some_of}
use Rattle.bridge_filter.specs.declared.FilterPlan.{FilterPlan}
use Rattle.bridge_filter.specs.Plans.{is_listed}
use Rattle.bridge_port.specs.declared.item.Item.{Item}
use Rattle.bridge_port.specs.StandsFor.{count_queued, IsNextStart}
use Rattle.bridge_relay.specs.declared.relay.Sent.{Sent}
use Rattle.bridge_semantics.specs.declared.queued_frame.QueuedFrame.{QueuedFrame}
use Rattle.bridge_relay.specs.declared.port_state.PortState.{PortState}
use Rattle.bridge_relay.specs.declared.port_state.StartedFrame.{StartedFrame}
use Rattle.bridge_relay.specs.PortStates.{started_port}
use Rattle.bridge_relay.specs.Recorders.{OwesCopy}
use Rattle.bridge_relay.specs.Ports.{PortsState, HasStarted}
use Rattle.bridge_relay.specs.RelayState.{RelayState, count_port_items, count_all_items, is_filter_item, is_filter_number, is_item_invalid, is_filter_unknown, IsSound, IsSent}
use Rattle.bridge_relay.proofs.Porting.{below}

-- A start removes one queued item.
pub count_started : {G A : Type 0} (old new : PortsState G A) (q : ℕ) (s : PortState A) (k : ℕ) (b : StartedFrame A) → HasStarted old new q s k b → (f : Item (QueuedFrame A) → Bool) → count_all_items f old ≡ (if f b.item then 1 else 0) + count_all_items f new
count_started {G} {A} old new q s k b h f =
    let now : Option (PortState A) = Some (started_port s k b.class b.item) in
    let low = below old.slots q s h.there in
    let sum = sum_by-set (count_port_items f) old.slots (q - 1) now None low in
    let was : count_port_items f (slice_index_or old.slots (q - 1) None) ≡ count_queued f s.port = ap (count_port_items f) h.there in
    let set : count_all_items f new ≡ sum_by (count_port_items f) (slice_set old.slots (q - 1) now) = ap (sum_by (count_port_items f)) h.slots in
    let less = h.counts f in
    omega arith

one_if : (b : Bool) (m n : ℕ) → m ≡ 0 → m ≡ (if b then 1 else 0) + n → b ≡ false
one_if true m n h k = absurd (omega arith)
one_if false m n h k = refl

-- A started item is valid.
pub right_item : {G A : Type 0} (filters : List (ℕ × FilterPlan)) (old new : PortsState G A) (q : ℕ) (s : PortState A) (k : ℕ) (b : StartedFrame A) → HasStarted old new q s k b → count_all_items (is_item_invalid filters) old ≡ 0 → is_item_invalid filters b.item ≡ false
right_item filters old new q s k b h none = one_if (is_item_invalid filters b.item) (count_all_items (is_item_invalid filters) old) (count_all_items (is_item_invalid filters) new) none (count_started old new q s k b h (is_item_invalid filters))

pub short_item : {A : Type 0} (filters : List (ℕ × FilterPlan)) (x : Item (QueuedFrame A)) → is_item_invalid filters x ≡ false → length x.load.octets.items ≤ x.len
short_item {A} filters x h = by_bool (is_filter_unknown filters x.load.flow)
    (λ y. let z : true ≡ false = rw y at h in cc)
    (λ y. let z : nat_lt x.len (length x.load.octets.items) ≡ false = rw y at h in ltb-false x.len (length x.load.octets.items) z)

-- The recorder of the started item's filter owes its entry.
pub owes_by : {G A : Type 0} (held : G → ℕ → Option ℕ) (b : RelayState G A) (new : PortsState G A) (q : ℕ) (s : PortState A) (k : ℕ) (c : StartedFrame A) (flow : Option ℕ) → IsSound held b → HasStarted b.ports new q s k c → flow ≡ c.item.load.flow → is_item_invalid b.plan.filters c.item ≡ false → IfSome flow (OwesCopy b.tables)
owes_by held b new q s k c None sound h e right = tt
owes_by {G} {A} held b new q s k c (Some n) sound h e right =
    let stray : is_filter_unknown b.plan.filters c.item.load.flow ≡ false = by_bool (is_filter_unknown b.plan.filters c.item.load.flow) (λ y. absurd (let z : true ≡ false = rw y at right in cc)) (λ y. y) in
    let listed : is_listed n b.plan.filters ≡ true = by_bool (is_listed n b.plan.filters) (λ y. y) (λ y. absurd (let z : not (is_listed n b.plan.filters) ≡ false = subst (λ (o : Option ℕ). is_filter_unknown b.plan.filters o ≡ false) (sym e) stray in let w : true ≡ false = rw y at z in cc)) in
    let t = some_of (lookup (nat_eq n) b.tables) (sound.there n listed) in
    let kept = (sound.each n t.0 t.1).covered in
    let own : is_filter_item n c.item ≡ true = subst (λ (o : Option ℕ). is_filter_number o n ≡ true) e (grind (arith, nat_tests)) in
    let less : count_all_items (is_filter_item n) b.ports ≡ 1 + count_all_items (is_filter_item n) new = let z = count_started b.ports new q s k c h (is_filter_item n) in rw own at z in
    (t.0, t.1, omega arith)

-- The departure of a start.
pub is_sent : {G A : Type 0} (old new : RelayState G A) (sent : Sent A) (s : PortState A) (c : StartedFrame A) → HasStarted old.ports new.ports sent.port s sent.start c → sent.class ≡ c.class → sent.done ≡ c.done → sent.len ≡ c.item.len → sent.octets ≡ c.item.load.octets → new.earliest ≡ max old.earliest (sent.start + 1) → IsSent old new sent
is_sent {G} {A} old new sent s c h class done len octets earliest = record {
  slot = s;
  item = c.item;
  there = h.there;
  next = subst (λ (n : ℕ). IsNextStart s.port sent.start n c.item) (sym class) h.next;
  len = len;
  octets = octets;
  done = done ∙ h.done;
  bounded = let b = h.bounded in omega arith;
  earliest = earliest;
}
