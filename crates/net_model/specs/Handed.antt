-- State of the test whether the next hop gets each frame (src/handing.rt). No contract of a public function uses it.
use Rattle.std.specs.Prelude.{◌≡◌, ◌≤◌, ℕ, Bool, true, false, not, nat_eq, Option, Some, None}
use Rattle.bridge_frame.specs.declared.Tag.{Tag}
use Rattle.bridge_ident.specs.declared.StreamEntry.{StreamEntry}
use Rattle.bridge_filter.specs.OwnEvents.{is_filter_number}
use Rattle.bridge_config.specs.declared.ports.PortPlan.{PortPlan}
use Rattle.bridge_config.specs.Rules.{find_port}
use Rattle.net_model.specs.declared.handing.Handing.{Handing}
use Rattle.net_model.specs.LinkFrames.{matching_filter}
use Rattle.net_model.specs.Handing as handing

-- True if the optional handle `own` is present and isn't `h`.
abbrev pub is_other_handle : Option ℕ → ℕ → Bool
is_other_handle None h = false
is_other_handle (Some own) h = not (nat_eq own h)

-- Holds if the port numbers at both ends are from 1 to 16, and the sender's filter gets only frames with its handle. The handle may be
-- unknown.
pub record IsHanding {A : Type 0} (h : Handing A) : Type 0 where
  pub from : 1 ≤ h.port
  pub to : h.port ≤ 16
  pub names : (n k : ℕ) → is_filter_number h.filter (matching_filter h.plan.now (Some n) k) ≡ true → is_other_handle h.handle n ≡ false
  pub taker_from : 1 ≤ h.taker.on.now.number
  pub taker_to : h.taker.on.now.number ≤ 16

-- True if the receiving filter gets each frame with this tag that the sender's entry `e` identifies at its ingress port
-- `from`.
abbrev pub hands_tag : {A : Type 0} → Handing A → StreamEntry → PortPlan A → Option Tag → Bool
hands_tag h e from tag = handing.hands_tag h.plan.now h.filter h.port h.taker.plan.now h.taker.on.now h.taker.filter e from tag

-- True if the receiving filter gets each frame that the sender's entry `e` identifies at its port.
abbrev pub hands_entry : {A : Type 0} → Handing A → StreamEntry → Bool
hands_entry h e =
    handing.hands_entry h.plan.now h.filter h.port h.taker.plan.now h.taker.on.now h.taker.filter e (find_port h.plan.now.ports e.port)
