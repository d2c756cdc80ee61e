-- Entries of a port that open a class together with another class, and frames that fit its windows.
use Rattle.std.specs.Prelude.{ℕ, Bool, not, ◌+◌, ◌&&◌, min, List, [], ◌∷◌, Option, Some, None, nat_eq, if◌then◌else◌}
use Rattle.bridge_limits.specs.declared.TheConstants.{LONGEST_FRAME}
use Rattle.bridge_frame.specs.Link.{transmission_time}
use Rattle.std.specs.Option.{option_or}
use Rattle.bridge_cycle.specs.Cyclic as cyclic
use Rattle.bridge_cycle.specs.declared.gate_control_lists.Egress.{Egress}
use Rattle.bridge_cycle.specs.declared.gate_control_lists.Egress.TheVariants.{Cyclic, Joined}
use Rattle.bridge_cycle.specs.Fits.{is_open}
use Rattle.bridge_port.specs.GateSchedule.{lists_can_fit}
use Rattle.bridge_config.specs.declared.ports.PortPlan.{PortPlan}
use Rattle.bridge_check.specs.Reach.{some_number_passes}

-- True if the gate state `state`, in which bit `d` opens class `d`, opens class `c` and at least one other class.
abbrev pub is_shared : ℕ → ℕ → Bool
is_shared state c = is_open state c && some_number_passes 8 (λ d. not (nat_eq d c) && is_open state d)

-- Start offset in ns of the first entry that opens class `c` together with another class. `None` if no entry does. The
-- first entry of the list starts at `start`.
abbrev pub shared_phase : List (ℕ × ℕ) → ℕ → ℕ → Option ℕ
shared_phase [] start c = None
shared_phase (e ∷ es) start c = if is_shared e.0 c then Some start else shared_phase es (start + e.1) c

-- Offset in ns, from the cycle's start, of the first entry in list `l` that opens class `c` together with another
-- class. `None` if no entry does.
abbrev pub list_shared_phase : cyclic.Cyclic ℕ → ℕ → Option ℕ
list_shared_phase l c = shared_phase l.entries 0 c

-- Offset in ns at which a port's lists, old before new, first open class `c` together with another class. `None` if
-- neither list does. A port without a list gives 0.
abbrev pub port_shared_phase : {A : Type 0} → Option (Egress A) → ℕ → Option ℕ
port_shared_phase None c = Some 0
port_shared_phase (Some (Cyclic l)) c = list_shared_phase l c
port_shared_phase (Some (Joined j)) c = option_or (list_shared_phase j.old c) (list_shared_phase j.new c)

-- Length in octets of the longest frame with an SDU of `sdu` octets: `sdu` + 16 (addresses and tag), but at most 9,216
-- octets.
abbrev pub longest_frame : ℕ → ℕ
longest_frame sdu = min (sdu + 16) LONGEST_FRAME

-- True if every list of the port has a window of class `c` for a longest frame with `sdu` SDU octets; true without a
-- list.
abbrev pub can_ever_fit : {A : Type 0} → PortPlan A → ℕ → ℕ → Bool
can_ever_fit port c sdu = lists_can_fit port.list c (transmission_time (longest_frame sdu) port.speed)
