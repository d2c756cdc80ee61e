-- Traffic of which a filter passes every frame.
use Rattle.std.specs.Prelude.{◌≡◌, ℕ, Bool, true, false, not, ◌+◌, ◌-◌, ◌≤◌, ◌%◌, ◌&&◌, ◌||◌, Option, None, Some, List, nat_eq, nat_le, if◌then◌else◌}
use Rattle.std.specs.List.{list_all}
use Rattle.std.specs.Map.{lookup}
use Rattle.bridge_cycle.specs.Cyclic as cyclic
use Rattle.bridge_cycle.specs.declared.timeline.Turn.{Turn}
use Rattle.bridge_gate.specs.declared.schedule.GateEntry.{GateEntry}
use Rattle.bridge_gate.specs.declared.schedule.GatePlan.{GatePlan}
use Rattle.bridge_gate.specs.declared.schedule.Schedule.{Schedule}
use Rattle.bridge_gate.specs.declared.schedule.Schedule.TheVariants.{Cyclic, Fixed, Joined}
use Rattle.bridge_ident.specs.declared.TagKind.{TagKind}
use Rattle.bridge_ident.specs.declared.TagKind.TheVariants as tag
use Rattle.bridge_ident.specs.declared.StreamEntry.{StreamEntry}
use Rattle.bridge_filter.specs.declared.FilterPlan.{FilterPlan}
use Rattle.bridge_filter.specs.declared.Verdict.{Verdict}
use Rattle.bridge_filter.specs.declared.Verdict.TheVariants as verdict
use Rattle.bridge_filter.specs.Verdicts.{is_above_max}
use Rattle.bridge_config.specs.Model.{Plan}
use Rattle.bridge_bounds.specs.declared.traffic.Traffic.{Traffic}

-- THE OCTETS

-- True if stream entries of this tag kind match only tagged frames with a VLAN identifier other than 0.
abbrev pub takes_only_tagged : TagKind → Bool
takes_only_tagged tag.Tagged = true
takes_only_tagged tag.Priority = false
takes_only_tagged tag.All = false

-- True if every stream entry with handle `h` accepts only VLAN-tagged frames; true also if the handle has no entry.
abbrev pub are_all_tagged : ℕ → List StreamEntry → Bool
are_all_tagged h streams = list_all (λ e. not (nat_eq e.handle h) || takes_only_tagged e.tag) streams

-- The largest possible SDU in octets of a frame of `len` octets. It is `len` - 16 if all frames with the handle are
-- tagged, otherwise `len` - 12.
abbrev pub longest_sdu : {A : Type 0} → Plan A → Option ℕ → ℕ → ℕ
longest_sdu p None len = len - 12
longest_sdu p (Some h) len = if are_all_tagged h p.streams then len - 16 else len - 12

-- THE STREAM GATE

-- True if `sdu` octets are at most the optional octet limit; always true without a limit (`None`).
abbrev pub allows : Option ℕ → ℕ → Bool
allows None sdu = true
allows (Some limit) sdu = nat_le sdu limit

-- True if gate entry `e` is open and its octet limit, if present, is at least `sdu`: a first frame of `sdu` octets
-- passes.
abbrev pub can_pass_entry : GateEntry → ℕ → Bool
can_pass_entry e sdu = e.lets && allows e.octets sdu

-- True if an octet-limited interval with the end `end` ends at or before `until`, both in ns; always true without a
-- limit.
abbrev pub is_limit_reset_in_time : Option ℕ → ℕ → ℕ → Bool
is_limit_reset_in_time None end until = true
is_limit_reset_in_time (Some limit) end until = nat_le end until

-- Holds if every interval that contains a time from `from` to `to`, both included, can pass a first frame of `sdu`
-- octets.
abbrev pub CanPassTurns : (ℕ → Option (Turn GateEntry)) → ℕ → ℕ → ℕ → Type 0
CanPassTurns turn_at from to sdu = (u : ℕ) (x : Turn GateEntry) → from ≤ u → u ≤ to → turn_at u ≡ Some x → can_pass_entry x.state sdu ≡ true

-- Holds if list `l` repeats with the period and passes a frame of `sdu` octets at each phase. An octet-limited interval
-- at phase `t.to` ends before the next frame.
pub record CanPassList (l : cyclic.Cyclic GateEntry) (t : Traffic) (sdu : ℕ) : Type 0 where
  pub repeats : nat_eq (t.period % l.cycle) 0 ≡ true
  pub are_let : CanPassTurns (cyclic.turn_by_time l) t.from t.to sdu
  pub ends : (x : Turn GateEntry) → cyclic.turn_by_time l t.to ≡ Some x → is_limit_reset_in_time x.state.octets x.end (t.from + t.period) ≡ true

-- Holds if the stream gate's schedule passes each frame of traffic `t` with `sdu` octets; with a schedule change, both
-- lists must pass it.
abbrev pub CanPassSchedule : {A : Type 0} → Schedule A → Traffic → ℕ → Type 0
CanPassSchedule (Fixed lets ipv) t sdu = lets ≡ true
CanPassSchedule (Cyclic l) t sdu = CanPassList l t sdu
CanPassSchedule (Joined j) t sdu = CanPassList j.old t sdu × CanPassList j.new t sdu

-- THE FILTER

-- Holds if filter `f` passes every frame of traffic `t`: the size is allowed, the filter has no meter, and its gate
-- passes the frame.
pub record Passes {A : Type 0} (p : Plan A) (f : FilterPlan) (t : Traffic) : Type 0 where
  pub octets : is_above_max f.max_sdu (longest_sdu p f.handle t.longest) ≡ false
  pub meter : f.meter ≡ None
  pub gate : GatePlan A
  pub found : lookup (nat_eq f.gate) p.gates ≡ Some gate
  pub lets : CanPassSchedule gate.schedule t (longest_sdu p f.handle t.longest)

-- True if the verdict is pass, with any internal priority value and any drop eligibility.
abbrev pub passes : Verdict → Bool
passes (verdict.Pass ipv eligible) = true
passes v = false
