use Rattle.std.proofs.Common.{◌≡◌, true, refl, subst}
use Rattle.std.specs.List.{list_all}
use Rattle.std.proofs.lemmas.List.Sums.{list_all-from_AllPass}
use Rattle.std.proofs.lemmas.Option.{same_Some}
use Rattle.bridge_cycle.specs.Cyclic.{Cyclic}
use Rattle.bridge_gate.specs.declared.schedule.GateEntry.{GateEntry}
use Rattle.bridge_gate.specs.declared.schedule.Schedule.TheVariants as schedule
use Rattle.bridge_gate.specs.Schedules.{has_valid_priorities, is_valid_priority}
use Rattle.bridge_config.specs.Rules.{IsGateList}
use Rattle.bridge_config.proofs.gates.gate_schedule.Goals as goal

-- The internal priority values of a gate's list are 0 to 7 or absent.
all_priorities : (l : Cyclic GateEntry) → IsGateList l → list_all (λ e. is_valid_priority e.0.ipv) l.entries ≡ true
all_priorities l is = list_all-from_AllPass (λ e. is_valid_priority e.0.ipv) l.entries is.priorities

pub returns-in_default-change-clause-priorities : goal.returns-in_default-change-clause-priorities
returns-in_default-change-clause-priorities g c x e = subst (λ s. has_valid_priorities s ≡ true) (same_Some (schedule.Cyclic c.in-Some.old) x e) (all_priorities c.in-Some.old (c.requires.old c.in-Some.old c.in-Some.is))

pub returns-in-None-clause-priorities : goal.returns-in-None-clause-priorities
returns-in-None-clause-priorities g c x e = subst (λ s. has_valid_priorities s ≡ true) (same_Some (schedule.Cyclic c.in-Some.old) x e) (all_priorities c.in-Some.old (c.requires.old c.in-Some.old c.in-Some.is))

pub returns-in-Some-new-clause-priorities : goal.returns-in-Some-new-clause-priorities
returns-in-Some-new-clause-priorities g c x e =
    let old = all_priorities c.in-Some.old (c.requires.old c.in-Some.old c.in-Some.is) in
    let new = all_priorities c.in-Some-new.new (c.requires.new c.in-Some-new.new c.in-Some-new.is) in
    subst (λ s. has_valid_priorities s ≡ true) (same_Some (schedule.Joined c.new.result) x e) (rw (c.new.ensures, old, new) refl)
