use Rattle.std.proofs.Common.{ℕ, List, length, refl, sym, ap, subst, ◌∙◌}
use Rattle.bridge_config.specs.declared.command.Command.{Command}
use Rattle.bridge_config.specs.Commands.{AreCommands}
use Rattle.bridge_core.specs.WholeRuns.{ArePortNumbers}
use Rattle.net_run.specs.BridgeRuns.{HasCompleteRun, RunsBridge, BridgeRunState, StopsBridge, constant_part, sender_values, sink_octets}
use Rattle.net_run.proofs.Over.{kept_ran, some_there}
use Rattle.net_run.proofs.bridge_run.BridgeRun.run.Goals as goal

pub returns-then-is_some-clause-runs : goal.returns-then-is_some-clause-runs
returns-then-is_some-clause-runs g c =
    let there = some_there c.self.inside.outcome (sym c.if-is_some.true ∙ c.is_some.ensures) in
    (there.0, sym (ap (λ (s : BridgeRunState g.row.A.Denot). s.outcome) c.self.view_is) ∙ there.1)

pub returns-in-Err-clause-stops : goal.returns-in-Err-clause-stops
returns-in-Err-clause-stops g c =
    subst (λ (s : BridgeRunState g.row.A.Denot). StopsBridge s.plan s.ports s.commands s.texts c.in-Err.fault) c.self.view_is
    (subst (λ (t : List (List ℕ)). StopsBridge c.self.inside.accepted.now c.self.inside.ports.items c.self.inside.commands.items t c.in-Err.fault) c.deref-3.ensures.value
    (subst (λ (t : List Command). StopsBridge c.self.inside.accepted.now c.self.inside.ports.items t c.deref-3.result.now c.in-Err.fault) c.deref-2.ensures.value
    (subst (λ (t : List ℕ). StopsBridge c.self.inside.accepted.now t c.deref-2.result.now c.deref-3.result.now c.in-Err.fault) c.deref.ensures.value c.in-Err.ensures.stops)))

pub invariant_of-self : goal.invariant_of-self
invariant_of-self g c =
    let run = c.in-Ok.ran in
    let all = c.self.invariant in
    let runs =
    subst (λ (t : List (List ℕ)). RunsBridge c.self.inside.accepted.now c.self.inside.ports.items c.self.inside.commands.items t (sink_octets run.1.items) run.0) c.deref-3.ensures.value
    (subst (λ (t : List Command). RunsBridge c.self.inside.accepted.now c.self.inside.ports.items t c.deref-3.result.now (sink_octets run.1.items) run.0) c.deref-2.ensures.value
    (subst (λ (t : List ℕ). RunsBridge c.self.inside.accepted.now t c.deref-2.result.now c.deref-3.result.now (sink_octets run.1.items) run.0) c.deref.ensures.value c.in-Ok.ensures.runs)) in
    kept_ran c.self.inside.accepted.now c.self.inside.commands.items c.self.inside.ports.items (sender_values c.self.inside.senders.items) c.self.inside.texts.items run.1.items run.0
    all.numbers all.commands all.sent all.texts (c.in-Ok.ensures.many ∙ ap length c.deref.ensures.value) runs

pub returns-clause-complete : goal.returns-clause-complete
returns-clause-complete g c =
    let run = c.in-Ok.ran in
    let runs =
    subst (λ (t : List (List ℕ)). RunsBridge c.self.inside.accepted.now c.self.inside.ports.items c.self.inside.commands.items t (sink_octets run.1.items) run.0) c.deref-3.ensures.value
    (subst (λ (t : List Command). RunsBridge c.self.inside.accepted.now c.self.inside.ports.items t c.deref-3.result.now (sink_octets run.1.items) run.0) c.deref-2.ensures.value
    (subst (λ (t : List ℕ). RunsBridge c.self.inside.accepted.now t c.deref-2.result.now c.deref-3.result.now (sink_octets run.1.items) run.0) c.deref.ensures.value c.in-Ok.ensures.runs)) in
    subst (λ (s : BridgeRunState g.row.A.Denot). HasCompleteRun s) c.self.view_is (sink_octets run.1.items, run.0, runs)

pub returns-then-is_some-clause-complete : goal.returns-then-is_some-clause-complete
returns-then-is_some-clause-complete g c =
    let there = some_there c.self.inside.outcome (sym c.if-is_some.true ∙ c.is_some.ensures) in
    subst (λ (s : BridgeRunState g.row.A.Denot). HasCompleteRun s) c.self.view_is (sink_octets c.self.inside.taps.items, there.0, c.self.invariant.runs there.0 there.1)

pub returns-clause-runs : goal.returns-clause-runs
returns-clause-runs g c = (c.in-Ok.ran.0, refl)

pub returns-clause-same : goal.returns-clause-same
returns-clause-same g c = (ap (λ (s : BridgeRunState g.row.A.Denot). constant_part s) c.self.view_is, ap (λ (s : BridgeRunState g.row.A.Denot). s.texts) c.self.view_is)

pub returns-then-is_some-clause-same : goal.returns-then-is_some-clause-same
returns-then-is_some-clause-same g c = (refl, refl)

pub returns-then-is_some-clause-kept : goal.returns-then-is_some-clause-kept
returns-then-is_some-clause-kept g c = λ e. refl

pub run_over_inputs-requires-clause-numbers : goal.run_over_inputs-requires-clause-numbers
run_over_inputs-requires-clause-numbers g c = subst (λ (ns : List ℕ). ArePortNumbers c.self.inside.accepted.now ns) (sym c.deref.ensures.value) c.self.invariant.numbers

pub run_over_inputs-requires-clause-commands : goal.run_over_inputs-requires-clause-commands
run_over_inputs-requires-clause-commands g c = subst (λ (cs : List Command). AreCommands c.self.inside.accepted.now cs) (sym c.deref-2.ensures.value) c.self.invariant.commands

pub run_over_inputs-requires-clause-inputs : goal.run_over_inputs-requires-clause-inputs
run_over_inputs-requires-clause-inputs g c = ap length c.deref-3.ensures.value ∙ c.self.invariant.texts ∙ ap length (sym c.deref.ensures.value)
