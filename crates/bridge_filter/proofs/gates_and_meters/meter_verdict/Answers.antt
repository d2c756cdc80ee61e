use Rattle.std.proofs.Common.{◌≡◌, ◌≤◌, ℕ, Bool, true, false, ◌∙◌, sym, ap, arith}
use Rattle.std.specs.Prelude.{if◌then◌else◌}
use Rattle.indexmap.specs.Layout.{set_value_at}
use Rattle.indexmap.proofs.CallerLemmas.{keys-with_value_at}
use Rattle.bridge_meter.specs.declared.MeterPlan.{MeterPlan}
use Rattle.bridge_meter.specs.declared.Colour.{Colour}
use Rattle.bridge_meter.specs.Colours.{Arrived}
use Rattle.bridge_filter.specs.Verdicts.{colour_verdict}
use Rattle.bridge_filter.proofs.Numbered.{changes_at, changes_of, found_at, number_is}
use Rattle.bridge_filter.proofs.Shares.{meters_after, meters_before}
use Rattle.bridge_filter.proofs.gates_and_meters.meter_verdict.Goals as goal

not_after : (b : Bool) (x was t : ℕ) → x ≡ (if b then was else t) → was ≤ t → x ≤ t
not_after true x was t e h = omega arith
not_after false x was t e h = omega arith

pub colour-colour-requires : goal.colour-colour-requires
colour-colour-requires g c =
    let at = c.pair_mut-meter in
    c.requires.before at.result.0.now at.result.1.now (found_at c.args.meters.now c.args.place at.result.0.now at.result.1.now at.ensures.unique at.ensures.value)

pub returns-clause-stand : goal.returns-clause-stand
returns-clause-stand g c = λ number plans share there stand.
    let at = c.pair_mut-meter in
    let m = c.args.meters.now in
    let k = at.result.0.now in
    let was = at.result.1.now in
    let is = c.colour-colour.new.self in
    let change = changes_of m c.args.place k number was is (number_is m.entries c.args.place k number was at.ensures.value there) at.ensures.unique at.ensures.value in
    meters_after m.entries (set_value_at m.entries c.args.place is) number was is (Arrived c.args.call.at c.args.call.octets c.args.call.dei) change c.colour-colour.ensures.stands plans share stand

pub returns-clause-verdict : goal.returns-clause-verdict
returns-clause-verdict g c = λ number plans share there stand.
    let at = c.pair_mut-meter in
    let m = c.args.meters.now in
    let k = at.result.0.now in
    let was = at.result.1.now in
    let change = changes_of m c.args.place k number was was (number_is m.entries c.args.place k number was at.ensures.value there) at.ensures.unique at.ensures.value in
    let st = stand number was change.there in
    let same = c.plan-drop_yellow.ensures.stands (plans number) (share number) st in
    let colour = c.colour-colour.ensures.colour (plans number) (share number) st in
    c.colour_verdict.ensures.verdict (plans number) (sym (ap (λ (p : MeterPlan). p.drop_yellow) same)) ∙ ap (λ (x : Colour). colour_verdict (plans number) c.args.ipv x) colour

pub returns-clause-before : goal.returns-clause-before
returns-clause-before g c =
    let at = c.pair_mut-meter in
    let m = c.args.meters.now in
    let was = at.result.1.now in
    let is = c.colour-colour.new.self in
    let change = changes_at m c.args.place at.result.0.now was is at.ensures.unique at.ensures.value in
    let le = c.requires.before at.result.0.now was change.there in
    meters_before m.entries (set_value_at m.entries c.args.place is) at.result.0.now c.args.call.at was is change (not_after was.buckets.all_red is.buckets.at was.buckets.at c.args.call.at c.colour-colour.ensures.at le) c.requires.before

pub returns-clause-same : goal.returns-clause-same
returns-clause-same g c = keys-with_value_at c.args.meters.now c.args.place c.colour-colour.new.self
