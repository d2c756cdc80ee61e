use Rattle.std.proofs.Common.{ℕ, List, Bor, option_map, ap, subst}
use Rattle.net_run.specs.DelayedCapture.{AppendsDelayedRecord, IsRecordAppended}
use Rattle.net_run.proofs.Delaying.{appending_all, appending_more, appending_none}
use Rattle.net_run.proofs.Later.{adding_all, adding_more, adding_none}
use Rattle.net_run.proofs.delayed_capture.append_delayed_records.Goals as goal

pub loop-rest-init : goal.loop-rest-init
loop-rest-init g c = record {
  frames = adding_none c.args.delay c.args.octets.now c.args.text.now.items;
  exact = appending_none c.args.delay c.args.octets.now c.args.text.now.items;
}

pub loop-rest-preserved : goal.loop-rest-preserved
loop-rest-preserved g c =
    let is = ap (option_map (λ (s : Bor (List ℕ)). s.now)) c.in-Some.is in
    let fewer = c.in_ok-rest.ensures.fewer c.in-Some.rest.now is in
    record {
      frames = adding_more c.args.delay c.args.octets.now c.args.text.now.items c.loop-rest.left.now c.loop-rest.text.items c.append_delayed_record.new.text.items c.in-Some.rest.now fewer
          (subst (AppendsDelayedRecord c.args.delay c.loop-rest.left.now c.loop-rest.text.items c.append_delayed_record.new.text.items) is c.in_ok-rest.ensures.adds) c.loop-rest.invariant.frames;
      exact = appending_more c.args.delay c.args.octets.now c.args.text.now.items c.loop-rest.left.now c.loop-rest.text.items c.append_delayed_record.new.text.items c.in-Some.rest.now fewer
          (subst (IsRecordAppended c.args.delay c.loop-rest.left.now c.loop-rest.text.items c.append_delayed_record.new.text.items) is c.in_ok-rest.ensures.exact) c.loop-rest.invariant.exact;
    }

pub returns-clause-frames : goal.returns-clause-frames
returns-clause-frames g c =
    let is = ap (option_map (λ (s : Bor (List ℕ)). s.now)) c.in_default.is in
    adding_all c.args.delay c.args.octets.now c.args.text.now.items c.loop-rest.left.now c.loop-rest.text.items c.append_delayed_record.new.text.items (ap (λ v. v.items) (c.in_ok-rest.ensures.kept is))
    (subst (AppendsDelayedRecord c.args.delay c.loop-rest.left.now c.loop-rest.text.items c.append_delayed_record.new.text.items) is c.in_ok-rest.ensures.adds) c.loop-rest.invariant.frames

pub returns-clause-exact : goal.returns-clause-exact
returns-clause-exact g c =
    let is = ap (option_map (λ (s : Bor (List ℕ)). s.now)) c.in_default.is in
    appending_all c.args.delay c.args.octets.now c.args.text.now.items c.loop-rest.left.now c.loop-rest.text.items c.append_delayed_record.new.text.items (ap (λ v. v.items) (c.in_ok-rest.ensures.kept is))
    (subst (IsRecordAppended c.args.delay c.loop-rest.left.now c.loop-rest.text.items c.append_delayed_record.new.text.items) is c.in_ok-rest.ensures.exact) c.loop-rest.invariant.exact
