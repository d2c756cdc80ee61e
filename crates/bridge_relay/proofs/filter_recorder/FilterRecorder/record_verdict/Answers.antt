use Rattle.std.proofs.Common.{◌≡◌, ◌∙◌, ◌++◌, ◌∷◌, [], ap, true}
use Rattle.bridge_filter.specs.declared.Verdict.{Verdict}
use Rattle.bridge_semantics.specs.declared.outcome.Origin.{Origin}
use Rattle.bridge_relay.specs.Recorders.{RecorderState}
use Rattle.bridge_relay.proofs.Rooms.{number_fits, room_closed, room_open}
use Rattle.bridge_relay.proofs.Tabling.{judged_is}
use Rattle.bridge_relay.proofs.filter_recorder.FilterRecorder.record_verdict.Goals as goal

pub push_reserved-requires : goal.push_reserved-requires
push_reserved-requires g c = room_open _ _ c.self.inside.is_open c.self.invariant.for_verdict (ap (λ (t : RecorderState). t.is_open) c.self.view_is ∙ c.requires.open)

pub push_reserved-requires-2 : goal.push_reserved-requires-2
push_reserved-requires-2 g c = room_open _ _ c.self.inside.is_open c.self.invariant.for_origin (ap (λ (t : RecorderState). t.is_open) c.self.view_is ∙ c.requires.open)

pub invariant_of-self : goal.invariant_of-self
invariant_of-self g c =
    let was = c.self.invariant in
    let open_so : c.self.inside.is_open ≡ true = ap (λ (t : RecorderState). t.is_open) c.self.view_is ∙ c.requires.open in
    record {
      for_verdict = room_closed _ _ _ _ c.self.inside.is_open was.for_verdict open_so c.push_reserved.ensures.len c.push_reserved.ensures.capacity;
      for_number = number_fits _ _ c.self.inside.is_open was.for_number open_so c.push_reserved.ensures.len;
      for_origin = room_closed _ _ _ _ c.self.inside.is_open was.for_origin open_so c.push_reserved-2.ensures.len c.push_reserved-2.ensures.capacity;
      for_departures = was.for_departures;
      for_drops = was.for_drops;
    }

pub returns-clause-told : goal.returns-clause-told
returns-clause-told g c = judged_is _ c.args.self.now _ _ c.args.verdict c.args.origin c.self.view_is
    (c.push_reserved.ensures.items ∙ ap (λ (v : Verdict). c.self.inside.verdicts.items ++ v ∷ []) c.new.ensures)
    (c.push_reserved-2.ensures.items ∙ ap (λ (o : Origin). c.self.inside.origins.items ++ o ∷ []) c.new-2.ensures)
