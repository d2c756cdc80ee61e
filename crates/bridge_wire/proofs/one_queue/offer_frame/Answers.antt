use Rattle.std.proofs.Common.{arith, ◌+◌, ◌≡◌, ◌++◌, ◌∷◌, [], ℕ, refl, ap, sym, ◌∙◌, subst, true, false}
use Rattle.std.specs.Prelude.{is_ok, is_none, Vec}
use Rattle.bridge_frame.specs.Frames.{parsed_head}
use Rattle.bridge_capture.specs.StandsFor.{last_time}
use Rattle.bridge_port.specs.declared.item.Item.{Item}
use Rattle.bridge_port.specs.StandsFor.{offer_refusal}
use Rattle.bridge_wire.specs.Wire.{is_well_formed, frame_offers}
use Rattle.bridge_wire.specs.Departures.{is_overlong, IsRunning}
use Rattle.bridge_wire.specs.OpenQueues.{arrived_frame, queue_state, with_frames}
use Rattle.bridge_wire.proofs.Running.{calm_before, running_malformed, stops_after, running_offered, offered_to, HasGone, counted, counted_sent, counted_full, not_overlong, within_offered}
use Rattle.bridge_wire.proofs.Queues.{some_same}
use Rattle.bridge_wire.proofs.one_queue.offer_frame.Goals as goal

pub returns-in-Err-clause-continues : goal.returns-in-Err-clause-continues
returns-in-Err-clause-continues g c = λ x room frames began there r.
    let contents = g.W.ByteSink.contents in
    let count = with_frames c.args.count.now in
    let new = queue_state c.send_due_frames.new.queue in
    let same = c.send_due_frames.ensures.same in
    let gone = c.in-Err.ensures.goes (frame_offers frames) count.sent count.full r.left r.sends in
    stops_after c.args.speed room frames (queue_state c.args.queue.now) new count c.args.time began (contents c.args.sink.now) (contents c.send_due_frames.new.sink) r refl same.0 same.1 (c.in-Err.ensures.late (last_time 0 frames) r.calm) (c.send_due_frames.ensures.earliest c.requires.time.0) gone.0 gone.1 gone.2

pub returns-in-Err-parse-clause-continues : goal.returns-in-Err-parse-clause-continues
returns-in-Err-parse-clause-continues g c = λ x room frames began there r.
    let contents = g.W.ByteSink.contents in
    let same = c.send_due_frames.ensures.same in
    let mid = queue_state c.send_due_frames.new.queue in
    let d = c.in_default.ensures.due in
    let is : c.ahead-ahead.result.now ≡ x = some_same _ _ (sym c.ahead-ahead.ensures ∙ (same.3 ∙ there)) in
    let none : is_well_formed (arrived_frame c.args.time c.ahead-ahead.result.now) ≡ false = sym (ap is_ok (c.in-Err-parse.ensures.exact ∙ ap (λ octets. parsed_head octets c.ahead-ahead.result.now.len) c.deref.ensures.value)) in
    let gone : HasGone (queue_state c.args.queue.now) mid (contents c.args.sink.now) (contents c.send_due_frames.new.sink) = record { list = refl; speed = same.0; rooms = same.1; offered = same.2; within = c.send_due_frames.ensures.within; goes = λ offers sent full left s. c.in_default.ensures.goes offers sent full left s } in
    let count = c.args.count.now in
    let one : count.malformed + 1 + count.sent + count.full ≡ count.malformed + count.sent + count.full + 1 = omega arith in
    subst (λ n. IsRunning c.args.speed room (frames ++ arrived_frame c.args.time x ∷ []) mid (record count { frames = n; malformed = count.malformed + 1 }) began (contents c.send_due_frames.new.sink)) (sym one)
    (running_malformed c.args.speed room frames (queue_state c.args.queue.now) mid (with_frames count) began (contents c.args.sink.now) (contents c.send_due_frames.new.sink) (arrived_frame c.args.time x) (subst (λ (y : Item (Vec ℕ _)). is_well_formed (arrived_frame c.args.time y) ≡ false) is none) (c.send_due_frames.ensures.earliest c.requires.time.0) (calm_before mid c.args.time d.0 d.1 d.2) gone r)

pub returns-then-offer-clause-continues : goal.returns-then-offer-clause-continues
returns-then-offer-clause-continues g c = λ x room frames began there r.
    let contents = g.W.ByteSink.contents in
    let count = c.args.count.now in
    let d = c.in_default.ensures.due in
    let mid = queue_state c.send_due_frames.new.queue in
    let y = c.ahead-ahead.result.now in
    let same = c.send_due_frames.ensures.same in
    let short = not_overlong y (c.requires.octets y (sym same.3 ∙ c.ahead-ahead.ensures)).1 in
    let given = offered_to mid (queue_state c.offer.new.self) c.args.time y (c.offer.ensures.moved y c.ahead-ahead.ensures) (omega arith) (c.send_due_frames.ensures.earliest c.requires.time.0) (calm_before mid c.args.time d.0 d.1 d.2) in
    let gone : HasGone (queue_state c.args.queue.now) mid (contents c.args.sink.now) (contents c.send_due_frames.new.sink) = record { list = refl; speed = same.0; rooms = same.1; offered = same.2; within = c.send_due_frames.ensures.within; goes = λ offers sent full left s. c.in_default.ensures.goes offers sent full left s } in
    let is : y ≡ x = some_same _ _ (sym c.ahead-ahead.ensures ∙ (same.3 ∙ there)) in
    let some : is_well_formed (arrived_frame c.args.time y) ≡ true = sym (ap is_ok (c.in-Ok.ensures.exact ∙ ap (λ octets. parsed_head octets y.len) c.deref.ensures.value)) in
    let answer : true ≡ is_none (offer_refusal mid 0 y) = sym c.if-offer.true ∙ c.offer.ensures.answer y c.ahead-ahead.ensures in
    let running = running_offered c.args.speed room frames (queue_state c.args.queue.now) mid (queue_state c.offer.new.self) (with_frames count) began (contents c.args.sink.now) (contents c.send_due_frames.new.sink) (arrived_frame c.args.time y) y some refl short gone given r in
    let one : count.malformed + (count.sent + 1) + count.full ≡ count.malformed + count.sent + count.full + 1 = omega arith in
    let counts = ap (λ n. record count { frames = n; sent = count.sent + 1 }) one ∙ (counted_sent (with_frames count) ∙ ap (counted (with_frames count)) answer) in
    subst (λ (z : Item (Vec ℕ _)). IsRunning c.args.speed room (frames ++ arrived_frame c.args.time z ∷ []) (queue_state c.offer.new.self) (record count { frames = count.malformed + (count.sent + 1) + count.full; sent = count.sent + 1 }) began (contents c.send_due_frames.new.sink)) is (subst (λ n. IsRunning c.args.speed room (frames ++ arrived_frame c.args.time y ∷ []) (queue_state c.offer.new.self) n began (contents c.send_due_frames.new.sink)) (sym counts) running)

pub returns-then-offer-clause-same : goal.returns-then-offer-clause-same
returns-then-offer-clause-same g c =
    let d = c.in_default.ensures.due in
    let mid = queue_state c.send_due_frames.new.queue in
    let y = c.ahead-ahead.result.now in
    let same = c.send_due_frames.ensures.same in
    let short = not_overlong y (c.requires.octets y (sym same.3 ∙ c.ahead-ahead.ensures)).1 in
    let given = offered_to mid (queue_state c.offer.new.self) c.args.time y (c.offer.ensures.moved y c.ahead-ahead.ensures) (omega arith) (c.send_due_frames.ensures.earliest c.requires.time.0) (calm_before mid c.args.time d.0 d.1 d.2) in
    (c.offer.ensures.same.0 ∙ (same.0 ∙ c.requires.speed), within_offered _ (is_overlong y) _ _ (given.counts is_overlong) short c.send_due_frames.ensures.within)

pub returns-then-offer-clause-early : goal.returns-then-offer-clause-early
returns-then-offer-clause-early g c = let e = c.offer.ensures.same.1 in omega (arith, e)

pub returns-then-offer-clause-counts : goal.returns-then-offer-clause-counts
returns-then-offer-clause-counts g c =
    let offered = c.offer.ensures.same.2 in
    let same = c.send_due_frames.ensures.same.2 in
    let few = c.requires.offered in
    (omega arith, omega (arith, offered, same, few))

pub returns-else-offer-clause-continues : goal.returns-else-offer-clause-continues
returns-else-offer-clause-continues g c = λ x room frames began there r.
    let contents = g.W.ByteSink.contents in
    let count = c.args.count.now in
    let d = c.in_default.ensures.due in
    let mid = queue_state c.send_due_frames.new.queue in
    let y = c.ahead-ahead.result.now in
    let same = c.send_due_frames.ensures.same in
    let short = not_overlong y (c.requires.octets y (sym same.3 ∙ c.ahead-ahead.ensures)).1 in
    let given = offered_to mid (queue_state c.offer.new.self) c.args.time y (c.offer.ensures.moved y c.ahead-ahead.ensures) (omega arith) (c.send_due_frames.ensures.earliest c.requires.time.0) (calm_before mid c.args.time d.0 d.1 d.2) in
    let gone : HasGone (queue_state c.args.queue.now) mid (contents c.args.sink.now) (contents c.send_due_frames.new.sink) = record { list = refl; speed = same.0; rooms = same.1; offered = same.2; within = c.send_due_frames.ensures.within; goes = λ offers sent full left s. c.in_default.ensures.goes offers sent full left s } in
    let is : y ≡ x = some_same _ _ (sym c.ahead-ahead.ensures ∙ (same.3 ∙ there)) in
    let some : is_well_formed (arrived_frame c.args.time y) ≡ true = sym (ap is_ok (c.in-Ok.ensures.exact ∙ ap (λ octets. parsed_head octets y.len) c.deref.ensures.value)) in
    let answer : false ≡ is_none (offer_refusal mid 0 y) = sym c.if-offer.false ∙ c.offer.ensures.answer y c.ahead-ahead.ensures in
    let running = running_offered c.args.speed room frames (queue_state c.args.queue.now) mid (queue_state c.offer.new.self) (with_frames count) began (contents c.args.sink.now) (contents c.send_due_frames.new.sink) (arrived_frame c.args.time y) y some refl short gone given r in
    let one : count.malformed + count.sent + (count.full + 1) ≡ count.malformed + count.sent + count.full + 1 = omega arith in
    let counts = ap (λ n. record count { frames = n; full = count.full + 1 }) one ∙ (counted_full (with_frames count) ∙ ap (counted (with_frames count)) answer) in
    subst (λ (z : Item (Vec ℕ _)). IsRunning c.args.speed room (frames ++ arrived_frame c.args.time z ∷ []) (queue_state c.offer.new.self) (record count { frames = count.malformed + count.sent + (count.full + 1); full = count.full + 1 }) began (contents c.send_due_frames.new.sink)) is (subst (λ n. IsRunning c.args.speed room (frames ++ arrived_frame c.args.time y ∷ []) (queue_state c.offer.new.self) n began (contents c.send_due_frames.new.sink)) (sym counts) running)

pub returns-else-offer-clause-same : goal.returns-else-offer-clause-same
returns-else-offer-clause-same g c =
    let d = c.in_default.ensures.due in
    let mid = queue_state c.send_due_frames.new.queue in
    let y = c.ahead-ahead.result.now in
    let same = c.send_due_frames.ensures.same in
    let short = not_overlong y (c.requires.octets y (sym same.3 ∙ c.ahead-ahead.ensures)).1 in
    let given = offered_to mid (queue_state c.offer.new.self) c.args.time y (c.offer.ensures.moved y c.ahead-ahead.ensures) (omega arith) (c.send_due_frames.ensures.earliest c.requires.time.0) (calm_before mid c.args.time d.0 d.1 d.2) in
    (c.offer.ensures.same.0 ∙ (same.0 ∙ c.requires.speed), within_offered _ (is_overlong y) _ _ (given.counts is_overlong) short c.send_due_frames.ensures.within)

pub returns-else-offer-clause-early : goal.returns-else-offer-clause-early
returns-else-offer-clause-early g c = let e = c.offer.ensures.same.1 in omega (arith, e)

pub returns-else-offer-clause-counts : goal.returns-else-offer-clause-counts
returns-else-offer-clause-counts g c =
    let offered = c.offer.ensures.same.2 in
    let same = c.send_due_frames.ensures.same.2 in
    let few = c.requires.offered in
    (omega arith, omega (arith, offered, same, few))
