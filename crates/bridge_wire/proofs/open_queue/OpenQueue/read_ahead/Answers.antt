use Rattle.std.proofs.Common.{◌≡◌, List, ◌≤◌, All, length, Ok, ◌<◌, sym, subst, refl, append-nil, length-set}
use Rattle.bridge_limits.specs.declared.TheConstants.{END_OF_TIME, LONGEST_FRAME, MAX_CAPTURED_OCTETS}
use Rattle.bridge_capture.specs.Grammar.{CapturedFrame}
use Rattle.bridge_capture.specs.Reading.{IfPacket, packet_result}
use Rattle.bridge_capture.specs.StandsFor.{AnswersNext, IsReading, StandsFor}
use Rattle.bridge_capture.specs.declared.packet.Packet.{Packet}
use Rattle.bridge_wire.proofs.Rings.{ring_ahead, stored}
use Rattle.bridge_wire.proofs.Queues.{place_read, place_sound}
use Rattle.bridge_wire.specs.Rings.{IsRing}
use Rattle.bridge_wire.proofs.open_queue.OpenQueue.read_ahead.Goals as goal

pub invariant_of-self-clause-short : goal.invariant_of-self-clause-short
invariant_of-self-clause-short g c =
    let q = c.args.self.now in
    let r : IsRing (length q.places.items) q.head q.tail q.queued = subst (λ n. IsRing n q.head q.tail q.queued) q.places.ok.0 q.ring in
    subst (All (λ x. x.len ≤ LONGEST_FRAME)) (sym (ring_ahead q.places.items q.head q.tail q.queued _ r)) q.short

pub invariant_of-self-in-Ok-None-clause-short : goal.invariant_of-self-in-Ok-None-clause-short
invariant_of-self-in-Ok-None-clause-short g c =
    let q = c.args.self.now in
    let r : IsRing (length q.places.items) q.head q.tail q.queued = subst (λ n. IsRing n q.head q.tail q.queued) q.places.ok.0 q.ring in
    subst (All (λ x. x.len ≤ LONGEST_FRAME)) (sym (ring_ahead q.places.items q.head q.tail q.queued _ r)) q.short

pub invariant_of-self-in-Err-1 : goal.invariant_of-self-in-Err-1
invariant_of-self-in-Err-1 g c =
    let q = c.args.self.now in
    let r : IsRing (length q.places.items) q.head q.tail q.queued = subst (λ n. IsRing n q.head q.tail q.queued) q.places.ok.0 q.ring in
    record {
      ring = q.ring;
      short = subst (All (λ x. x.len ≤ LONGEST_FRAME)) (sym (ring_ahead q.places.items q.head q.tail q.queued _ r)) q.short;
      freed = q.freed;
      met = q.met;
      counted = q.counted;
      few = q.few;
    }

pub returns-in-Ok-Some-clause-looks : goal.returns-in-Ok-Some-clause-looks
returns-in-Ok-Some-clause-looks g c = λ text taken st.
    let q = c.args.self.now in
    let r : IsRing (length q.places.items) q.head q.tail q.queued = subst (λ n. IsRing n q.head q.tail q.queued) q.places.ok.0 q.ring in
    let next = subst (λ o. AnswersNext c.read_packet.new.self (g.R.ByteSource.remaining c.read_packet.new.source) text taken (packet_result c.read_packet.new.octets (Ok o))) c.in-Ok-Some.field-0-is (c.in-Ok-Some.ensures.stands text taken st) in
    place_read _ _ _ _ _ text taken (stored q.places.items q.tail _ r.to) next.0 next.1

pub returns-in-Ok-Some-clause-lane : goal.returns-in-Ok-Some-clause-lane
returns-in-Ok-Some-clause-lane g c =
    let q = c.args.self.now in
    let r : IsRing (length q.places.items) q.head q.tail q.queued = subst (λ n. IsRing n q.head q.tail q.queued) q.places.ok.0 q.ring in
    let e = c.in-Ok-Some.ensures in
    let given = λ (P : Packet _ → Type 0) (p : IfPacket (packet_result c.read_packet.new.octets (Ok c.in-Ok-Some.field-0)) P). subst (λ o. IfPacket (packet_result c.read_packet.new.octets (Ok o)) P) c.in-Ok-Some.field-0-is p in
    place_sound _ _ _ _ (stored q.places.items q.tail _ r.to) (given (λ p. IsReading c.read_packet.new.self) e.reading) (given (λ p. c.read_packet.new.self.latest ≡ p.time) e.latest) (given (λ p. p.time < END_OF_TIME) e.early) (given (λ p. length p.octets.items ≤ MAX_CAPTURED_OCTETS) e.small) (given (λ p. length p.octets.items ≤ p.len) e.within)

pub returns-in-Ok-Some-clause-same : goal.returns-in-Ok-Some-clause-same
returns-in-Ok-Some-clause-same g c =
    let q = c.args.self.now in
    let r : IsRing (length q.places.items) q.head q.tail q.queued = subst (λ n. IsRing n q.head q.tail q.queued) q.places.ok.0 q.ring in
    rw (length-set, ring_ahead q.places.items q.head q.tail q.queued _ r) refl

pub returns-in-Ok-None-clause-looks : goal.returns-in-Ok-None-clause-looks
returns-in-Ok-None-clause-looks g c = λ text taken st.
    let next = subst (λ o. AnswersNext c.read_packet.new.self (g.R.ByteSource.remaining c.read_packet.new.source) text taken (packet_result c.read_packet.new.octets (Ok o))) c.in-Ok-None.field-0-is (c.in-Ok-None.ensures.stands text taken st) in
    record { stands = subst (λ (given : List CapturedFrame). StandsFor c.read_packet.new.self (g.R.ByteSource.remaining c.read_packet.new.source) text given) (sym (append-nil taken)) next.0; finds = next.1 }

pub returns-in-Ok-None-clause-same : goal.returns-in-Ok-None-clause-same
returns-in-Ok-None-clause-same g c =
    let q = c.args.self.now in
    let r : IsRing (length q.places.items) q.head q.tail q.queued = subst (λ n. IsRing n q.head q.tail q.queued) q.places.ok.0 q.ring in
    rw (length-set, ring_ahead q.places.items q.head q.tail q.queued _ r) refl

pub returns-in-Err-clause-same : goal.returns-in-Err-clause-same
returns-in-Err-clause-same g c =
    let q = c.args.self.now in
    let r : IsRing (length q.places.items) q.head q.tail q.queued = subst (λ n. IsRing n q.head q.tail q.queued) q.places.ok.0 q.ring in
    rw (length-set, ring_ahead q.places.items q.head q.tail q.queued _ r) refl
