use Rattle.std.proofs.Common.{false, length, refl, ◌≡◌, ◌≤◌, Vec, ℕ, ap, sym, ◌∙◌, subst, append-nil, arith, [], ◌∷◌, ◌++◌}
use Rattle.std.specs.Io.KnownBytes.{Appends}
use Rattle.bridge_capture.specs.WrittenCapture.{written_record, written_frame}
use Rattle.bridge_capture.specs.Sinks.{AppendsPrefix}
use Rattle.bridge_limits.specs.declared.TheConstants.{LONGEST_FRAME}
use Rattle.bridge_port.specs.declared.item.Item.{Item}
use Rattle.bridge_port.specs.StandsFor.{count_queued, IsNextStart, started_state}
use Rattle.bridge_port.proofs.Keeping.{started_counts, started_stands}
use Rattle.bridge_wire.specs.Wire.{departure, IsWritable}
use Rattle.bridge_wire.specs.Departures.{item_frame, is_overlong}
use Rattle.bridge_wire.specs.OpenQueues.{queue_state}
use Rattle.bridge_wire.proofs.Queues.{oldest_of_all, starts_item}
use Rattle.bridge_wire.proofs.Sends.{sends_start, start_late, within_of}
use Rattle.std.proofs.lemmas.Bool.{ltb-false}
use Rattle.bridge_wire.proofs.departures.send_next.Goals as goal

pub returns-then-is_written-clause-goes : goal.returns-then-is_written-clause-goes
returns-then-is_written-clause-goes g c = λ offers sent full left s.
    let x = c.oldest-item.result.now in
    let q = c.args.queue.now in
    let next : IsNextStart (queue_state q) c.args.start 0 x = subst (λ (k : ℕ). IsNextStart (queue_state q) k 0 x) (sym c.requires.due) (starts_item q.speed _ _ q.free q.earliest q.offered q.started x c.oldest-item.ensures) in
    let moved = c.start.ensures.moved x c.oldest-item.ensures in
    let d = departure q.speed c.args.start (item_frame x) in
    let octets = c.deref.result.now in
    let whole : is_overlong x ≡ false = within_of (is_overlong x) (count_queued is_overlong (queue_state c.start.new.self)) (count_queued is_overlong (queue_state q)) (started_counts (queue_state q) (queue_state c.start.new.self) c.args.start 0 x next moved is_overlong) c.requires.within in
    let short : IsWritable d = (oldest_of_all (λ (y : Item (Vec ℕ _)). y.len ≤ LONGEST_FRAME) _ x c.oldest-item.ensures q.short, ltb-false x.len (length x.load.items) whole) in
    let done : c.end_of_transmission-end.result ≡ d.time = c.end_of_transmission-end.ensures.end x c.oldest-item.ensures in
    let text : written_record c.end_of_transmission-end.result x.len octets ≡ written_frame d ++ [] = ap (λ n. written_record n x.len octets) done ∙ (ap (written_record d.time x.len) c.deref.ensures.value ∙ sym (append-nil (written_frame d))) in
    (d ∷ [], sends_start (queue_state q) (queue_state c.start.new.self) c.args.start 0 x next moved (started_stands (queue_state q) (queue_state c.start.new.self) c.args.start 0 x next moved) short offers sent full left s, subst (Appends _ _) text (c.write_record-is_written.ensures.whole c.if-is_written.true))

pub returns-clause-goes : goal.returns-clause-goes
returns-clause-goes g c = λ offers sent full left s.
    let x = c.oldest-item.result.now in
    let q = c.args.queue.now in
    let next : IsNextStart (queue_state q) c.args.start 0 x = subst (λ (k : ℕ). IsNextStart (queue_state q) k 0 x) (sym c.requires.due) (starts_item q.speed _ _ q.free q.earliest q.offered q.started x c.oldest-item.ensures) in
    let moved = c.start.ensures.moved x c.oldest-item.ensures in
    let d = departure q.speed c.args.start (item_frame x) in
    let octets = c.deref.result.now in
    let whole : is_overlong x ≡ false = within_of (is_overlong x) (count_queued is_overlong (queue_state c.start.new.self)) (count_queued is_overlong (queue_state q)) (started_counts (queue_state q) (queue_state c.start.new.self) c.args.start 0 x next moved is_overlong) c.requires.within in
    let short : IsWritable d = (oldest_of_all (λ (y : Item (Vec ℕ _)). y.len ≤ LONGEST_FRAME) _ x c.oldest-item.ensures q.short, ltb-false x.len (length x.load.items) whole) in
    let done : c.end_of_transmission-end.result ≡ d.time = c.end_of_transmission-end.ensures.end x c.oldest-item.ensures in
    let text : written_record c.end_of_transmission-end.result x.len octets ≡ written_frame d ++ [] = ap (λ n. written_record n x.len octets) done ∙ (ap (written_record d.time x.len) c.deref.ensures.value ∙ sym (append-nil (written_frame d))) in
    (d ∷ [], sends_start (queue_state q) (queue_state c.start.new.self) c.args.start 0 x next moved (started_stands (queue_state q) (queue_state c.start.new.self) c.args.start 0 x next moved) short offers sent full left s, subst (AppendsPrefix _ _) text (c.write_record-is_written.ensures.front c.if-is_written.false))

pub returns-then-is_written-clause-within : goal.returns-then-is_written-clause-within
returns-then-is_written-clause-within g c =
    let x = c.oldest-item.result.now in
    let q = c.args.queue.now in
    let next : IsNextStart (queue_state q) c.args.start 0 x = subst (λ (k : ℕ). IsNextStart (queue_state q) k 0 x) (sym c.requires.due) (starts_item q.speed _ _ q.free q.earliest q.offered q.started x c.oldest-item.ensures) in
    let moved = c.start.ensures.moved x c.oldest-item.ensures in
    let counts = started_counts (queue_state q) (queue_state c.start.new.self) c.args.start 0 x next moved is_overlong in
    let none = c.requires.within in
    omega (arith, counts, none)

pub returns-then-is_written-clause-late : goal.returns-then-is_written-clause-late
returns-then-is_written-clause-late g c = λ h calm.
    let x = c.oldest-item.result.now in
    let q = c.args.queue.now in
    let next : IsNextStart (queue_state q) c.args.start 0 x = subst (λ (k : ℕ). IsNextStart (queue_state q) k 0 x) (sym c.requires.due) (starts_item q.speed _ _ q.free q.earliest q.offered q.started x c.oldest-item.ensures) in
    let moved = c.start.ensures.moved x c.oldest-item.ensures in
    let l = start_late (queue_state q) c.args.start 0 x h next calm in
    let at = c.start.ensures.next in
    omega (arith, l, at)

pub returns-clause-within : goal.returns-clause-within
returns-clause-within g c =
    let x = c.oldest-item.result.now in
    let q = c.args.queue.now in
    let next : IsNextStart (queue_state q) c.args.start 0 x = subst (λ (k : ℕ). IsNextStart (queue_state q) k 0 x) (sym c.requires.due) (starts_item q.speed _ _ q.free q.earliest q.offered q.started x c.oldest-item.ensures) in
    let moved = c.start.ensures.moved x c.oldest-item.ensures in
    let counts = started_counts (queue_state q) (queue_state c.start.new.self) c.args.start 0 x next moved is_overlong in
    let none = c.requires.within in
    omega (arith, counts, none)

pub returns-clause-late : goal.returns-clause-late
returns-clause-late g c = λ h calm.
    let x = c.oldest-item.result.now in
    let q = c.args.queue.now in
    let next : IsNextStart (queue_state q) c.args.start 0 x = subst (λ (k : ℕ). IsNextStart (queue_state q) k 0 x) (sym c.requires.due) (starts_item q.speed _ _ q.free q.earliest q.offered q.started x c.oldest-item.ensures) in
    let moved = c.start.ensures.moved x c.oldest-item.ensures in
    let l = start_late (queue_state q) c.args.start 0 x h next calm in
    let at = c.start.ensures.next in
    omega (arith, l, at)

pub returns-then-is_written-clause-same : goal.returns-then-is_written-clause-same
returns-then-is_written-clause-same g c = c.start.ensures.same

pub returns-clause-same : goal.returns-clause-same
returns-clause-same g c = c.start.ensures.same

pub write_record-is_written-requires-clause-captured : goal.write_record-is_written-requires-clause-captured
write_record-is_written-requires-clause-captured g c =
    let x = c.oldest-item.result.now in
    let q = c.args.queue.now in
    let next : IsNextStart (queue_state q) c.args.start 0 x = subst (λ (k : ℕ). IsNextStart (queue_state q) k 0 x) (sym c.requires.due) (starts_item q.speed _ _ q.free q.earliest q.offered q.started x c.oldest-item.ensures) in
    let counts = started_counts (queue_state q) (started_state (queue_state q) c.args.start 0 x) c.args.start 0 x next refl is_overlong in
    let whole : length x.load.items ≤ x.len = ltb-false x.len (length x.load.items) (within_of (is_overlong x) (count_queued is_overlong (started_state (queue_state q) c.args.start 0 x)) (count_queued is_overlong (queue_state q)) counts c.requires.within) in
    let same = ap length c.deref.ensures.value in
    let short = oldest_of_all (λ (y : Item (Vec ℕ _)). y.len ≤ LONGEST_FRAME) _ x c.oldest-item.ensures q.short in
    omega (arith, whole, same, short)

pub write_record-is_written-requires-clause-original : goal.write_record-is_written-requires-clause-original
write_record-is_written-requires-clause-original g c =
    let x = c.oldest-item.result.now in
    let q = c.args.queue.now in
    let next : IsNextStart (queue_state q) c.args.start 0 x = subst (λ (k : ℕ). IsNextStart (queue_state q) k 0 x) (sym c.requires.due) (starts_item q.speed _ _ q.free q.earliest q.offered q.started x c.oldest-item.ensures) in
    let counts = started_counts (queue_state q) (started_state (queue_state q) c.args.start 0 x) c.args.start 0 x next refl is_overlong in
    let whole : length x.load.items ≤ x.len = ltb-false x.len (length x.load.items) (within_of (is_overlong x) (count_queued is_overlong (started_state (queue_state q) c.args.start 0 x)) (count_queued is_overlong (queue_state q)) counts c.requires.within) in
    let same = ap length c.deref.ensures.value in
    omega (arith, whole, same)
