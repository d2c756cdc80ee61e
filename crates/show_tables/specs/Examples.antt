-- Computed examples of rows of the tables of delays and frames.
use Rattle.std.specs.Prelude.{◌≡◌, ℕ, true, false, None, Some, List, [], ◌∷◌, codes, refl}
use Rattle.std.specs.Fmt.{digits}
use Rattle.bridge_filter.specs.declared.Verdict.TheVariants as verdict
use Rattle.bridge_port.specs.declared.item.Refusal.TheVariants as refusal
use Rattle.bridge_semantics.specs.declared.outcome.Departure.{Departure}
use Rattle.bridge_semantics.specs.declared.outcome.Dropped.{Dropped}
use Rattle.bridge_semantics.specs.declared.outcome.Origin.{Origin}
use Rattle.bridge_semantics.specs.declared.outcome.View.{View}
use Rattle.show_tables.specs.FrameTable.{drop_row, make_frame, frame_rows, row_start, departure_row, lone_row}
use Rattle.show_tables.specs.Losses.{filter_fields, gate_fields, loss_fields, meter_fields}
use Rattle.show_tables.specs.PortBounds.{greatest_bound}
use Rattle.show_tables.specs.GroupBounds.{group_bound}
use Rattle.bridge_groups.specs.declared.shared_queues.SharedQueue.{SharedQueue}
use Rattle.show_tables.specs.DelayTable.{port_delays, figure_fields, port_row, unsent_row}

-- The origin of a frame that arrived on port 1 at time `at`.
abbrev came : ℕ → Origin
came at = record { port = 1; at = at }

-- Departures of two frames: one of the second frame, then two of the first frame at two ports.
abbrev left : List Departure
left = record { own = 2; port = 3; start = 200000; done = 200672 } ∷ record { own = 1; port = 4; start = 300000; done = 300672 } ∷ record { own = 1; port = 3; start = 300000; done = 300672 } ∷ []

-- A copy that was dropped by a full queue.
abbrev lost : List Dropped
lost = record { own = 3; port = 3; refusal = refusal.Full } ∷ []

-- A shared queue of class 6, by its group, port and bound in ns.
abbrev queue : ℕ → ℕ → ℕ → SharedQueue
queue group port bound = record { group = group; port = port; class = 6; bound = bound; is_metered = true; room = None; capacity = 16; by_gates = None; padded = None; is_apart = false }

-- Each copy has a row, by rising port.
pub two_copies : frame_rows (make_frame 10 1 (came 100000) (verdict.Pass None false)) left lost ≡ codes "10,1,1,100000,pass,3,300000,300672,200672,\n10,1,1,100000,pass,4,300000,300672,200672,\n"
unfolding row_start departure_row digits
two_copies = refl

-- A dropped copy has a row.
pub one_dropped : frame_rows (make_frame 10 3 (came 150000) (verdict.Pass None true)) left lost ≡ codes "10,3,1,150000,pass-eligible,3,,,,full\n"
unfolding row_start drop_row digits
one_dropped = refl

-- A frame without copies has a row.
pub one_refused : frame_rows (make_frame 10 4 (came 160000) verdict.GateClosed) left lost ≡ codes "10,4,1,160000,gate-closed,,,,,\n"
unfolding row_start lone_row digits
one_refused = refl

-- The delays of the two copies that left by port 3.
pub delays : port_delays (came 100000 ∷ came 190000 ∷ []) 3 left ≡ 10672 ∷ 200672 ∷ []
delays = refl

-- The figures of three delays: least, mean, greatest and jitter.
pub figures : figure_fields (672 ∷ 700 ∷ 675 ∷ []) ≡ codes "672,682,700,28,"
unfolding digits
figures = refl

-- The greatest bound of several classes.
pub greatest : greatest_bound (None ∷ Some 5 ∷ Some 7 ∷ None ∷ Some 3 ∷ []) ≡ Some 7
greatest = refl

-- The greatest bound of a group at port 5: a queue of another group or of another port doesn't count.
pub shared : group_bound (queue 1 5 300 ∷ queue 2 5 900 ∷ queue 1 4 800 ∷ queue 1 5 700 ∷ []) 1 5 ≡ Some 700
shared = refl

-- The row of a filter with two frames: one left by port 3, and the stream gate refused the other.
pub one_left : {A : Type 0} (v : View A) → v.verdicts.items ≡ verdict.Pass None false ∷ verdict.GateClosed ∷ [] → v.drops.items ≡ []
    → port_row 10 v 3 (Some 525918) (672 ∷ []) ≡ codes "10,3,1,672,672,672,0,525918,0,0,1,0,0,0,0,0,0,0\n"
unfolding port_row loss_fields filter_fields gate_fields meter_fields digits
one_left v verdicts drops = rw (verdicts, drops) refl

-- The row of a filter whose frames didn't leave.
pub none_left : {A : Type 0} (v : View A) → v.verdicts.items ≡ verdict.Pass None false ∷ verdict.Red ∷ [] → v.drops.items ≡ record { own = 1; port = 3; refusal = refusal.NeverFits } ∷ []
    → unsent_row 99 v ≡ codes "99,,0,,,,,,0,0,0,0,0,0,1,0,0,1\n"
unfolding unsent_row loss_fields filter_fields gate_fields meter_fields digits
none_left v verdicts drops = rw (verdicts, drops) refl
