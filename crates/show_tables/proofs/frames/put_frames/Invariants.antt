use Rattle.std.proofs.Common.{◌≡◌, ◌+◌, ℕ, List, Option, length}
use Rattle.bridge_text.specs.Growth.{HasGrown}
use Rattle.show_tables.specs.FrameTable.{frames_rows}
use Rattle.show_tables.proofs.frames.put_frames.Given as goal

abbrev pub invariant-loop-origin : goal.invariant-loop-origin
invariant-loop-origin g l = record {
  rows : (o : Option (List ℕ)) → HasGrown l.text (frames_rows l.filter l.departures l.drops l.own l.came l.judged) o → HasGrown l.fn.text (frames_rows l.filter l.departures l.drops 1 l.initial.came l.initial.judged) o;
  place : l.own + length l.came ≡ length l.initial.came + 1;
}

abbrev pub decreases-loop-origin : goal.decreases-loop-origin
decreases-loop-origin g l = length l.came
