-- The line of counts of a run through one queue.
use Rattle.std.specs.Prelude.{ℕ, List, ◌++◌, codes, decimal}
use Rattle.bridge_wire.specs.declared.wire_count.WireCount.{WireCount}

-- The line of counts that `wire` prints, with its line feed.
abbrev pub counts_line : WireCount → List ℕ
counts_line count = codes "frames " ++ (decimal count.frames ++ (codes " malformed " ++ (decimal count.malformed
    ++ (codes " sent " ++ (decimal count.sent ++ (codes " full " ++ (decimal count.full ++ codes "\n")))))))
