-- Counts of the copies of a first-hop frame: delivered; lost, which means refused by a filter or dropped by a queue; or
-- astray.
use Rattle.std.specs.Prelude.{ℕ, ◌-◌, Bool, ◌&&◌, nat_eq, nat_le, nat_lt}
use Rattle.net_report.specs.declared.copy_counting.CopyCounts.{CopyCounts}

-- True if a first-hop frame was delivered: a copy was delivered, and no copy was refused, dropped or astray.
abbrev pub is_delivered : CopyCounts → Bool
is_delivered t = nat_lt 0 t.delivered && (nat_eq t.refused 0 && nat_le t.sent_on t.taken)

-- Number of astray copies: they were sent to a bridge with a hop, but no hop there accepted them.
abbrev pub astray : CopyCounts → ℕ
astray t = t.sent_on - t.taken
