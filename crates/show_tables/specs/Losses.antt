-- Numbers of a filter's refused frames and dropped copies, by reason.
use Rattle.std.specs.Prelude.{ℕ, Bool, ◌&&◌, nat_eq, List, ◌++◌, count_by, codes, decimal}
use Rattle.bridge_filter.specs.declared.Verdict.{Verdict}
use Rattle.bridge_semantics.specs.declared.outcome.Dropped.{Dropped}
use Rattle.bridge_report.specs.Section.{is_full, never_fits}
use Rattle.bridge_report.specs.declared.losses.Reason.TheVariants as reason
use Rattle.bridge_report.specs.Losses.{refused_for}
use Rattle.show_tables.specs.FrameTable.{field}

-- True if `port` dropped the copy because its queue was full.
abbrev pub is_full_on_port : ℕ → Dropped → Bool
is_full_on_port port d = nat_eq d.port port && is_full d.refusal

-- True if `port` dropped the copy because it fits no window.
abbrev pub is_never_on_port : ℕ → Dropped → Bool
is_never_on_port port d = nat_eq d.port port && never_fits d.refusal

-- The number of copies that `port` dropped because their queues were full.
abbrev pub count_full_on_port : ℕ → List Dropped → ℕ
count_full_on_port port drops = count_by (is_full_on_port port) drops

-- The number of copies that `port` dropped because they fit no window.
abbrev pub count_never_on_port : ℕ → List Dropped → ℕ
count_never_on_port port drops = count_by (is_never_on_port port) drops

-- The fields of frames that the filter itself refused, by reason.
unfoldable pub filter_fields : List Verdict → List ℕ
filter_fields vs = field (refused_for reason.Blocked vs) ++ field (refused_for reason.Oversize vs)

-- The fields of frames that the stream gate refused, by reason.
unfoldable pub gate_fields : List Verdict → List ℕ
gate_fields vs = field (refused_for reason.GateClosed vs) ++ (field (refused_for reason.ShutByRx vs)
    ++ (field (refused_for reason.ShutByOctets vs) ++ field (refused_for reason.OctetsExceeded vs)))

-- The fields of frames that the meter refused, by reason.
unfoldable pub meter_fields : List Verdict → List ℕ
meter_fields vs = field (refused_for reason.Red vs) ++ field (refused_for reason.YellowDropped vs)

-- The end of a row: fields of refused frames, then `full` (copies dropped by full queues) and `never` (copies that fit no window).
unfoldable pub loss_fields : List Verdict → ℕ → ℕ → List ℕ
loss_fields verdicts full never = filter_fields verdicts ++ (gate_fields verdicts ++ (meter_fields verdicts ++ (field full ++ (decimal never ++ codes "\n"))))
