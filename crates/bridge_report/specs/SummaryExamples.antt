-- A computed example of the line of counts that `run` prints.
use Rattle.std.specs.Prelude.{◌≡◌, [], ◌∷◌, codes, refl}
use Rattle.std.specs.Fmt.{digits}
use Rattle.bridge_semantics.specs.declared.outcome.PortCount.{PortCount}
use Rattle.bridge_report.specs.Summary.{summary_text}

-- Counts of port 1: one frame of a filter arrived.
abbrev came : PortCount
came = record { frames = 1; malformed = 0; nowhere = 0; unfiltered = 0; sent = 0; dropped = 0 }

-- Counts of port 3: the frame's copy left.
abbrev went : PortCount
went = record { frames = 0; malformed = 0; nowhere = 0; unfiltered = 0; sent = 1; dropped = 0 }

pub summed_up : summary_text ((1, came) ∷ (3, went) ∷ []) ≡ codes "frames 1 malformed 0 nowhere 0 policed 1 unfiltered 0 sent 1 dropped 0\n"
unfolding summary_text digits
summed_up = refl
