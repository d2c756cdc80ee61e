-- Words that a run's report uses for protection of filters, for flags, for verdicts, and for reasons of drops.
use Rattle.std.specs.Prelude.{ℕ, Bool, true, false, List, codes}
use Rattle.bridge_filter.specs.declared.Verdict.{Verdict}
use Rattle.bridge_filter.specs.declared.Verdict.TheVariants as verdict
use Rattle.bridge_port.specs.declared.item.Refusal.{Refusal}
use Rattle.bridge_port.specs.declared.item.Refusal.TheVariants as refusal

-- The report's word for a filter's protection: `protected` or `plain`.
abbrev pub kind_word : Bool → List ℕ
kind_word true = codes "protected"
kind_word false = codes "plain"

-- The report's word for a flag: `yes` if it is set, otherwise `no`.
abbrev pub flag_word : Bool → List ℕ
flag_word true = codes "yes"
flag_word false = codes "no"

-- The report's word for a verdict, such as `pass` or `gate-closed`.
abbrev pub verdict_word : Verdict → List ℕ
verdict_word verdict.Blocked = codes "blocked"
verdict_word verdict.Oversize = codes "oversize"
verdict_word verdict.GateClosed = codes "gate-closed"
verdict_word verdict.ShutByRx = codes "shut-rx"
verdict_word verdict.ShutByOctets = codes "shut-octets"
verdict_word verdict.OctetsExceeded = codes "octets-exceeded"
verdict_word verdict.Red = codes "red"
verdict_word verdict.YellowDropped = codes "yellow-dropped"
verdict_word (verdict.Pass ipv true) = codes "pass-eligible"
verdict_word (verdict.Pass ipv false) = codes "pass"

-- The report's word for the reason why a port dropped a copy.
abbrev pub refusal_word : Refusal → List ℕ
refusal_word refusal.Full = codes "full"
refusal_word refusal.NeverFits = codes "never"
