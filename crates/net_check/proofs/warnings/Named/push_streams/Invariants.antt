use Rattle.std.proofs.Common.{◌≡◌, ◌++◌, drop, string_bytes}
use Rattle.net_check.specs.Warnings.{streams_text}
use Rattle.net_check.proofs.warnings.Named.push_streams.Given as goal

abbrev pub invariant-loop-i : goal.invariant-loop-i
invariant-loop-i g l =
    string_bytes l.text ++ streams_text l.self.file.now l.self.network.now l.bounds l.i (drop l.i l.streams)
    ≡ string_bytes l.initial.text ++ streams_text l.self.file.now l.self.network.now l.bounds 0 l.streams
