use Rattle.std.proofs.Common.{◌-◌, ◌≤◌, length, vec_len}
use Rattle.bridge_capture.proofs.Spelling.{SpelledSoFar}
use Rattle.bridge_capture.proofs.hex_octets.parse_octets.Given as goal

abbrev pub invariant-loop-first : goal.invariant-loop-first
invariant-loop-first g l = record {
  few : vec_len l.octets ≤ 1048576;
  spelled : SpelledSoFar l.fn.text l.octets.items (1048576 - vec_len l.octets) l.rest;
}

abbrev pub decreases-loop-first : goal.decreases-loop-first
decreases-loop-first g l = length l.rest
