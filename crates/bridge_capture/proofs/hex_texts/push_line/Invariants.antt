use Rattle.std.proofs.Common.{◌≡◌, ◌++◌, take}
use Rattle.std.specs.String.{string_bytes}
use Rattle.std.specs.List.{flat_map}
use Rattle.bridge_capture.specs.HexLines.{hex_digits}
use Rattle.bridge_capture.proofs.hex_texts.push_line.Given as goal

abbrev pub invariant-loop-octet : goal.invariant-loop-octet
invariant-loop-octet g l = string_bytes l.text ≡ string_bytes l.fn.text ++ flat_map hex_digits (take l.octet-index l.octets)
