use Rattle.std.proofs.Common.{◌≡◌, drop}
use Rattle.bridge_ident.specs.Identification.{first_handle}
use Rattle.bridge_ident.proofs.first_handle.Given as goal

abbrev pub invariant-loop-entry : goal.invariant-loop-entry
invariant-loop-entry l = first_handle (drop l.entry-index l.entries) l.port l.head l.vid ≡ first_handle l.entries l.port l.head l.vid
