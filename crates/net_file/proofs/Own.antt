-- One instance more, which no earlier instance equals.
use Rattle.std.proofs.Common.{◌≡◌, ℕ, true, false, List, [], ◌∷◌, ◌++◌, Result, Ok, Err}
use Rattle.std.specs.Prelude.{IfOk}
use Rattle.net_file.specs.declared.fault.NetFault.{NetFault}
use Rattle.std.specs.Str.{bytes_eq}
use Rattle.bridge_limits.proofs.Lists.{each_push, are_own-push}
use Rattle.net_file.specs.Model.{Bridge, Stream}
use Rattle.net_file.specs.Names.{is_valid_name}
use Rattle.net_file.specs.Rules.{has_bridge, has_stream, AreBridges, AreStreams, IsStream}

pub bridges_push : (bridges : List Bridge) (b : Bridge) → AreBridges bridges → has_bridge bridges b.name ≡ false → is_valid_name b.name ≡ true → AreBridges (bridges ++ b ∷ [])
bridges_push bridges b are new is = record {
  names = each_push (λ c. is_valid_name c.name ≡ true) bridges b are.names is;
  own = are_own-push (λ b c. bytes_eq b.name c.name) bridges b are.own new;
}

pub streams_push : (count : ℕ) (streams : List Stream) (s : Stream) → AreStreams count streams → has_stream streams s.name ≡ false → IsStream count s → AreStreams count (streams ++ s ∷ [])
streams_push count streams s are new is = record {
  each = each_push (IsStream count) streams s are.each is;
  own = are_own-push (λ s t. bytes_eq s.name t.name) streams s are.own new;
}

-- One stream more, if it was read without fault.
pub streams_more : (count : ℕ) (streams : List Stream) (r : Result Stream NetFault) → AreStreams count streams → IfOk r (λ s. has_stream streams s.name ≡ false) → IfOk r (IsStream count) → IfOk r (λ s. AreStreams count (streams ++ s ∷ []))
streams_more count streams (Ok s) are own is = streams_push count streams s are own is
streams_more count streams (Err e) are own is = tt
