-- Rules that the bridges, links and streams of a network file obey.
use Rattle.std.specs.Prelude.{◌≡◌, ◌≤◌, ◌<◌, ◌^◌, ℕ, Bool, true, not, List, length, All}
use Rattle.std.specs.Option.{ForSome}
use Rattle.std.specs.List.{list_any}
use Rattle.std.specs.Str.{bytes_eq}
use Rattle.bridge_limits.specs.declared.TheConstants.{END_OF_TIME, LONGEST_FRAME}
use Rattle.bridge_limits.specs.Members.{has_no_duplicate}
use Rattle.net_file.specs.declared.link_row.LinkRow.{LinkRow}
use Rattle.net_file.specs.declared.talker.Talker.{Talker}
use Rattle.net_file.specs.Model.{Bridge, Stream, Network}
use Rattle.net_file.specs.Names.{is_valid_name}

-- True if one of these bridges has the name `name`. `read_bridge` refuses a second bridge of this name.
abbrev pub has_bridge : List Bridge → List ℕ → Bool
has_bridge bridges name = list_any (λ b. bytes_eq b.name name) bridges

-- True if one of these streams has the name `name`. `read_stream` refuses a second stream of this name.
abbrev pub has_stream : List Stream → List ℕ → Bool
has_stream streams name = list_any (λ s. bytes_eq s.name name) streams

-- Holds if the bridges of a network file have valid names, and no two names are equal.
pub record AreBridges (bridges : List Bridge) : Type 0 where
  pub names : All (λ b. is_valid_name b.name ≡ true) bridges
  pub own : has_no_duplicate (λ b c. bytes_eq b.name c.name) bridges ≡ true

-- Holds if an end of a link is a port, 1 to 16, of one of `count` bridges.
pub record IsBridgePort (count : ℕ) (end : ℕ × ℕ) : Type 0 where
  pub bridge : end.0 < count
  pub port_from : 1 ≤ end.1
  pub port_to : end.1 ≤ 16

-- Holds if a link joins ports of `count` bridges, with a delay of at most 1 s.
pub record IsLink (count : ℕ) (link : LinkRow) : Type 0 where
  pub one : IsBridgePort count link.one
  pub other : IsBridgePort count link.other
  pub delay : link.delay ≤ 10 ^ 9

-- Holds if a talker's phases are ordered and less than the period, and its lengths are ordered and allowed.
pub record IsTalker (t : Talker) : Type 0 where
  pub phases : t.from ≤ t.to
  pub within : t.to < t.period
  pub period : t.period ≤ END_OF_TIME
  pub some : 1 ≤ t.least
  pub lengths : t.least ≤ t.longest
  pub longest : t.longest ≤ LONGEST_FRAME

-- Holds if a stream has a valid name and 1 to 64 hops at `count` bridges. Its talker, if any, is valid, and its deadline, if any, at most
-- `END_OF_TIME`.
pub record IsStream (count : ℕ) (stream : Stream) : Type 0 where
  pub name : is_valid_name stream.name ≡ true
  pub some_hop : 1 ≤ length stream.hops
  pub few_hops : length stream.hops ≤ 64
  pub bridges : All (λ h. h.0 < count) stream.hops
  pub filters : All (λ h. h.1 < 2 ^ 32) stream.hops
  pub talker : ForSome stream.talker IsTalker
  pub deadline : ForSome stream.deadline (λ d. d ≤ END_OF_TIME)

-- Holds if each stream obeys its rules, and the streams have different names.
pub record AreStreams (count : ℕ) (streams : List Stream) : Type 0 where
  pub each : All (IsStream count) streams
  pub own : has_no_duplicate (λ s t. bytes_eq s.name t.name) streams ≡ true

-- Holds if a network obeys all rules: its numbers of instances, and the rules of each section.
pub record IsNetwork (n : Network) : Type 0 where
  pub some_bridge : 1 ≤ length n.bridges
  pub few_bridges : length n.bridges ≤ 64
  pub few_links : length n.links ≤ 512
  pub few_streams : length n.streams ≤ 1024
  pub bridges : AreBridges n.bridges
  pub links : All (IsLink (length n.bridges)) n.links
  pub streams : AreStreams (length n.bridges) n.streams
