-- Contents of a network file: bridges, links and streams.
use Rattle.std.specs.Prelude.{ℕ, List, Option}
use Rattle.net_file.specs.declared.link_row.LinkRow.{LinkRow}
use Rattle.net_file.specs.declared.talker.Talker.{Talker}

-- A bridge: its name, and the file of its plan.
pub record Bridge : Type 0 where
  pub name : List ℕ
  pub plan : List ℕ

-- A stream: its name, hops from talker to listener, optional talker and optional deadline in ns. A hop has a bridge index and a filter
-- number.
pub record Stream : Type 0 where
  pub name : List ℕ
  pub hops : List (ℕ × ℕ)
  pub talker : Option Talker
  pub deadline : Option ℕ

-- Contents of a network file: bridges, links and streams, each in file order.
pub record Network : Type 0 where
  pub bridges : List Bridge
  pub links : List LinkRow
  pub streams : List Stream
