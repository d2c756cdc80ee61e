-- The empty list of commands is valid for every plan.
use Rattle.std.proofs.Common.{[]}
use Rattle.bridge_config.specs.Model.{Plan}
use Rattle.bridge_config.specs.Commands.{AreCommands}

pub none : {A : Type 0} (p : Plan A) → AreCommands p []
none p = record { rise = tt; instances = λ c e. absurd e }
