-- The tables of a run that the arguments request.
use Rattle.std.specs.Prelude.{◌≡◌, List, codes, option_map, string_bytes}
use Rattle.clap.specs.Words.{Row, first_of}
use Rattle.app_cli.specs.declared.table_request.TableRequest.{TableRequest}

-- Holds if the values of `run` request these tables, delays and frames, or neither.
pub record AsksForTables (values : List Row) (tables : TableRequest) : Type 0 where
  pub delays_is : first_of (codes "delays") values ≡ option_map string_bytes tables.delays
  pub frames_is : first_of (codes "frames") values ≡ option_map string_bytes tables.frames
