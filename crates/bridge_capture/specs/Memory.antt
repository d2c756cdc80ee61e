-- Source or sink of a capture in memory, as contracts describe it.
use Rattle.std.specs.Prelude.{ℕ, List, Option, Bool, not, is_some, ◌&&◌, ◌||◌}

-- Source or sink in memory. `octets` remain to be read, or were written. It fails after `allowance` octets (`None`:
-- unlimited), and moves at most `step` octets per call. `ran_out`: memory ran out.
pub record MemoryDevice : Type 0 where
  pub octets : List ℕ
  pub allowance : Option ℕ
  pub step : ℕ
  pub is_broken : Bool
  pub ran_out : Bool

-- True if the device never fails as a source.
abbrev pub is_unfailing_source : MemoryDevice → Bool
is_unfailing_source d = not (is_some d.allowance) && not d.is_broken

-- True if the device fails as a sink only if memory runs out.
abbrev pub is_unfailing_sink : MemoryDevice → Bool
is_unfailing_sink d = not (is_some d.allowance) && (not d.is_broken || d.ran_out)
