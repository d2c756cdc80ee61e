-- Members of a list, as all crates define them.
pub use Rattle.bridge_limits.specs.Members.{IsMember}
