use Rattle.std.proofs.Common.{◌≡◌, ◌≤◌, ◌<◌, ℕ, [], None, false, length, slice_index_or}
use Rattle.bridge_port.specs.Rings.{ring_queues}
use Rattle.bridge_port.specs.Heads.{IsHeadFit, is_past, IsBestHead}
use Rattle.bridge_port.proofs.heads.refresh_fits.Given as goal

abbrev pub invariant-loop-class : goal.invariant-loop-class
invariant-loop-class g l = record {
  gates : l.gates ≡ l.fn.gates;
  size : length l.fits ≡ 8;
  behind : (c : ℕ) → c < l.class → IsHeadFit l.fn.gates l.speed l.from c (slice_index_or (ring_queues l.rings.items) c []) (slice_index_or l.fits c None);
  ahead : (c : ℕ) → l.class ≤ c → is_past (slice_index_or l.fits c None) l.from ≡ false → IsHeadFit l.fn.gates l.speed l.from c (slice_index_or (ring_queues l.rings.items) c []) (slice_index_or l.fits c None);
  best : IsBestHead l.fits l.class l.best;
}
