-- Lines of delay bounds that `bounds` prints.
use Rattle.std.specs.Prelude.{◌≡◌, ℕ, Bool, List, [], ◌++◌, Option, None, Some, flat_map, codes, decimal, if◌then◌else◌}
use Rattle.bridge_config.specs.Model.{Plan}
use Rattle.app_failure.specs.Jobs.{Accepts}
use Rattle.net_latency.specs.declared.tight.TightBound.{TightBound}
use Rattle.bridge_groups.specs.declared.shared_queues.SharedQueue.{SharedQueue}
use Rattle.bridge_groups.specs.GroupRows.{AreSharedQueues}
use Rattle.net_latency.specs.Bounds.{AreTightBounds}
use Rattle.net_latency.specs.SharedLines.{shared_text}

-- The mark ` coarse` of a bound that allows for any arrival time; empty for other bounds.
abbrev pub coarse_mark : Bool → List ℕ
coarse_mark coarse = if coarse then codes " coarse" else []

-- The bound for frames of at least 60 octets, such as ` padded 1283`; empty without this bound.
abbrev pub padded_figure : Option ℕ → List ℕ
padded_figure None = []
padded_figure (Some b) = codes " padded " ++ decimal b

-- The line of `bounds` for the delay bound of a queue.
unfoldable pub bound_line : TightBound → List ℕ
bound_line r = codes "filter " ++ (decimal r.filter ++ (codes " port " ++ (decimal r.port ++ (codes " class " ++ (decimal r.class ++ (coarse_mark r.coarse ++ (codes " bound " ++ (decimal r.bound ++ (padded_figure r.padded ++ codes "\n")))))))))

-- The lines of `bounds`, one for each delay bound, in order.
abbrev pub bounds_text : List TightBound → List ℕ
bounds_text rows = flat_map bound_line rows

-- Holds if `lines` has the lines of all tight bounds of a plan, then the lines of all queues that groups share.
abbrev pub AreBoundLines : {A : Type 0} → Plan A → List ℕ → Type 0
AreBoundLines p lines = (rows : List TightBound) × (shared : List SharedQueue) × AreTightBounds p rows × AreSharedQueues p shared × (lines ≡ bounds_text rows ++ shared_text shared)

-- Holds if `input` is the file of an accepted plan, and `lines` has the lines of its tight bounds.
abbrev pub PrintsBounds : (A : Type 0) → List ℕ → List ℕ → Type 0
PrintsBounds A input lines = (plan : Plan A) × Accepts input plan × AreBoundLines plan lines
