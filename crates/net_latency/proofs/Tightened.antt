-- Tight bounds, added queue by queue.
use Rattle.std.proofs.Common.{List, [], ◌∷◌, ◌++◌}
use Rattle.bridge_config.specs.Model.{Plan}
use Rattle.net_latency.specs.declared.bounds.QueueBound.{QueueBound}
use Rattle.net_latency.specs.declared.tight.TightBound.{TightBound}
use Rattle.net_latency.specs.Bounds.{AreTightened, HasTightBound}

-- The tight bound of one queue more.
pub tighter_more : {A : Type 0} (p : Plan A) (r : QueueBound) (t : TightBound) (rs : List QueueBound) (ts : List TightBound) → HasTightBound p r t → AreTightened p rs ts → AreTightened p (rs ++ r ∷ []) (ts ++ t ∷ [])
tighter_more p r t [] [] is h = (is, tt)
tighter_more p r t [] (y ∷ ts) is h = absurd h
tighter_more p r t (x ∷ rs) [] is h = absurd h
tighter_more p r t (x ∷ rs) (y ∷ ts) is h = (h.0, tighter_more p r t rs ts is h.1)
