-- Examples of bucket units and of the least bound.
use Rattle.std.specs.Prelude.{◌≡◌, ◌*◌, [], ◌∷◌, refl}
use Rattle.bridge_meter.specs.Bounds.{least_bound}
use Rattle.bridge_meter.specs.Colours.{octet_units}

-- At 8,000,000 bit/s a bucket gains one octet in 1,000 ns.
pub units_of_an_octet : octet_units ≡ 8000000 * 1000
units_of_an_octet = refl

pub least_of_three : least_bound 5 (3 ∷ 7 ∷ []) ≡ 3
least_of_three = refl
