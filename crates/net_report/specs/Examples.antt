-- Examples of rows of the table of streams, computed.
use Rattle.std.specs.Prelude.{◌≡◌, ◌++◌, List, Some, None, [], ◌∷◌, codes, decimal, refl}
use Rattle.bridge_semantics.specs.declared.outcome.Departure.{Departure}
use Rattle.bridge_semantics.specs.declared.outcome.Origin.{Origin}
use Rattle.net_report.specs.HopCounts.{delays_at_hop}
use Rattle.net_report.specs.Statistics.{delay_statistics}
use Rattle.net_report.specs.StreamTable.{hop_delay_words, margin_words}

-- A worst delay of 1,984 ns meets a deadline of 100,000 ns by 98,016 ns.
pub met_margin : margin_words (Some 100000) (Some 1984) ≡ decimal 98016
met_margin = refl

-- A worst delay of 80,920 ns exceeds a deadline of 60,000 ns by 20,920 ns.
pub missed_margin : margin_words (Some 60000) (Some 80920) ≡ codes "-" ++ decimal 20920
missed_margin = refl

-- Without a known worst delay, the field is empty.
pub margin_without_worst : margin_words (Some 60000) None ≡ []
margin_without_worst = refl

-- Without a deadline, the field is empty.
pub margin_without_deadline : margin_words None (Some 80920) ≡ []
margin_without_deadline = refl

-- Two frames that arrive at a hop, at 45,041 and 295,452 ns.
abbrev pub arrivals : List Origin
arrivals = record { port = 1; at = 45041 } ∷ record { port = 1; at = 295452 } ∷ []

-- Three copies that left the hop: two of the first frame, by ports 4 and 5, and one of the second frame.
abbrev pub copies : List Departure
copies = record { own = 1; port = 4; start = 45041; done = 47633 } ∷ record { own = 1; port = 5; start = 50000; done = 52592 } ∷ record { own = 2; port = 4; start = 295452; done = 298044 } ∷ []

-- The delays of the three copies at this hop, in the order of leaving.
pub delays_of_copies : delays_at_hop arrivals copies ≡ 2592 ∷ 7551 ∷ 2592 ∷ []
delays_of_copies = refl

-- The last two fields of the hop's row: the least and the greatest of these delays.
pub fields_of_copies : hop_delay_words (delay_statistics (delays_at_hop arrivals copies)) ≡ decimal 2592 ++ (codes "," ++ (decimal 7551 ++ codes "\n"))
fields_of_copies = refl

-- Without a copy that left, both fields are empty.
pub fields_without_copies : hop_delay_words (delay_statistics (delays_at_hop arrivals [])) ≡ codes ",\n"
fields_without_copies = refl
