-- The line of counts that `run` prints.
use Rattle.std.specs.Prelude.{ℕ, ◌-◌, List, ◌++◌, sum_by, codes, decimal}
use Rattle.bridge_semantics.specs.declared.outcome.PortCount.{PortCount}

-- The sum of one count, such as malformed frames, over all ports.
abbrev pub sum_over_ports : (PortCount → ℕ) → List (ℕ × PortCount) → ℕ
sum_over_ports count ports = sum_by (λ p. count p.1) ports

-- The number of frames that a filter judged: neither malformed nor unforwarded nor unfiltered.
abbrev pub total_policed : List (ℕ × PortCount) → ℕ
total_policed ports = sum_over_ports (λ c. c.frames) ports - sum_over_ports (λ c. c.malformed) ports - sum_over_ports (λ c. c.nowhere) ports - sum_over_ports (λ c. c.unfiltered) ports

-- The text with the numbers of arrived, malformed, unforwarded (`nowhere`) and policed frames.
abbrev pub arrivals_text : ℕ → ℕ → ℕ → ℕ → List ℕ
arrivals_text frames malformed nowhere policed = codes "frames " ++ (decimal frames ++ (codes " malformed " ++ (decimal malformed
    ++ (codes " nowhere " ++ (decimal nowhere ++ (codes " policed " ++ decimal policed))))))

-- The text with the number of unfiltered frames, and the numbers of queued (`sent`) and dropped copies.
abbrev pub copies_text : ℕ → ℕ → ℕ → List ℕ
copies_text unfiltered sent dropped = codes " unfiltered " ++ (decimal unfiltered ++ (codes " sent " ++ (decimal sent ++ (codes " dropped " ++ (decimal dropped ++ codes "\n")))))

-- The line of counts over all ports, with its line feed.
unfoldable pub summary_text : List (ℕ × PortCount) → List ℕ
summary_text ports = arrivals_text (sum_over_ports (λ c. c.frames) ports) (sum_over_ports (λ c. c.malformed) ports) (sum_over_ports (λ c. c.nowhere) ports) (total_policed ports)
    ++ copies_text (sum_over_ports (λ c. c.unfiltered) ports) (sum_over_ports (λ c. c.sent) ports) (sum_over_ports (λ c. c.dropped) ports)
