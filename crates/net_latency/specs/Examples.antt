-- Computed examples of the definitions: phases, limits of frames, routes, and lines of streams.
use Rattle.std.specs.Prelude.{◌≡◌, ◌++◌, ℕ, true, Some, None, [], ◌∷◌, codes, decimal, refl}
use Rattle.net_file.specs.declared.talker.Talker.{Talker}
use Rattle.net_file.specs.declared.limited_row.FrameLimit.TheVariants as limit
use Rattle.net_latency.specs.Delivered.{AreCommands, HasPorts, HaveSameCopies}
use Rattle.net_latency.specs.LimitedTraffic.{limit_burst, limit_rate}
use Rattle.net_latency.specs.declared.latency.StreamLatency.{StreamLatency}
use Rattle.net_latency.specs.StreamLatency.{whole_periods}
use Rattle.net_latency.specs.Streams.{arrival_word, is_passing, latency_words, margin_words}
use Rattle.net_latency.specs.TrafficText.{delay_words}
use Rattle.net_latency.specs.Ways.{RouteHop}

-- In a period of 1,000,000 ns, one whole period lies before phase 1,250,000.
pub one_period : whole_periods 1000000 1250000 ≡ 1000000
one_period = refl

-- Three frames of 1,000 octets in any millisecond are a burst of 3,012 metered octets.
pub burst_of_three : limit_burst (limit.Count 3 1000000) 1000 ≡ 3012
burst_of_three = refl

-- Three frames of 1,000 octets in any millisecond need a rate of 24,096,000 bit/s.
pub rate_of_three : limit_rate (limit.Count 3 1000000) 1000 ≡ 24096000
rate_of_three = refl

-- 64 metered octets in 7,000 ns are 73,142,857 and a seventh bit/s.
pub rate_rounded_up : limit_rate (limit.Count 1 7000) 60 ≡ 73142858
rate_rounded_up = refl

-- `AreCommands` holds for a network without commands.
pub no_input : AreCommands (λ (b : ℕ). [])
no_input = λ b x i. absurd i

-- A route of two hops leaves by the ports of both.
pub ports_of_two : {A : Type 0} (x y : RouteHop A) → HasPorts x ((500, y) ∷ []) x.port (y.port ∷ [])
ports_of_two x y = (refl, refl)

-- A route of two hops has the same copies as itself.
pub copies_of_two : {A : Type 0} (x y : RouteHop A) → HaveSameCopies x ((500, y) ∷ []) x ((500, y) ∷ [])
copies_of_two x y = (refl, refl)

-- A route of two hops doesn't leave by one port.
pub not_one_port : {A : Type 0} (x y : RouteHop A) → HasPorts x ((500, y) ∷ []) x.port [] → ⊥
not_one_port x y h = h

-- A talker with one frame in each period of 250,000 ns.
abbrev pub talker : Talker
talker = record { period = 250000; from = 5000; to = 15000; least = 100; longest = 100 }

-- The delays of a stream whose frames all pass.
abbrev pub position : StreamLatency
position = record { passes = true; worst = 1984; best = 1984; phases = record { from = 6984; to = 16984 } }

-- The word of this stream: all frames arrive.
pub word_of_position : arrival_word (is_passing (Some talker) (Some position)) (Some position) ≡ codes " arrives"
word_of_position = refl

-- The delays of this stream, with a bound of 989,436 ns.
pub words_of_position : latency_words (Some position) 989436 ≡ delay_words 1984 1984 (Some (record { from = 6984; to = 16984 })) ++ (codes " bound " ++ decimal 989436)
words_of_position = refl

-- Without a periodic talker, a stream has no word and only a bound.
pub word_of_any : arrival_word (is_passing None None) None ++ latency_words None 989436 ≡ codes " bound " ++ decimal 989436
word_of_any = refl

-- A stream is refusable if its talker's delays are unknown.
pub word_of_unknown : arrival_word (is_passing (Some talker) None) None ≡ codes " refusable"
word_of_unknown = refl

-- A worst delay of 1,984 ns meets a deadline of 100,000 ns by 98,016 ns.
pub margin_of_position : margin_words (Some 100000) position.worst ≡ codes " margin " ++ decimal 98016
margin_of_position = refl

-- A worst delay of 1,984 ns meets a deadline of 1,984 ns by 0 ns.
pub no_margin_left : margin_words (Some 1984) position.worst ≡ codes " margin " ++ decimal 0
no_margin_left = refl

-- A worst delay of 80,920 ns misses a deadline of 60,000 ns by 20,920 ns.
pub margin_lacking : margin_words (Some 60000) 80920 ≡ codes " lacks " ++ decimal 20920
margin_lacking = refl

-- Without a deadline, there is no margin.
pub no_deadline : margin_words None 80920 ≡ []
no_deadline = refl
