-- Examples of two linked bridges, computed. Port 3 of bridge 0 has a link of 500 ns to port 1 of bridge 1. A stream of VLAN 10 arrives at port 1 of bridge 0.
use Rattle.std.specs.Prelude.{◌≡◌, ℕ, Bool, true, false, ◌&&◌, List, [], ◌∷◌, Option, Some, None, nat_eq, refl}
use Rattle.bridge_capture.specs.Grammar.{CapturedFrame}
use Rattle.bridge_frame.specs.declared.Speed.TheVariants.{Mbps1000}
use Rattle.bridge_gate.specs.declared.schedule.GatePlan.{GatePlan}
use Rattle.bridge_gate.specs.declared.schedule.Schedule.TheVariants.{Fixed}
use Rattle.bridge_ident.specs.declared.Kind.TheVariants.{Null, Source}
use Rattle.bridge_ident.specs.declared.TagKind.TheVariants.{Tagged}
use Rattle.bridge_ident.specs.declared.StreamEntry.{StreamEntry}
use Rattle.bridge_filter.specs.declared.FilterPlan.{FilterPlan}
use Rattle.bridge_config.specs.declared.ports.PortPlan.{PortPlan}
use Rattle.bridge_config.specs.Model.{Plan}
use Rattle.bridge_semantics.specs.Merge.{Input, capture_input}
use Rattle.net_model.specs.Networks.{Link, sender, port_inputs}
use Rattle.net_model.specs.LinkFrames.{takes_only}
use Rattle.bridge_check.specs.Faults.{first_among_numbers}
use Rattle.net_model.specs.declared.links.Link as wiring
use Rattle.net_model.specs.declared.links.StreamHop.{StreamHop}
use Rattle.net_model.specs.declared.fault.NetworkFault.TheVariants as fault
use Rattle.net_model.specs.declared.network_tests.HopTest.TheVariants as hop_test
use Rattle.net_model.specs.NetworkParts.{NetworkParts}
use Rattle.net_model.specs.Faults.{stream_test_fault}

-- LINKS AND ARRIVALS

-- The link between the bridges.
abbrev links : List Link
links = record { one = record { bridge = 0; port = 3 }; other = record { bridge = 1; port = 1 }; delay = 500 } ∷ []

-- A frame of the stream at time `t`.
abbrev frame_at : ℕ → CapturedFrame
frame_at t = record { time = t; len = 60; octets = 2 ∷ 0 ∷ 0 ∷ 0 ∷ 0 ∷ 0x0a ∷ [] }

-- Departures of port `q` of bridge `b`: two frames left port 3 of bridge 0.
abbrev left : ℕ → ℕ → List CapturedFrame
left b q = if_there (nat_eq b 0 && nat_eq q 3)
  where
    if_there : Bool → List CapturedFrame
    if_there true = frame_at 1000 ∷ frame_at 2000 ∷ []
    if_there false = []

-- Captures from outside, of port `q` of bridge `b`: each has one frame.
abbrev captures : ℕ → ℕ → List CapturedFrame
captures b q = frame_at 7 ∷ []

-- No bridge has commands.
no_commands : ℕ → List Input
no_commands b = []

-- Port 3 of bridge 0 sends to port 1 of bridge 1, with a delay of 500 ns.
second_hears_first : sender links 1 1 ≡ Some (record { from = record { bridge = 0; port = 3 }; delay = 500 })
second_hears_first = refl

-- In the other direction, port 1 of bridge 1 sends to port 3 of bridge 0.
first_hears_second : sender links 0 3 ≡ Some (record { from = record { bridge = 1; port = 1 }; delay = 500 })
first_hears_second = refl

-- Port 1 of bridge 0 has no link, so it has no sender.
port_is_open : sender links 0 1 ≡ None
port_is_open = refl

-- The frames that left port 3 of bridge 0 arrive at port 1 of bridge 1 500 ns later, newest first. The capture of port 1 isn't read.
over_the_link : port_inputs links no_commands captures left 1 1 ≡ capture_input 1 (frame_at 2500) ∷ capture_input 1 (frame_at 1500) ∷ []
over_the_link = refl

-- An open port receives the frames of its capture.
from_outside : port_inputs links no_commands captures left 0 1 ≡ capture_input 1 (frame_at 7) ∷ []
from_outside = refl

-- Port 3 of bridge 0 receives no frame, because none left port 1 of bridge 1.
nothing_back : port_inputs links no_commands captures left 0 3 ≡ []
nothing_back = refl

-- The link again, as a value of the program's type `Link`, for the tests below.
abbrev wires : List wiring.Link
wires = record { one = record { bridge = 0; port = 3 }; other = record { bridge = 1; port = 1 }; delay = 500 } ∷ []

-- The hop with bridge index `b` and filter number `m`, as a value of the program's type `StreamHop`.
abbrev a_hop : ℕ → ℕ → StreamHop
a_hop b m = record { bridge = b; filter = m }

-- The stream: filter 1 of bridge 0, then filter 1 of bridge 1.
abbrev hops : List StreamHop
hops = a_hop 0 1 ∷ a_hop 1 1 ∷ []

-- THE TEST

-- The entry that identifies the stream on port `q`, by VLAN 10 and destination address; its handle is 1.
abbrev an_entry : ℕ → StreamEntry
an_entry q = record { handle = 1; port = q; kind = Null; address = 2 ∷ 0 ∷ 0 ∷ 0 ∷ 0 ∷ 0x0a ∷ []; vid = 10; tag = Tagged }

-- An entry that gives handle 1 on port `q` to frames of VLAN 10 with one source address.
abbrev source_entry : ℕ → StreamEntry
source_entry q = record { handle = 1; port = q; kind = Source; address = 2 ∷ 0 ∷ 0 ∷ 0 ∷ 0 ∷ 1 ∷ []; vid = 10; tag = Tagged }

-- A filter with stream gate `gate`. It matches the frames with handle `handle`; if this is `None`, it matches all frames. `protected` tells
-- if the plan protects it.
abbrev a_filter : Option ℕ → ℕ → Bool → FilterPlan
a_filter handle gate protected = record {
  handle = handle;
  priority = None;
  gate = gate;
  max_sdu = None;
  meter = None;
  block_oversize = false;
  protected = protected;
  group = None;
}

module _ (A : Type 0) where
  -- A port of VLAN 1 whose eight priorities have classes of their own, always open.
  abbrev a_port : ℕ → PortPlan A
  a_port n = record {
    number = n;
    speed = Mbps1000;
    vid = 1;
    priority = 0;
    classes = 0 ∷ 1 ∷ 2 ∷ 3 ∷ 4 ∷ 5 ∷ 6 ∷ 7 ∷ [];
    rooms = 8 ∷ 8 ∷ 8 ∷ 8 ∷ 8 ∷ 8 ∷ 8 ∷ 8 ∷ [];
    list = None;
  }

  -- A stream gate without a list: always open if `lets` is true, otherwise always closed.
  abbrev a_gate : Bool → GatePlan A
  a_gate lets = record { shut_on_rx = false; shut_on_octets = false; schedule = Fixed lets None }

  -- The plan of a bridge with the entries `streams`. Filter 9 judges the frames that filter 1 doesn't match; its stream gate is open if
  -- `others` is true.
  abbrev a_plan : List StreamEntry → Bool → Plan A
  a_plan streams others = record {
    ports = a_port 1 ∷ a_port 2 ∷ a_port 3 ∷ [];
    database = record {
      vlans = record { vid = 10; members = 7 } ∷ [];
      statics = record { vid = 10; address = 2 ∷ 0 ∷ 0 ∷ 0 ∷ 0 ∷ 0x0a ∷ []; ports = 4 } ∷ [];
    };
    streams = streams;
    gates = (1, a_gate true) ∷ (9, a_gate others) ∷ [];
    meters = [];
    filters = (1, a_filter (Some 1) 1 true) ∷ (9, a_filter None 9 false) ∷ [];
  }

  -- True if filter 1 of bridge 1 accepts over the link only frames of the stream, when bridge 0 has plan `p`.
  abbrev is_safe : Plan A → Bool
  is_safe p = takes_only p (nat_eq 1) 3 (a_plan (an_entry 1 ∷ []) true) (a_port 1) 1

  -- If another talker sends to the stream's address on port 2 of bridge 0, filter 1 of bridge 1 accepts its frames.
  forged : is_safe (a_plan (an_entry 1 ∷ []) true) ≡ false
  forged = refl

  -- If the stream gate of all other frames in bridge 0 is closed, filter 1 of bridge 1 accepts only frames of the stream.
  closed_to_others : is_safe (a_plan (an_entry 1 ∷ []) false) ≡ true
  closed_to_others = refl

  -- If port 2 of bridge 0 also has an entry of the stream, filter 1 there judges the other talker's frames. So they belong to the stream.
  named_on_both : is_safe (a_plan (an_entry 1 ∷ an_entry 2 ∷ []) true) ≡ true
  named_on_both = refl

  -- If the entry on port 2 has a source address, it may miss the other talker's frames.
  named_by_source : is_safe (a_plan (an_entry 1 ∷ source_entry 2 ∷ []) true) ≡ false
  named_by_source = refl

  -- THE FAULTS

  -- The parts of a network of two linked bridges: bridge 0 has plan `p`, and bridge 1 has a plan with the entries `entries`.
  abbrev of_two : Plan A → List StreamEntry → NetworkParts A
  of_two p entries = record { plans = p ∷ a_plan entries true ∷ []; links = wires; streams = [] }

  -- The test reports frames of filter 9 that arrive on port 2 of bridge 0 and reach the second hop at port 1.
  forged_told : stream_test_fault (of_two (a_plan (an_entry 1 ∷ []) true) (an_entry 1 ∷ [])) hop_test.Closed 0 hops
      ≡ Some (fault.NotClosed 1 2 1 1 (Some 9) 2)
  unfolding first_among_numbers
  forged_told = refl

  -- If the stream gate of all other frames is closed, the test finds no fault.
  closed_untold : stream_test_fault (of_two (a_plan (an_entry 1 ∷ []) false) (an_entry 1 ∷ [])) hop_test.Closed 0 hops ≡ None
  unfolding first_among_numbers
  closed_untold = refl

  -- Port 1 feeds the first hop, and the link feeds the second hop.
  both_fed : stream_test_fault (of_two (a_plan (an_entry 1 ∷ []) true) (an_entry 1 ∷ [])) hop_test.Fed 0 hops ≡ None
  unfolding first_among_numbers
  both_fed = refl

  -- If the second hop's entry is on an open port, the hop isn't fed.
  not_fed : stream_test_fault (of_two (a_plan (an_entry 1 ∷ []) true) (an_entry 2 ∷ [])) hop_test.Fed 0 hops
      ≡ Some (fault.NotFed 1 2)
  unfolding first_among_numbers
  not_fed = refl

  -- If the second hop is filter 9, which isn't protected, the test reports this hop.
  not_protected : stream_test_fault (of_two (a_plan [] true) []) hop_test.Protected 0 (a_hop 0 1 ∷ a_hop 1 9 ∷ [])
      ≡ Some (fault.NotProtected 1 2)
  unfolding first_among_numbers
  not_protected = refl

  -- If the third hop is the first hop again, the test reports the third hop.
  hop_twice : stream_test_fault (of_two (a_plan [] true) []) hop_test.Unique 0 (a_hop 0 1 ∷ a_hop 1 1 ∷ a_hop 0 1 ∷ [])
      ≡ Some (fault.HopTwice 1 3)
  unfolding first_among_numbers
  hop_twice = refl
