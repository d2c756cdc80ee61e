-- Talkers that send few frames in each period.
use Rattle.std.specs.Prelude.{ℕ, ◌+◌, ◌≤◌, nat_le, nat_lt, List, [], ◌∷◌, if◌then◌else◌}

-- A frame that a talker sent: the time in ns, and the frame's octets.
pub record SentFrame : Type 0 where
  pub at : ℕ
  pub octets : ℕ

-- The octets of the frames that were sent at time `u` or later.
abbrev pub recent_sent_octets : ℕ → List SentFrame → ℕ
recent_sent_octets u [] = 0
recent_sent_octets u (x ∷ xs) = (if nat_le u x.at then x.octets else 0) + recent_sent_octets u xs

-- The number of frames that were sent less than `period` ns before time `t`, at `t`, or after `t`.
abbrev pub count_recent_frames : ℕ → ℕ → List SentFrame → ℕ
count_recent_frames period t [] = 0
count_recent_frames period t (x ∷ xs) = (if nat_lt t (x.at + period) then 1 else 0) + count_recent_frames period t xs

-- The time in ns of the newest frame; 0 if no frame was sent.
abbrev pub last_send_time : List SentFrame → ℕ
last_send_time [] = 0
last_send_time (x ∷ xs) = x.at

-- Holds if at most `n` frames, each of at most `m` octets, are sent in any `period` ns. Frames are newest first and in
-- order of time.
abbrev pub HasFrameLimit : ℕ → ℕ → ℕ → List SentFrame → Type 0
HasFrameLimit n m period [] = Unit {0}
HasFrameLimit n m period (x ∷ xs) = (x.octets ≤ m) × (last_send_time xs ≤ x.at) × (count_recent_frames period x.at (x ∷ xs) ≤ n) × HasFrameLimit n m period xs
