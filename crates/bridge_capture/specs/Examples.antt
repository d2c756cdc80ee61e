-- Examples of captures: two frames of 60 octets each, with 18 captured octets.
use Rattle.std.specs.Prelude.{◌≡◌, ℕ, List, [], ◌∷◌, ◌++◌, length, take, slice_set, refl}
use Rattle.bridge_capture.specs.declared.capture_fault.CaptureFault.TheVariants.{BadMagic, BadVersion, BadLinkType, HeaderCut, RecordCut, TimeBack}
use Rattle.bridge_capture.specs.Grammar.{CapturedFrame, IsCapture, AtEnd, AtFault, header_format, front_item}
use Rattle.bridge_capture.specs.WrittenCapture.{written_header, written_text, written_words}

-- Captured octets of the frame.
abbrev pub frame_octets : List ℕ
frame_octets = 2 ∷ 0 ∷ 0 ∷ 0 ∷ 0 ∷ 0x0a ∷ 2 ∷ 0 ∷ 0 ∷ 0 ∷ 0 ∷ 1 ∷ 0x81 ∷ 0 ∷ 0 ∷ 0x0a ∷ 0x88 ∷ 0xb5 ∷ []

-- The frame, received at time `time` in ns.
abbrev pub frame_at : ℕ → CapturedFrame
frame_at time = record { time = time; len = 60; octets = frame_octets }

-- Record of the frame at 100,000 ns, little-endian.
abbrev pub first_record : List ℕ
first_record = (0 ∷ 0 ∷ 0 ∷ 0 ∷ 0xa0 ∷ 0x86 ∷ 1 ∷ 0 ∷ 0x12 ∷ 0 ∷ 0 ∷ 0 ∷ 0x3c ∷ 0 ∷ 0 ∷ 0 ∷ []) ++ frame_octets

-- Record of the frame at 100,001 ns, little-endian.
abbrev pub second_record : List ℕ
second_record = (0 ∷ 0 ∷ 0 ∷ 0 ∷ 0xa1 ∷ 0x86 ∷ 1 ∷ 0 ∷ 0x12 ∷ 0 ∷ 0 ∷ 0 ∷ 0x3c ∷ 0 ∷ 0 ∷ 0 ∷ []) ++ frame_octets

-- Capture of both frames.
abbrev pub two_frames : List ℕ
two_frames = written_header ++ first_record ++ second_record

-- Capture of the first frame, big-endian with microseconds.
abbrev pub big_micro : List ℕ
big_micro = 0xa1 ∷ 0xb2 ∷ 0xc3 ∷ 0xd4 ∷ 0 ∷ 2 ∷ 0 ∷ 4 ∷ 0 ∷ 0 ∷ 0 ∷ 0 ∷ 0 ∷ 0 ∷ 0 ∷ 0 ∷ 0 ∷ 0 ∷ 0xff ∷ 0xff ∷ 0 ∷ 0 ∷ 0 ∷ 1 ∷ 0 ∷ 0 ∷ 0 ∷ 0 ∷ 0 ∷ 0 ∷ 0 ∷ 0x64 ∷ 0 ∷ 0 ∷ 0 ∷ 0x12 ∷ 0 ∷ 0 ∷ 0 ∷ 0x3c ∷ frame_octets

it_has_92_octets : length two_frames ≡ 92
it_has_92_octets = refl

header_alone : IsCapture written_header [] AtEnd
unfolding header_format front_item
header_alone = refl

both : IsCapture two_frames (frame_at 100000 ∷ frame_at 100001 ∷ []) AtEnd
unfolding header_format front_item
both = (_, refl, (_, refl, refl))

header_cut : IsCapture (take 23 two_frames) [] (AtFault HeaderCut)
unfolding header_format
header_cut = (refl, refl)

first_cut : IsCapture (take 25 two_frames) [] (AtFault (RecordCut 1))
unfolding header_format front_item
first_cut = refl

first_whole : IsCapture (take 58 two_frames) (frame_at 100000 ∷ []) AtEnd
unfolding header_format front_item
first_whole = (_, refl, refl)

second_cut : IsCapture (take 91 two_frames) (frame_at 100000 ∷ []) (AtFault (RecordCut 2))
unfolding header_format front_item
second_cut = (_, refl, refl)

wrong_magic : IsCapture (slice_set two_frames 0 9) [] (AtFault BadMagic)
unfolding header_format
wrong_magic = (refl, refl)

wrong_version : IsCapture (slice_set two_frames 4 9) [] (AtFault BadVersion)
unfolding header_format
wrong_version = (refl, refl)

wrong_link_type : IsCapture (slice_set two_frames 20 9) [] (AtFault BadLinkType)
unfolding header_format
wrong_link_type = (refl, refl)

turned_round : IsCapture (written_header ++ second_record ++ first_record) (frame_at 100001 ∷ []) (AtFault (TimeBack 2))
unfolding header_format front_item
turned_round = (_, refl, refl)

big_order : IsCapture big_micro (frame_at 100000 ∷ []) AtEnd
unfolding header_format front_item
big_order = (_, refl, refl)

written_so : written_text (frame_at 100000 ∷ frame_at 100001 ∷ []) ≡ two_frames
unfolding written_words
written_so = refl
