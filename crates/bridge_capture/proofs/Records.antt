-- Records of a written capture, one after another, as lines.
use Rattle.std.proofs.Common.{◌≡◌, ℕ, suc, ◌+◌, ◌^◌, ◌<◌, ◌≤◌, min, List, [], ◌∷◌, ◌++◌, length, take, drop, refl, sym, ap, ◌∙◌, append_assoc, arith}
use Rattle.std.specs.Prelude.{All}
use Rattle.std.specs.List.{flat_map}
use Rattle.std.proofs.lemmas.List.{length-append, append-nil, drop_at, take_at}
use Rattle.bridge_capture.specs.Grammar.{CapturedFrame, captured_length}
use Rattle.bridge_capture.specs.WrittenCapture.{written_format, written_header, written_words, written_frame, written_text}
use Rattle.bridge_capture.proofs.Again.{words_length, words_captured, record_length}
use Rattle.bridge_capture.proofs.Fronts.{captured_front}
use Rattle.bridge_capture.specs.HexLines.{hex_line, hex_text}

-- Holds if the number of captured octets fits 32 bits.
abbrev pub HasWordLength : CapturedFrame → Type 0
HasWordLength frame = length frame.octets < 2 ^ 32

first_short : (frame : CapturedFrame) (more : List CapturedFrame) → All HasWordLength (frame ∷ more) → HasWordLength frame
first_short frame more h = h 0 frame (omega arith)

others_short : (frame : CapturedFrame) (more : List CapturedFrame) → All HasWordLength (frame ∷ more) → All HasWordLength more
others_short frame more h = λ k d lt. h (suc k) d (omega arith)

-- Line of a frame's record.
abbrev frame_line : CapturedFrame → List ℕ
frame_line frame = hex_line (written_frame frame)

abbrev Left : List ℕ → List ℕ → List CapturedFrame → List CapturedFrame → Type 0
Left text rest frames left = All HasWordLength left × (rest ≡ flat_map written_frame left) × (text ++ flat_map frame_line left ≡ hex_text frames)

-- Holds if the text so far, followed by the lines of the rest, is the text of the capture.
abbrev pub LinesSoFar : List ℕ → List ℕ → List ℕ → Type 0
LinesSoFar capture text rest = (frames : List CapturedFrame) → All HasWordLength frames → capture ≡ written_text frames → (left : List CapturedFrame) × Left text rest frames left

-- Header line.
pub at_header : (capture front behind text : List ℕ) → front ≡ take (min (length capture) 24) capture → behind ≡ drop (min (length capture) 24) capture → text ≡ hex_line front → LinesSoFar capture text behind
unfolding hex_text
at_header capture front behind text front_is behind_is text_is = λ frames short is.
    let records = flat_map written_frame frames in
    let long : 24 ≤ length capture = omega (arith, ap length is, length-append written_header records) in
    let whole : min (length capture) 24 ≡ 24 = omega arith in
    let header : front ≡ written_header = front_is ∙ ap (λ (n : ℕ). take n capture) whole ∙ ap (take 24) is ∙ take_at written_header records 24 refl in
    let others : behind ≡ records = behind_is ∙ ap (λ (n : ℕ). drop n capture) whole ∙ ap (drop 24) is ∙ drop_at written_header records 24 refl in
    (frames, (short, others, ap (λ (l : List ℕ). l ++ flat_map frame_line frames) (text_is ∙ ap hex_line header)))

captured_is : (frame : CapturedFrame) (more : List ℕ) → HasWordLength frame → captured_length written_format (written_frame frame ++ more) ≡ length frame.octets
captured_is frame more short =
    let words = written_words frame.time (length frame.octets) frame.len in
    let len = words_length frame.time (length frame.octets) frame.len in
    ap (captured_length written_format) (append_assoc words frame.octets more) ∙ captured_front written_format words (frame.octets ++ more) len ∙ words_captured frame.time (length frame.octets) frame.len short

next_record : (text rest front behind text' : List ℕ) (count : ℕ) (frames left : List CapturedFrame) → 0 < length rest → (16 ≤ length rest → count ≡ 16 + captured_length written_format rest) → front ≡ take (min count (length rest)) rest → behind ≡ drop (min count (length rest)) rest
    → text' ≡ text ++ hex_line front → Left text rest frames left → (more : List CapturedFrame) × Left text' behind frames more
next_record text rest front behind text' count frames [] some count_is front_is behind_is text_is h = absurd (omega (arith, ap length h.1))
next_record text rest front behind text' count frames (frame ∷ more) some count_is front_is behind_is text_is h =
    let item = written_frame frame in
    let others = flat_map written_frame more in
    let is : rest ≡ item ++ others = h.1 in
    let long : 16 + length frame.octets ≤ length rest = omega (arith, ap length is, length-append item others, record_length frame) in
    let held : captured_length written_format rest ≡ length frame.octets = ap (captured_length written_format) is ∙ captured_is frame others (first_short frame more h.0) in
    let whole : min count (length rest) ≡ length item = omega (arith, count_is (omega arith), record_length frame) in
    let this : front ≡ item = front_is ∙ ap (λ (n : ℕ). take n rest) whole ∙ ap (take (length item)) is ∙ take_at item others (length item) refl in
    let next : behind ≡ others = behind_is ∙ ap (λ (n : ℕ). drop n rest) whole ∙ ap (drop (length item)) is ∙ drop_at item others (length item) refl in
    let lines = flat_map frame_line more in
    (more, (others_short frame more h.0, next, ap (λ (l : List ℕ). l ++ lines) (text_is ∙ ap (λ (l : List ℕ). text ++ hex_line l) this) ∙ append_assoc text (hex_line item) lines ∙ h.2))

-- Line of one record.
pub at_record : (capture text rest front behind text' : List ℕ) (count : ℕ) → 0 < length rest → (16 ≤ length rest → count ≡ 16 + captured_length written_format rest) → front ≡ take (min count (length rest)) rest → behind ≡ drop (min count (length rest)) rest
    → text' ≡ text ++ hex_line front → LinesSoFar capture text rest → LinesSoFar capture text' behind
at_record capture text rest front behind text' count some count_is front_is behind_is text_is h = λ frames short is.
    let so_far = h frames short is in
    next_record text rest front behind text' count frames so_far.0 some count_is front_is behind_is text_is so_far.1

none_left : (text rest : List ℕ) (frames left : List CapturedFrame) → length rest ≡ 0 → Left text rest frames left → text ≡ hex_text frames
none_left text rest frames [] none h = sym (append-nil text) ∙ h.2
none_left text rest frames (frame ∷ more) none h = absurd (omega (arith, ap length h.1, length-append (written_frame frame) (flat_map written_frame more), record_length frame))

-- After the last record, the text is complete.
pub at_end : (capture text rest : List ℕ) → length rest ≡ 0 → LinesSoFar capture text rest → (frames : List CapturedFrame) → All HasWordLength frames → capture ≡ written_text frames → text ≡ hex_text frames
at_end capture text rest none h = λ frames short is. let so_far = h frames short is in none_left text rest frames so_far.0 none so_far.1
