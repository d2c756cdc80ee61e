-- A record that is written again with a delay.
use Rattle.std.proofs.Common.{◌≡◌, ℕ, ◌+◌, ◌-◌, ◌*◌, ◌/◌, ◌%◌, ◌^◌, ◌<◌, List, [], ◌∷◌, ◌++◌, length, map, take, drop, Option, Some, None, refl, sym, ap, ◌∙◌, append_assoc, append-nil, arith}
use Rattle.std.specs.Int.{w32, from_le_bytes, to_le_bytes}
use Rattle.std.proofs.lemmas.Nat.{from_le_bytes-to_le_bytes_4}
use Rattle.std.specs.Prelude.{All}
use Rattle.std.specs.List.{flat_map}
use Rattle.std.proofs.lemmas.List.{length-append, take_rest}
use Rattle.std.proofs.lemmas.List.Elements.{All-head, All-tail}
use Rattle.std.proofs.lemmas.Option.{same_Some}
use Rattle.bridge_capture.specs.Grammar.{CapturedFrame}
use Rattle.bridge_capture.specs.WrittenCapture.{written_words, written_frame}
use Rattle.bridge_capture.proofs.Again.{record_length}
use Rattle.bridge_core.specs.CaptureWriters.{FitsRecord}
use Rattle.net_run.specs.DelayedCapture.{AppendsDelayedRecord, IsWord, delayed, delayed_time, time_words, word_at}

-- The words of the first record.
seconds_word : (c : CapturedFrame) (more : List ℕ) → FitsRecord c → from_le_bytes w32 (take 4 (drop 0 (written_frame c ++ more))) ≡ c.time / 10 ^ 9
unfolding written_words
seconds_word c more fits = let early = fits.seconds in from_le_bytes-to_le_bytes_4 (c.time / 10 ^ 9) (omega (arith, early))

fraction_word : (c : CapturedFrame) (more : List ℕ) → from_le_bytes w32 (take 4 (drop 4 (written_frame c ++ more))) ≡ c.time % 10 ^ 9
unfolding written_words
fraction_word c more = from_le_bytes-to_le_bytes_4 (c.time % 10 ^ 9) (omega arith)

captured_word : (c : CapturedFrame) (more : List ℕ) → FitsRecord c → from_le_bytes w32 (take 4 (drop 8 (written_frame c ++ more))) ≡ length c.octets
unfolding written_words
captured_word c more fits = let few = fits.captured in from_le_bytes-to_le_bytes_4 (length c.octets) (omega (arith, few))

-- The captured length of the first record.
pub captured_is : (c : CapturedFrame) (more : List ℕ) → FitsRecord c → word_at (written_frame c ++ more) 8 ≡ length c.octets
captured_is c more fits = captured_word c more fits

pub item_length : (c : CapturedFrame) (more : List ℕ) → length (written_frame c ++ more) ≡ 16 + length c.octets + length more
item_length c more = let whole = length-append (written_frame c) more in let own = record_length c in omega (arith, whole, own)

behind : (xs ys : List ℕ) → drop (length xs) (xs ++ ys) ≡ ys
behind [] ys = refl
behind (x ∷ xs) ys = behind xs ys

front : (xs ys : List ℕ) → take (length xs) (xs ++ ys) ≡ xs
front [] ys = refl
front (x ∷ xs) ys = ap (λ (zs : List ℕ). x ∷ zs) (front xs ys)

-- The octets after the first record.
behind_item : (c : CapturedFrame) (more : List ℕ) → drop (16 + length c.octets) (written_frame c ++ more) ≡ more
behind_item c more = ap (λ (n : ℕ). drop n (written_frame c ++ more)) (sym (record_length c)) ∙ behind (written_frame c) more

-- The part of a record after its time.
abbrev rest_of : CapturedFrame → List ℕ
rest_of c = to_le_bytes w32 (length c.octets) ++ (to_le_bytes w32 c.len ++ c.octets)

rest_length : (c : CapturedFrame) → length (rest_of c) ≡ 8 + length c.octets
rest_length c = omega arith

rest_item : (c : CapturedFrame) (more : List ℕ) → drop 8 (written_frame c ++ more) ≡ rest_of c ++ more
unfolding written_words
rest_item c more = refl

rest_taken : (c : CapturedFrame) (more : List ℕ) → take (16 + length c.octets - 8) (drop 8 (written_frame c ++ more)) ≡ rest_of c
rest_taken c more =
    let own = rest_length c in
    let many : 16 + length c.octets - 8 ≡ length (rest_of c) = omega (arith, own) in
    ap (λ (n : ℕ). take n (drop 8 (written_frame c ++ more))) many ∙ (ap (take (length (rest_of c))) (rest_item c more) ∙ front (rest_of c) more)

-- The two words of the time, and the rest of the record.
later_item : (delay : ℕ) (c : CapturedFrame) → time_words (delayed_time c.time delay) ++ rest_of c ≡ written_frame (delayed delay c)
unfolding written_words time_words
later_item delay c = refl

-- A delayed record is appended.
pub adds_later : (delay : ℕ) (octets old mid new : List ℕ) (seconds fraction captured : ℕ)
    → IsWord octets 8 captured → IsWord octets 0 seconds → IsWord octets 4 fraction
    → mid ≡ old ++ time_words (delayed_time (seconds * 1000000000 + fraction) delay)
    → new ≡ mid ++ take (16 + captured - 8) (drop 8 octets)
    → AppendsDelayedRecord delay octets old new (Some (take (length octets - (16 + captured)) (drop (16 + captured) octets)))
adds_later delay octets old mid new seconds fraction captured at at_0 at_4 first second c more fits is =
    let n : captured ≡ length c.octets = at ∙ (ap (λ (z : List ℕ). from_le_bytes w32 (take 4 (drop 8 z))) is ∙ captured_word c more fits) in
    let s : seconds ≡ c.time / 10 ^ 9 = at_0 ∙ (ap (λ (z : List ℕ). from_le_bytes w32 (take 4 (drop 0 z))) is ∙ seconds_word c more fits) in
    let f : fraction ≡ c.time % 10 ^ 9 = at_4 ∙ (ap (λ (z : List ℕ). from_le_bytes w32 (take 4 (drop 4 z))) is ∙ fraction_word c more) in
    let moment : seconds * 1000000000 + fraction ≡ c.time = omega (arith, s, f) in
    let words : time_words (delayed_time (seconds * 1000000000 + fraction) delay) ≡ time_words (delayed_time c.time delay) = ap (λ (z : ℕ). time_words (delayed_time z delay)) moment in
    let rest : take (16 + captured - 8) (drop 8 octets) ≡ rest_of c = ap (λ (z : ℕ). take (16 + z - 8) (drop 8 octets)) n ∙ (ap (λ (z : List ℕ). take (16 + length c.octets - 8) (drop 8 z)) is ∙ rest_taken c more) in (
      ap (λ (z : List ℕ). Some z) (take_rest octets (16 + captured) ∙ (ap (λ (z : List ℕ). drop (16 + captured) z) is ∙ (ap (λ (z : ℕ). drop (16 + z) (written_frame c ++ more)) n ∙ behind_item c more))),
      second ∙ (ap (λ (z : List ℕ). z ++ take (16 + captured - 8) (drop 8 octets)) (first ∙ ap (λ (z : List ℕ). old ++ z) words)
          ∙ (ap (λ (z : List ℕ). (old ++ time_words (delayed_time c.time delay)) ++ z) rest
          ∙ (append_assoc old (time_words (delayed_time c.time delay)) (rest_of c)
          ∙ ap (λ (z : List ℕ). old ++ z) (later_item delay c)))),
    )

-- If the octets are shorter than a record's header, they have no record.
pub short_of_words : (delay : ℕ) (octets old new : List ℕ) (rest : Option (List ℕ)) → length octets < 16 → AppendsDelayedRecord delay octets old new rest
short_of_words delay octets old new rest short c more fits is =
    let long = ap length is ∙ item_length c more in
    absurd (omega (arith, short, long))

-- If the octets are shorter than the record's length, they have no whole record.
pub short_of_octets : (delay : ℕ) (octets old new : List ℕ) (rest : Option (List ℕ)) (captured : ℕ) → IsWord octets 8 captured → length octets < 16 + captured → AppendsDelayedRecord delay octets old new rest
short_of_octets delay octets old new rest captured at short c more fits is =
    let n : captured ≡ length c.octets = at ∙ (ap (λ (z : List ℕ). from_le_bytes w32 (take 4 (drop 8 z))) is ∙ captured_word c more fits) in
    let long = ap length is ∙ item_length c more in
    absurd (omega (arith, short, long, n))

-- ALL RECORDS

-- While records are added one by one, the text and the octets that are left give the same result as all octets.
abbrev pub IsAdding : ℕ → List ℕ → List ℕ → List ℕ → List ℕ → Type 0
IsAdding delay octets old left text =
    (frames : List CapturedFrame) → octets ≡ flat_map written_frame frames → All FitsRecord frames
    → (todo : List CapturedFrame) × All FitsRecord todo × (left ≡ flat_map written_frame todo)
    × (text ++ flat_map written_frame (map (delayed delay) todo) ≡ old ++ flat_map written_frame (map (delayed delay) frames))

pub adding_none : (delay : ℕ) (octets old : List ℕ) → IsAdding delay octets old octets old
adding_none delay octets old frames is fits = (frames, fits, is, refl)

-- One record more.
pub adding_more : (delay : ℕ) (octets old left text next rest : List ℕ) → length rest < length left → AppendsDelayedRecord delay left text next (Some rest) → IsAdding delay octets old left text → IsAdding delay octets old rest next
adding_more delay octets old left text next rest fewer adds so_far frames is fits = go (so_far frames is fits)
  where
    go : (todo : List CapturedFrame) × All FitsRecord todo × (left ≡ flat_map written_frame todo) × (text ++ flat_map written_frame (map (delayed delay) todo) ≡ old ++ flat_map written_frame (map (delayed delay) frames))
        → (todo : List CapturedFrame) × All FitsRecord todo × (rest ≡ flat_map written_frame todo) × (next ++ flat_map written_frame (map (delayed delay) todo) ≡ old ++ flat_map written_frame (map (delayed delay) frames))
    go ([], all, is_left, same) = let none = ap length is_left in absurd (omega (arith, fewer, none))
    go (c ∷ more, all, is_left, same) =
        let added = adds c (flat_map written_frame more) (All-head FitsRecord c more all) is_left in (
          more,
          All-tail FitsRecord c more all,
          same_Some rest (flat_map written_frame more) added.0,
          ap (λ (z : List ℕ). z ++ flat_map written_frame (map (delayed delay) more)) added.1 ∙ (append_assoc text (written_frame (delayed delay c)) (flat_map written_frame (map (delayed delay) more)) ∙ same),
        )

-- No record is left.
pub adding_all : (delay : ℕ) (octets old left text next : List ℕ) → next ≡ text → AppendsDelayedRecord delay left text next None → IsAdding delay octets old left text → (frames : List CapturedFrame) → octets ≡ flat_map written_frame frames → All FitsRecord frames → next ≡ old ++ flat_map written_frame (map (delayed delay) frames)
adding_all delay octets old left text next kept adds so_far frames is fits = go (so_far frames is fits)
  where
    go : (todo : List CapturedFrame) × All FitsRecord todo × (left ≡ flat_map written_frame todo) × (text ++ flat_map written_frame (map (delayed delay) todo) ≡ old ++ flat_map written_frame (map (delayed delay) frames)) → next ≡ old ++ flat_map written_frame (map (delayed delay) frames)
    go ([], all, is_left, same) = kept ∙ (sym (append-nil text) ∙ same)
    go (c ∷ more, all, is_left, same) = let added = adds c (flat_map written_frame more) (All-head FitsRecord c more all) is_left in absurd (cc)
