-- Computed examples of sections of a run's report.
use Rattle.std.specs.Prelude.{◌≡◌, ℕ, true, false, Option, Some, None, List, [], ◌∷◌, ◌++◌, codes, flat_map, refl}
use Rattle.std.specs.Fmt.{digits}
use Rattle.bridge_filter.specs.declared.Verdict.{Verdict}
use Rattle.bridge_filter.specs.declared.Verdict.TheVariants as verdict
use Rattle.bridge_filter.specs.declared.Counters.{Counters}
use Rattle.bridge_filter.specs.declared.Flags.{Flags}
use Rattle.bridge_semantics.specs.declared.outcome.Departure.{Departure}
use Rattle.bridge_semantics.specs.declared.outcome.View.{View}
use Rattle.bridge_report.specs.Section.{bucket_line, copy_lines, counter_lines, delay_line, all_flags, flags_line, frame_lines, header_line, list_lines, departure_line, queued_line, section_text, state_lines}

-- The counters of a filter that passed all of its `n` frames.
abbrev counted : ℕ → Counters
counted n = record { matching = n; sdu_passed = n; sdu_refused = 0; gate_passed = n; gate_refused = 0; red = 0 }

-- Four flags that aren't set.
abbrev unset : Flags
unset = record { blocked = false; rx = false; octets = false; red = false }

-- The departure of a frame of 64 octets at 1,000 Mb/s.
abbrev left : Departure
left = record { own = 1; port = 3; start = 100000; done = 100672 }

-- The section of protected filter 10, which has no set flag, no bucket and no dropped copy. `longest` is its longest
-- delay in ns.
abbrev told : Counters → List Verdict → List Departure → Option ℕ → List ℕ
told counters verdicts departures longest = (header_line 10 true ++ (counter_lines counters ++ (flags_line unset ++ bucket_line None)))
    ++ ((queued_line departures [] ++ delay_line longest) ++ ((frame_lines 1 verdicts ++ flat_map departure_line departures) ++ codes "end\n"))

-- The section if no frame arrived.
pub no_frame : told (counted 0) [] [] None ≡ codes "filter 10 protected\nmatching 0\nsdu passed 0 refused 0\ngate passed 0 refused 0\nred 0\nflags blocked no rx no octets no red no\nbucket none\nqueued 0 full 0 never 0\ndelay none\nend\n"
unfolding all_flags digits
no_frame = refl

-- The section if one frame arrived and left.
pub one_frame : told (counted 1) (verdict.Pass None false ∷ []) (left ∷ []) (Some 672) ≡ codes "filter 10 protected\nmatching 1\nsdu passed 1 refused 0\ngate passed 1 refused 0\nred 0\nflags blocked no rx no octets no red no\nbucket none\nqueued 1 full 0 never 0\ndelay 672\nframe 1 pass\nout 1 port 3 start 100000 done 100672\nend\n"
unfolding all_flags digits
one_frame = refl

-- If a record is protected, without a set flag, bucket or dropped copy, the section of filter 10 is `told` of the
-- record's other fields.
pub section_is : {A : Type 0} (view : View A) → view.protected ≡ true → view.flags ≡ unset → view.buckets ≡ None → view.drops.items ≡ []
    → section_text 10 view ≡ told view.counters view.verdicts.items view.departures.items view.delay
unfolding section_text state_lines copy_lines list_lines
section_is view protected flags buckets drops = rw (protected, flags, buckets, drops) refl

-- Frame numbers start at 1.
pub frames : frame_lines 1 (verdict.Pass None true ∷ verdict.GateClosed ∷ []) ≡ codes "frame 1 pass-eligible\nframe 2 gate-closed\n"
unfolding digits
frames = refl
