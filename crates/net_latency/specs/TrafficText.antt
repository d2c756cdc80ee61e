-- Lines of traffic rows, and the output and failures of `bounds --traffic`.
use Rattle.std.specs.Prelude.{◌≡◌, ◌⊎◌, ℕ, ◌-◌, Bool, true, false, ◌++◌, List, Option, None, Some, Ok, Err, flat_map, codes, decimal, string_bytes, take}
use Rattle.bridge_config.specs.Model.{Plan}
use Rattle.net_file.specs.declared.fault.NetFault.{NetFault}
use Rattle.app_files.specs.declared.failed_file.Access.TheVariants.{Reading}
use Rattle.app_failure.specs.declared.fault.Failure.{Failure}
use Rattle.app_failure.specs.declared.fault.Failure.TheVariants as fault
use Rattle.app_failure.specs.Jobs.{Accepts, EndsCheck}
use Rattle.app_failure.specs.Reading.{IsFileFault}
use Rattle.bridge_bounds.specs.declared.timing.Phases.{Phases}
use Rattle.net_file.specs.declared.traffic_fault.TrafficFault.{TrafficFault}
use Rattle.net_file.specs.declared.traffic_fault.TrafficFault.TheVariants as text
use Rattle.net_file.specs.declared.traffic_row.TalkerRow.{TalkerRow}
use Rattle.net_file.specs.TrafficDocument.{rows_of_text}
use Rattle.net_file.specs.TrafficFaults.{traffic_line}
use Rattle.net_latency.specs.declared.timings.QueueTiming.{QueueTiming}
use Rattle.net_latency.specs.declared.timings.TrafficFigures.{TrafficFigures}
use Rattle.net_latency.specs.declared.timings.TrafficFigures.TheVariants as figures
use Rattle.net_latency.specs.Printing.{AreBoundLines}
use Rattle.net_latency.specs.TalkerRows.{AreTimings, first_row_fault}
use Rattle.net_latency.specs.Traffic.{are_in_time, is_met}

-- The word for a row's frames in a queue: `passes` if each frame passes, otherwise `refusable`.
abbrev pub passing_word : Bool → List ℕ
passing_word true = codes "passes"
passing_word false = codes "refusable"

-- The word for a deadline that is met or missed.
abbrev pub deadline_word : Bool → List ℕ
deadline_word true = codes "met"
deadline_word false = codes "missed"

-- An optional deadline and whether the delay `worst` meets it; empty without a deadline.
abbrev pub deadline_words : Option ℕ → ℕ → List ℕ
deadline_words None worst = codes ""
deadline_words (Some d) worst = codes " deadline " ++ (decimal d ++ (codes " " ++ deadline_word (is_met (Some d) worst)))

-- The start of a line of `bounds --traffic`: row, filter, port and class of a queue.
abbrev pub queue_words : QueueTiming → List ℕ
queue_words x = codes "traffic " ++ (decimal x.row ++ (codes " filter " ++ (decimal x.filter ++ (codes " port " ++ (decimal x.port ++ (codes " class " ++ decimal x.class))))))

-- The words for the phases of the ends of transmission; empty if the phases are unknown.
abbrev pub phase_words : Option Phases → List ℕ
phase_words None = codes ""
phase_words (Some done) = codes " phases " ++ (decimal done.from ++ (codes ".." ++ decimal done.to))

-- The words for worst delay, best delay and jitter in ns, and for the phases if they are known.
abbrev pub delay_words : ℕ → ℕ → Option Phases → List ℕ
delay_words worst best phases =
    codes " worst " ++ (decimal worst ++ (codes " best " ++ (decimal best ++ (codes " jitter " ++ (decimal (worst - best) ++ phase_words phases)))))

-- The words of `bounds --traffic` for the delays of a row in a queue.
abbrev pub figure_words : QueueTiming → List ℕ
figure_words x = delay_words x.timing.worst x.timing.best x.timing.phases

-- The line of a row's frames in a queue: `passes` or `refusable`, the delays, and the deadline if there is one.
unfoldable pub timing_line : QueueTiming → List ℕ
timing_line x = queue_words x ++ (codes " " ++ (passing_word x.passes ++ (figure_words x ++ (deadline_words x.deadline x.timing.worst ++ codes "\n"))))

-- The line of row `row` of filter `filter` without reachable queue: it ends with `nowhere`.
abbrev pub nowhere_line : ℕ → ℕ → List ℕ
nowhere_line row filter = codes "traffic " ++ (decimal row ++ (codes " filter " ++ (decimal filter ++ codes " nowhere\n")))

-- The line of a row in a queue, or of a row without queue.
abbrev pub figures_line : TrafficFigures → List ℕ
figures_line (figures.Queue x) = timing_line x
figures_line (figures.Nowhere row filter) = nowhere_line row filter

-- One line for each result of a traffic row in a queue or without queue, in order.
abbrev pub timings_text : List TrafficFigures → List ℕ
timings_text xs = flat_map figures_line xs

-- THE COMMAND `bounds --traffic`

-- Holds if a traffic file with the octets `words` has the rows `rows`. The first 1,048,577 octets decide, because a file of more than
-- 1,048,576 octets is refused.
abbrev pub ReadsRows : List ℕ → List TalkerRow → Type 0
ReadsRows words rows = rows_of_text (take 1048577 words) ≡ Ok rows

-- Holds if the rows suit the plan and `lines` has the lines of its bounds and of the rows. `kept` is true if each frame passes and meets
-- its deadline.
pub record AreLinesOfTraffic {A : Type 0} (p : Plan A) (rows : List TalkerRow) (lines : List ℕ) (kept : Bool) : Type 0 where
  pub suit : first_row_fault p 1 rows ≡ None
  pub bounds : List ℕ
  pub are_bounds : AreBoundLines p bounds
  pub timings : List TrafficFigures
  pub are_timings : AreTimings p rows timings
  pub lines_are : lines ≡ bounds ++ timings_text timings
  pub kept_is : kept ≡ are_in_time timings

-- Holds if `lines` and `kept` are the output for the plan file `input` and the traffic file `words`.
pub record PrintsTraffic (A : Type 0) (input words lines : List ℕ) (kept : Bool) : Type 0 where
  pub plan : Plan A
  pub accepts : Accepts input plan
  pub rows : List TalkerRow
  pub reads : ReadsRows words rows
  pub are_lines : AreLinesOfTraffic plan rows lines kept

-- Holds if the command's failure is `NoMemory`, or has the fault line of traffic fault `e`.
abbrev pub IsTrafficFailure : TrafficFault → Failure → Type 0
IsTrafficFailure e (fault.Network line) = string_bytes line ≡ traffic_line e
IsTrafficFailure e fault.NoMemory = Unit {0}
IsTrafficFailure e f = ⊥

-- Holds if failure `f` is why the traffic file with contents `words` gives no rows: `NoMemory`, or the fault of its contents.
abbrev pub RefusesRows : List ℕ → Failure → Type 0
RefusesRows words f = (f ≡ fault.NoMemory) ⊎ ((e : NetFault) × (rows_of_text (take 1048577 words) ≡ Err e) × IsTrafficFailure (text.Text e) f)

-- Holds if failure `f` is why the program prints no delays of these rows: `NoMemory`, or the first row that doesn't suit the plan.
abbrev pub RefusesTimings : {A : Type 0} → Plan A → List TalkerRow → Failure → Type 0
RefusesTimings p rows f = (f ≡ fault.NoMemory) ⊎ ((e : TrafficFault) × (first_row_fault p 1 rows ≡ Some e) × IsTrafficFailure e f)

-- Holds if failure `f` can end `bounds --traffic` for an accepted plan. In this order: `file` can't be read, its text `words` is refused,
-- or its rows don't suit the plan.
abbrev pub EndsRows : {A : Type 0} → Plan A → List ℕ → List ℕ → Failure → Type 0
EndsRows p file words f =
    IsFileFault Reading file f
    ⊎ (RefusesRows words f
    ⊎ ((rows : List TalkerRow) × ReadsRows words rows × RefusesTimings p rows f))

-- Holds if failure `f` can end `bounds --traffic`: the plan file failed or is refused, or the traffic file for an accepted plan.
abbrev pub EndsTraffic : (A : Type 0) → List ℕ → List ℕ → List ℕ → List ℕ → Failure → Type 0
EndsTraffic A path input file words f = EndsCheck A path input f ⊎ ((plan : Plan A) × Accepts input plan × EndsRows plan file words f)

-- THE TEXTS THAT WERE READ

-- Holds if `lines` and `kept` are the output for the plan file `input` and a traffic file whose whole text is `words`.
pub record PrintsRows (A : Type 0) (input words lines : List ℕ) (kept : Bool) : Type 0 where
  pub plan : Plan A
  pub accepts : Accepts input plan
  pub rows : List TalkerRow
  pub reads : rows_of_text words ≡ Ok rows
  pub are_lines : AreLinesOfTraffic plan rows lines kept

-- Holds if failure `f` is `NoMemory`, or why the traffic text `words` is refused.
abbrev pub RefusesWords : List ℕ → Failure → Type 0
RefusesWords words f = (f ≡ fault.NoMemory) ⊎ ((e : NetFault) × (rows_of_text words ≡ Err e) × IsTrafficFailure (text.Text e) f)

-- Holds if failure `f` can end `bounds --traffic` for an accepted plan. The file can't be read, its text `words` is refused, or its rows
-- don't suit the plan.
abbrev pub EndsWords : {A : Type 0} → Plan A → List ℕ → List ℕ → Failure → Type 0
EndsWords p file words f =
    IsFileFault Reading file f
    ⊎ (RefusesWords words f
    ⊎ ((rows : List TalkerRow) × (rows_of_text words ≡ Ok rows) × RefusesTimings p rows f))

-- Holds if failure `f` can end `bounds --traffic` over traffic text `words`. The plan file failed or is refused, or the traffic for an
-- accepted plan.
abbrev pub EndsTexts : (A : Type 0) → List ℕ → List ℕ → List ℕ → List ℕ → Failure → Type 0
EndsTexts A path input file words f = EndsCheck A path input f ⊎ ((plan : Plan A) × Accepts input plan × EndsWords plan file words f)
