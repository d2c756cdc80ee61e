-- The least common cycle of two lists.
use Rattle.std.proofs.Common.{◌≡◌, ℕ, ◌<◌, ◌≤◌, ◌+◌, ◌*◌, ◌/◌, ◌%◌, length, arith, sym, subst, ap, inl, inr}
use Rattle.std.proofs.Math.Nat.{div-le_self, div-mul-le_self, le-mul_of_pos_right, mul-div_cancel, mul-le-mul_left, mul-mod_left}
use Rattle.std.proofs.lemmas.Bool.{cases_lt}
use Rattle.std.proofs.lemmas.Nat.{le-div}
use Rattle.bridge_cycle.specs.Cyclic.{Cyclic, IsLawful}
use Rattle.bridge_cycle.specs.declared.cyclic_list.TheConstants.{LONGEST_CYCLE}
use Rattle.bridge_gate.specs.declared.schedule.GateEntry.{GateEntry}
use Rattle.bridge_bounds.specs.declared.common_cycle.TheConstants.{MAX_INTERVALS}
use Rattle.bridge_bounds.specs.Openings.{AreLeastCycles, IsCommonCycle}

pub whole : (n cycle : ℕ) → 0 < cycle → n % cycle ≡ 0 → n / cycle * cycle ≡ n
whole n cycle some even = grind (arith, even)

product_mono : (a b n : ℕ) → a ≤ b → a * n ≤ b * n
product_mono a b n h =
    let left : n * a ≤ n * b = mul-le-mul_left n h in
    let one : n * a ≡ a * n = grind arith in
    let other : n * b ≡ b * n = grind arith in
    omega (arith, left, one, other)

div_mono : (a b n : ℕ) → 0 < n → a ≤ b → a / n ≤ b / n
div_mono a b n some h =
    let below = div-mul-le_self a n in
    le-div (a / n) b n some (omega (arith, below, h))

-- A common cycle has few cycles of the stream gate's list.
pub few_cycles : (gate : Cyclic GateEntry) (list : Cyclic ℕ) (span : ℕ) → IsCommonCycle gate list span → span / gate.cycle * length gate.entries ≤ MAX_INTERVALS
few_cycles gate list span common = let few = common.few in omega (arith, few)

-- A common cycle is at most 1,024 longest cycles.
pub common_short : (gate : Cyclic GateEntry) (list : Cyclic ℕ) (span : ℕ) → IsLawful gate → IsCommonCycle gate list span → span ≤ 1024 * LONGEST_CYCLE
common_short gate list span lawful common =
    let few = few_cycles gate list span common in
    let least : span / gate.cycle ≤ span / gate.cycle * length gate.entries = le-mul_of_pos_right (span / gate.cycle) lawful.some in
    let short = lawful.cycle in
    let is = whole span gate.cycle lawful.cycle_some common.gate_cycles in
    let below : span / gate.cycle * gate.cycle ≤ 1024 * gate.cycle = product_mono (span / gate.cycle) 1024 gate.cycle (omega (arith, few, least)) in
    omega (arith, is, below, short)

-- The cycles of the gate's list in a common cycle.
record AreGateCycles (gate : Cyclic GateEntry) (list : Cyclic ℕ) (span n : ℕ) : Type 0 where
  some : 1 ≤ n
  most : n ≤ MAX_INTERVALS / length gate.entries
  whole : n * gate.cycle % list.cycle ≡ 0
  is : n * gate.cycle ≡ span

gate_cycles : (gate : Cyclic GateEntry) (list : Cyclic ℕ) (span : ℕ) → IsLawful gate → IsCommonCycle gate list span → AreGateCycles gate list span (span / gate.cycle)
gate_cycles gate list span lawful common =
    let is = whole span gate.cycle lawful.cycle_some common.gate_cycles in
    let some = common.some in
    record {
      some = elim (cases_lt 0 (span / gate.cycle)) [
        | inl l ↦ omega (arith, l)
        | inr l ↦
            let none : span / gate.cycle ≡ 0 = omega (arith, l) in
            let zero_time : span / gate.cycle * gate.cycle ≡ 0 * gate.cycle = ap (λ (n : ℕ). n * gate.cycle) none in
            absurd (omega (arith, is, zero_time, some))
      ];
      most = le-div (span / gate.cycle) MAX_INTERVALS (length gate.entries) lawful.some (few_cycles gate list span common);
      whole = subst (λ (n : ℕ). n % list.cycle ≡ 0) (sym is) common.list_cycles;
      is = is;
    }

-- Without a number of cycles, no common cycle exists.
pub none_common : (gate : Cyclic GateEntry) (list : Cyclic ℕ) → IsLawful gate → ((i : ℕ) → 1 ≤ i → i ≤ MAX_INTERVALS / length gate.entries → ¬ (i * gate.cycle % list.cycle ≡ 0)) → (span : ℕ) → ¬ IsCommonCycle gate list span
none_common gate list lawful none span common =
    let are = gate_cycles gate list span lawful common in
    none (span / gate.cycle) are.some are.most are.whole

-- If the least common cycle has too many intervals, no common cycle exists.
pub many_common : (gate : Cyclic GateEntry) (list : Cyclic ℕ) (most n : ℕ) → IsLawful gate → IsLawful list → AreLeastCycles gate.cycle list.cycle most n → MAX_INTERVALS < n * length gate.entries + n * gate.cycle / list.cycle * length list.entries → (span : ℕ) → ¬ IsCommonCycle gate list span
many_common gate list most n lawful made least many span common =
    let are = gate_cycles gate list span lawful common in
    let few = common.few in
    elim (cases_lt (span / gate.cycle) n) [
      | inl l ↦ least.least (span / gate.cycle) are.some l are.whole
      | inr l ↦
          let gates = product_mono n (span / gate.cycle) (length gate.entries) l in
          let longer : n * gate.cycle ≤ span = let is = are.is in let grown = product_mono n (span / gate.cycle) gate.cycle l in omega (arith, is, grown) in
          let lists = product_mono (n * gate.cycle / list.cycle) (span / list.cycle) (length list.entries) (div_mono (n * gate.cycle) span list.cycle made.cycle_some longer) in
          omega (arith, gates, lists, few, many)
    ]

-- The least common cycle.
pub is_common : (gate : Cyclic GateEntry) (list : Cyclic ℕ) (most n : ℕ) → IsLawful gate → AreLeastCycles gate.cycle list.cycle most n → n * length gate.entries + n * gate.cycle / list.cycle * length list.entries ≤ MAX_INTERVALS → IsCommonCycle gate list (n * gate.cycle)
is_common gate list most n lawful least few =
    let some = least.some in
    let grown = product_mono 1 n gate.cycle some in
    let cycle = lawful.cycle_some in
    let back : n * gate.cycle / gate.cycle ≡ n = mul-div_cancel n lawful.cycle_some in
    record {
      some = omega (arith, grown, cycle);
      gate_cycles = mul-mod_left n gate.cycle;
      list_cycles = least.whole;
      few = subst (λ (i : ℕ). i * length gate.entries + n * gate.cycle / list.cycle * length list.entries ≤ MAX_INTERVALS) (sym back) few;
    }

-- The numbers of the search are small.
pub span_small : (n cycle : ℕ) → n ≤ 1024 → cycle ≤ LONGEST_CYCLE → n * cycle ≤ 1024 * LONGEST_CYCLE
span_small n cycle few short = let below = product_mono n 1024 cycle few in omega (arith, below, short)

pub product_small : (a b most : ℕ) → a ≤ most → b ≤ 256 → a * b ≤ most * 256
product_small a b most h k =
    let below = product_mono a most b h in
    let over : most * b ≤ most * 256 = mul-le-mul_left most k in
    omega (arith, below, over)

-- The cycle times and the numbers of entries of two lists.
pub record AreSizes (gate : Cyclic GateEntry) (list : Cyclic ℕ) (gate_cycle list_cycle gate_entries list_entries : ℕ) : Type 0 where
  pub gate_lawful : IsLawful gate
  pub list_lawful : IsLawful list
  pub gate_cycle_is : gate_cycle ≡ gate.cycle
  pub list_cycle_is : list_cycle ≡ list.cycle
  pub gate_entries_are : gate_entries ≡ length gate.entries
  pub list_entries_are : list_entries ≡ length list.entries

least_by : (gate : Cyclic GateEntry) (list : Cyclic ℕ) (a b d e most n : ℕ) → AreSizes gate list a b d e → AreLeastCycles a b most n → AreLeastCycles gate.cycle list.cycle most n
least_by gate list a b d e most n sizes least = subst (λ (i : ℕ). AreLeastCycles gate.cycle i most n) sizes.list_cycle_is (subst (λ (i : ℕ). AreLeastCycles i b most n) sizes.gate_cycle_is least)

-- The number of intervals, by the lists.
sum_by : (gate : Cyclic GateEntry) (list : Cyclic ℕ) (a b d e n : ℕ) (P : ℕ → Type 0) → AreSizes gate list a b d e → P (n * d + n * a / b * e) → P (n * length gate.entries + n * gate.cycle / list.cycle * length list.entries)
sum_by gate list a b d e n P sizes h =
    subst (λ (i : ℕ). P (n * i + n * gate.cycle / list.cycle * length list.entries)) sizes.gate_entries_are
    (subst (λ (i : ℕ). P (n * d + n * i / list.cycle * length list.entries)) sizes.gate_cycle_is
    (subst (λ (i : ℕ). P (n * d + n * a / i * length list.entries)) sizes.list_cycle_is
    (subst (λ (i : ℕ). P (n * d + n * a / b * i)) sizes.list_entries_are h)))

pub none_by_sizes : (gate : Cyclic GateEntry) (list : Cyclic ℕ) (a b d e : ℕ) → AreSizes gate list a b d e → ((i : ℕ) → 1 ≤ i → i ≤ MAX_INTERVALS / d → ¬ (i * a % b ≡ 0)) → (span : ℕ) → ¬ IsCommonCycle gate list span
none_by_sizes gate list a b d e sizes none =
    none_common gate list sizes.gate_lawful (λ i p q even. none i p (subst (λ (k : ℕ). i ≤ MAX_INTERVALS / k) (sym sizes.gate_entries_are) q) (subst (λ (k : ℕ). i * k % b ≡ 0) (sym sizes.gate_cycle_is) (subst (λ (k : ℕ). i * gate.cycle % k ≡ 0) (sym sizes.list_cycle_is) even)))

pub many_by_sizes : (gate : Cyclic GateEntry) (list : Cyclic ℕ) (a b d e most n : ℕ) → AreSizes gate list a b d e → AreLeastCycles a b most n → MAX_INTERVALS < n * d + n * a / b * e → (span : ℕ) → ¬ IsCommonCycle gate list span
many_by_sizes gate list a b d e most n sizes least many = many_common gate list most n sizes.gate_lawful sizes.list_lawful (least_by gate list a b d e most n sizes least) (sum_by gate list a b d e n (λ i. MAX_INTERVALS < i) sizes many)

pub common_by_sizes : (gate : Cyclic GateEntry) (list : Cyclic ℕ) (a b d e most n : ℕ) → AreSizes gate list a b d e → AreLeastCycles a b most n → n * d + n * a / b * e ≤ MAX_INTERVALS → IsCommonCycle gate list (n * a)
common_by_sizes gate list a b d e most n sizes least few =
    subst (λ (i : ℕ). IsCommonCycle gate list (n * i)) (sym sizes.gate_cycle_is)
    (is_common gate list most n sizes.gate_lawful (least_by gate list a b d e most n sizes least) (sum_by gate list a b d e n (λ i. i ≤ MAX_INTERVALS) sizes few))

-- The number of intervals in the gate's cycles is small.
pub sizes_small : (gate : Cyclic GateEntry) (list : Cyclic ℕ) (a b d e n : ℕ) → AreSizes gate list a b d e → n ≤ MAX_INTERVALS / d → (n * d ≤ MAX_INTERVALS) × (n * a ≤ 1024 * LONGEST_CYCLE) × (n * a / b * e ≤ 1024 * LONGEST_CYCLE * 256)
sizes_small gate list a b d e n sizes few =
    let some : 0 < length gate.entries = sizes.gate_lawful.some in
    let entries = sizes.gate_entries_are in
    let gates = product_mono n (MAX_INTERVALS / d) d few in
    let all = div-mul-le_self MAX_INTERVALS d in
    let least : n ≤ n * d = le-mul_of_pos_right n (omega (arith, some, entries)) in
    let cycle = sizes.gate_lawful.cycle in
    let is = sizes.gate_cycle_is in
    let short = span_small n a (omega (arith, gates, all, least)) (omega (arith, cycle, is)) in
    let less = div-le_self (n * a) b in
    let most = sizes.list_lawful.few in
    let lists = sizes.list_entries_are in
    let product = product_small (n * a / b) e (1024 * LONGEST_CYCLE) (omega (arith, less, short)) (omega (arith, most, lists)) in
    (omega (arith, gates, all), short, product)
