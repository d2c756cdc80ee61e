-- The warnings of one plan or stream more.
use Rattle.std.proofs.Common.{◌≡◌, ◌∙◌, ◌<◌, ◌+◌, ℕ, suc, List, ◌∷◌, ◌++◌, ap, sym, drop, drop-cons, length, get_or, append_assoc, arith}
use Rattle.bridge_config.specs.Model.{Plan}
use Rattle.net_file.specs.Model.{Stream}
use Rattle.net_file.specs.Model as file
use Rattle.net_check.specs.Telling.{sdu_falls, stream_sdu_falls, unlisted_filters, unlisted_of_plan}

-- The lines of the plan with index `i` precede the lines of later plans.
pub left_next : {A : Type 0} (f : file.Network) (plans : List (Plan A)) (i : ℕ) (d : Plan A) (before after whole : List ℕ) → i < length plans
    → before ++ unlisted_filters f i (drop i plans) ≡ whole → after ≡ before ++ unlisted_of_plan f i (get_or plans i d) → after ++ unlisted_filters f (i + 1) (drop (i + 1) plans) ≡ whole
left_next f plans i d before after whole less was is =
    let cut : drop i plans ≡ get_or plans i d ∷ drop (suc i) plans = drop-cons plans i d less in
    let one : i + 1 ≡ suc i = omega arith in
    rw (is, one, append_assoc) (rw cut at was)

-- The lines of the stream with index `i` precede the lines of later streams.
pub falls_next : {A : Type 0} (plans : List (Plan A)) (streams : List Stream) (i : ℕ) (d : Stream) (before after whole : List ℕ) → i < length streams
    → before ++ sdu_falls plans i (drop i streams) ≡ whole → after ≡ before ++ stream_sdu_falls plans i (get_or streams i d).hops → after ++ sdu_falls plans (i + 1) (drop (i + 1) streams) ≡ whole
falls_next plans streams i d before after whole less was is =
    let cut : drop i streams ≡ get_or streams i d ∷ drop (suc i) streams = drop-cons streams i d less in
    let one : i + 1 ≡ suc i = omega arith in
    rw (is, one, append_assoc) (rw cut at was)

-- The warnings of the stream with index `i` precede the warnings of later streams.
pub streams_next : (one : ℕ → Stream → List ℕ) (all : ℕ → List Stream → List ℕ) (streams : List Stream) (i : ℕ) (d : Stream) (before after whole : List ℕ)
    → ((i : ℕ) (s : Stream) (ss : List Stream) → all i (s ∷ ss) ≡ one i s ++ all (suc i) ss)
    → i < length streams → before ++ all i (drop i streams) ≡ whole → after ≡ before ++ one i (get_or streams i d) → after ++ all (i + 1) (drop (i + 1) streams) ≡ whole
streams_next one all streams i d before after whole step less was is =
    let cut : drop i streams ≡ get_or streams i d ∷ drop (suc i) streams = drop-cons streams i d less in
    let next : i + 1 ≡ suc i = omega arith in
    let split : before ++ (one i (get_or streams i d) ++ all (suc i) (drop (suc i) streams)) ≡ whole = ap (λ (l : List ℕ). before ++ l) (sym (step i (get_or streams i d) (drop (suc i) streams))) ∙ (ap (λ (ss : List Stream). before ++ all i ss) (sym cut) ∙ was) in
    rw (is, next, append_assoc) split
