-- Queues and lines of streams, added one by one.
use Rattle.std.proofs.Common.{◌≡◌, ◌+◌, ◌<◌, ℕ, Bool, true, false, List, [], ◌∷◌, ◌++◌, Option, Vec, refl, ap, append_assoc, sym, ◌∙◌, map, All, get_or, inl, inr, length, take}
use Rattle.std.proofs.lemmas.List.{append-nil, map-append, take_more}
use Rattle.std.proofs.lemmas.List.Elements.{All-append, All-cons, All-nil, filter-append}
use Rattle.std.proofs.lemmas.List.Folds.{list_all-append}
use Rattle.std.proofs.lemmas.Grind.{flat_map-append}
use Rattle.std.proofs.Math.Bool.{and-true}
use Rattle.std.specs.Prelude.{filter, nat_eq, ◌&&◌}
use Rattle.std.specs.List.{list_all}
use Rattle.bridge_limits.specs.Members.{IsMember}
use Rattle.bridge_config.specs.Model.{Plan}
use Rattle.net_latency.specs.declared.latency.StreamLatency.{StreamLatency}
use Rattle.net_latency.specs.declared.tree.HopQueue.{HopQueue}
use Rattle.net_file.specs.declared.link_row.LinkRow.{LinkRow}
use Rattle.net_file.specs.Model.{Stream}
use Rattle.net_model.specs.declared.links.Link.{Link}
use Rattle.net_model.specs.declared.links.StreamHop.{StreamHop}
use Rattle.net_latency.specs.declared.bounds.QueueBound.{QueueBound}
use Rattle.net_latency.specs.Streams.{stream_hop_value, is_in_time, stream_line, stream_lines}
use Rattle.net_latency.specs.Talkers.{AreStreamLines, IsTalkerLatency, is_queue_of_hop, hop_queue, filter_queues}

one_filtered : {X : Type 0} (p : X → Bool) (x : X) → p x ≡ true → filter p (x ∷ []) ≡ x ∷ []
one_filtered p x is = rw is refl

none_filtered : {X : Type 0} (p : X → Bool) (x : X) → p x ≡ false → filter p (x ∷ []) ≡ []
none_filtered p x is = rw is refl

-- The queues of two lists of rows together.
pub among_join : (xs ys : List QueueBound) (h : StreamHop) → filter_queues (xs ++ ys) h ≡ filter_queues xs h ++ filter_queues ys h
among_join xs ys h = ap (map (hop_queue h)) (filter-append (is_queue_of_hop h) xs ys) ∙ map-append (hop_queue h) (filter (is_queue_of_hop h) xs) (filter (is_queue_of_hop h) ys)

-- A queue of the hop's filter.
pub one_more : (h : StreamHop) (r : QueueBound) (xs ys : List HopQueue) → nat_eq r.filter h.filter ≡ true → ys ≡ xs ++ hop_queue h r ∷ [] → ys ≡ xs ++ filter_queues (r ∷ []) h
one_more h r xs ys own is = is ∙ ap (λ (zs : List HopQueue). xs ++ zs) (sym (ap (map (hop_queue h)) (one_filtered (is_queue_of_hop h) r own)))

-- A queue of another filter.
pub none_more : (h : StreamHop) (r : QueueBound) (xs : List HopQueue) → nat_eq r.filter h.filter ≡ false → xs ≡ xs ++ filter_queues (r ∷ []) h
none_more h r xs other = sym (ap (λ (zs : List HopQueue). xs ++ zs) (ap (map (hop_queue h)) (none_filtered (is_queue_of_hop h) r other)) ∙ append-nil xs)

-- The queues of one row more.
pub next_among : (rows : List QueueBound) (h : StreamHop) (k : ℕ) (d : QueueBound) (first before after : List HopQueue) → k < length rows → before ≡ first ++ filter_queues (take k rows) h → after ≡ before ++ filter_queues (get_or rows k d ∷ []) h → after ≡ first ++ filter_queues (take (k + 1) rows) h
next_among rows h k d first before after less so_far grown =
    let row = get_or rows k d in
    let cut : filter_queues (take (k + 1) rows) h ≡ filter_queues (take k rows) h ++ filter_queues (row ∷ []) h =
    ap (λ (rs : List QueueBound). filter_queues rs h) (take_more rows k d less) ∙ among_join (take k rows) (row ∷ []) h in
    grown ∙ (ap (λ (zs : List HopQueue). zs ++ filter_queues (row ∷ []) h) so_far
    ∙ (append_assoc first (filter_queues (take k rows) h) (filter_queues (row ∷ []) h) ∙ ap (λ (zs : List HopQueue). first ++ zs) (sym cut)))

-- If each member has a property, all members have it.
pub all_members : {X : Type 0} (P : X → Type 0) (xs : List X) → ((x : X) → IsMember x xs → P x) → All P xs
all_members P [] each = All-nil P
all_members P (x ∷ xs) each = All-cons P x xs (each x (inl refl)) (all_members P xs (λ y is. each y (inr is)))

-- The line of one stream more.
pub lines_more : {A : Type 0} (plans : List (Plan A)) (links : List Link) (bounds : List (Vec QueueBound A)) (rows : List LinkRow) (streams : List Stream) (lines : List ℕ) (kept : Bool) (s : Stream) (x : Option StreamLatency)
    → AreStreamLines plans links bounds rows streams lines kept → IsTalkerLatency plans links bounds s.talker (map stream_hop_value s.hops) x
    → AreStreamLines plans links bounds rows (streams ++ s ∷ []) (lines ++ stream_line bounds rows (s, x)) (kept && is_in_time bounds rows (s, x))
lines_more {A} plans links bounds rows streams lines kept s x before is =
    let Of : Stream × Option StreamLatency → Type 0 = λ r. IsTalkerLatency plans links bounds r.0.talker (map stream_hop_value r.0.hops) r.1 in
    record {
      figures = before.figures ++ (s, x) ∷ [];
      are_courses = record {
        are_streams = map-append (λ (r : Stream × Option StreamLatency). r.0) before.figures ((s, x) ∷ []) ∙ ap (λ (zs : List Stream). zs ++ s ∷ []) before.are_courses.are_streams;
        courses = All-append Of before.figures ((s, x) ∷ []) before.are_courses.courses (All-cons Of (s, x) [] is (All-nil Of));
      };
      lines_are = ap (λ (zs : List ℕ). zs ++ stream_line bounds rows (s, x)) before.lines_are
          ∙ (ap (λ (zs : List ℕ). stream_lines bounds rows before.figures ++ zs) (sym (append-nil (stream_line bounds rows (s, x))))
          ∙ sym (flat_map-append (stream_line bounds rows) before.figures ((s, x) ∷ [])));
      kept_is = ap (λ (b : Bool). b && is_in_time bounds rows (s, x)) before.kept_is
          ∙ (ap (λ (b : Bool). list_all (is_in_time bounds rows) before.figures && b) (sym (and-true (is_in_time bounds rows (s, x))))
          ∙ sym (list_all-append (is_in_time bounds rows) before.figures ((s, x) ∷ [])));
    }

-- No streams have no lines.
pub no_lines : {A : Type 0} (plans : List (Plan A)) (links : List Link) (bounds : List (Vec QueueBound A)) (rows : List LinkRow) → AreStreamLines plans links bounds rows [] [] true
no_lines plans links bounds rows = record {
  figures = [];
  are_courses = record { are_streams = refl; courses = All-nil _ };
  lines_are = refl;
  kept_is = refl;
}

-- The lines of the streams up to index `k`, and of the stream there.
pub next_line : {A : Type 0} (plans : List (Plan A)) (links : List Link) (bounds : List (Vec QueueBound A)) (rows : List LinkRow) (streams : List Stream) (k : ℕ) (d s : Stream) (lines new : List ℕ) (kept here after : Bool) (x : Option StreamLatency)
    → k < length streams → s ≡ get_or streams k d → AreStreamLines plans links bounds rows (take k streams) lines kept → IsTalkerLatency plans links bounds s.talker (map stream_hop_value s.hops) x
    → new ≡ lines ++ stream_line bounds rows (s, x) → here ≡ is_in_time bounds rows (s, x) → after ≡ (kept && here)
    → AreStreamLines plans links bounds rows (take (k + 1) streams) new after
next_line plans links bounds rows streams k d s lines new kept here after x before at so_far is grown told both =
    let cut : take (k + 1) streams ≡ take k streams ++ s ∷ [] = take_more streams k d before ∙ ap (λ (z : Stream). take k streams ++ z ∷ []) (sym at) in
    let whole : after ≡ (kept && is_in_time bounds rows (s, x)) = both ∙ ap (λ (b : Bool). kept && b) told in
    rw (cut, grown, whole) (lines_more plans links bounds rows (take k streams) lines kept s x so_far is)
