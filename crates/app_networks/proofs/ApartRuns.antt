-- Filters that are apart in time, in complete runs of a bridge over captures.
use Rattle.std.proofs.Common.{◌≡◌, ℕ, Option, Some, List}
use Rattle.std.specs.Prelude.{nat_eq}
use Rattle.std.specs.Map.{lookup}
use Rattle.bridge_filter.specs.declared.FilterPlan.{FilterPlan}
use Rattle.bridge_config.specs.declared.command.Command.{Command}
use Rattle.bridge_config.specs.Model.{Plan}
use Rattle.bridge_config.specs.Rules.{IsPlan}
use Rattle.bridge_check.specs.Acceptable.{HasAcceptableGroups}
use Rattle.bridge_semantics.specs.Events.{own_events}
use Rattle.bridge_semantics.specs.Merge.{input_events}
use Rattle.bridge_semantics.specs.Runs.{AreSameViews, IsSoloView}
use Rattle.bridge_semantics.specs.declared.outcome.Outcome.{Outcome}
use Rattle.bridge_semantics.specs.declared.outcome.View.{View}
use Rattle.bridge_groups.specs.ApartMembers.{IsApartMember}
use Rattle.bridge_groups.specs.Curves.{AreArrivalsInOrder}
use Rattle.bridge_groups.specs.GateBounds.{HaveSdus}
use Rattle.bridge_groups.proofs.ApartMembers as apart_of
use Rattle.bridge_groups.proofs.Limits.{captured_sdus}
use Rattle.bridge_groups.proofs.MergedOrder.{merged_arrivals_are_in_order}
use Rattle.bridge_core.specs.WholeRuns.{IsWholeRun}
use Rattle.app_networks.proofs.Lengths.{are_within}

module _ {A W : Type 0} (p : Plan A) (ports : List ℕ) (contents : W → Option (List ℕ)) (group n : ℕ) (f : FilterPlan) (plan : IsPlan p) (good : HasAcceptableGroups p) (apart : IsApartMember p group n f) where
  module _ (commands : List Command) (texts : ℕ → List ℕ) (olds news : List W) (o : Outcome A) (ran : IsWholeRun p ports commands texts contents olds news o) where
    in_order : AreArrivalsInOrder (input_events ran.inputs)
    in_order = merged_arrivals_are_in_order commands ran.frames ran.inputs ran.merged

    long_enough : HaveSdus 2 (input_events ran.inputs)
    long_enough = captured_sdus (input_events ran.inputs) (are_within p commands texts ran.frames ran.inputs ran.reads ran.others ran.merged)

    -- Only its own events give the filter its record.
    pub read_alone : (v : View A) → lookup (nat_eq n) o.filters.items ≡ Some v → IsSoloView p n f (own_events p n f (input_events ran.inputs)) v
    read_alone v found = apart_of.member_alone p group n f (input_events ran.inputs) ran.ends.lists o v plan good apart in_order long_enough ran.ends.outcome found

  -- Runs with equal own events give the filter equal records.
  pub read_equally : (commands others : List Command) (texts more : ℕ → List ℕ) (olds news starts ends : List W) (o q : Outcome A) (a : IsWholeRun p ports commands texts contents olds news o) (b : IsWholeRun p ports others more contents starts ends q) (u v : View A) → own_events p n f (input_events a.inputs) ≡ own_events p n f (input_events b.inputs) → lookup (nat_eq n) o.filters.items ≡ Some u → lookup (nat_eq n) q.filters.items ≡ Some v → AreSameViews u v
  read_equally commands others texts more olds news starts ends o q a b u v same found there =
      apart_of.members_change_nothing p group n f (input_events a.inputs) (input_events b.inputs) a.ends.lists b.ends.lists o q u v plan good apart same
      (in_order commands texts olds news o a) (in_order others more starts ends q b) (long_enough commands texts olds news o a) (long_enough others more starts ends q b) a.ends.outcome b.ends.outcome found there
