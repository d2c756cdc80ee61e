use Rattle.std.proofs.Common.{leb, ltb, rules}
use Rattle.std.proofs.lemmas.List.Sorted.{IsPartitionPoint-from_clause, IsPartitionedBy-leb, IsPartitionedBy-ltb}
use Rattle.bridge_port.specs.declared.item.Refusal.TheVariants.{Full}
use Rattle.bridge_semantics.specs.declared.outcome.Dropped.{Dropped}
use Rattle.show_tables.proofs.Kept.{in_order, run_of}
use Rattle.show_tables.proofs.copies.frame_drops.Goals as goal

pub slice_bounds-result-count : goal.slice_bounds-result-count
slice_bounds-result-count c =
    let begins = IsPartitionPoint-from_clause (λ (d : Dropped). ltb d.own c.args.own) _ _ c.partition_point-first.ensures.partitioned (IsPartitionedBy-ltb (λ (d : Dropped). d.own) _ c.args.own c.requires) (λ a r q k. search rules) in
    let ends = IsPartitionPoint-from_clause (λ (d : Dropped). leb d.own c.args.own) _ _ c.partition_point-end.ensures.partitioned (IsPartitionedBy-leb (λ (d : Dropped). d.own) _ c.args.own c.requires) (λ a r q k. search rules) in
    let ordered = in_order (λ (d : Dropped). d.own) c.args.own c.partition_point-first.result c.partition_point-end.result c.args.sorted.now (record { own = 0; port = 0; refusal = Full }) c.partition_point-first.ensures.bound begins ends in
    ordered

pub slice_bounds-result-start : goal.slice_bounds-result-start
slice_bounds-result-start c =
    let begins = IsPartitionPoint-from_clause (λ (d : Dropped). ltb d.own c.args.own) _ _ c.partition_point-first.ensures.partitioned (IsPartitionedBy-ltb (λ (d : Dropped). d.own) _ c.args.own c.requires) (λ a r q k. search rules) in
    let ends = IsPartitionPoint-from_clause (λ (d : Dropped). leb d.own c.args.own) _ _ c.partition_point-end.ensures.partitioned (IsPartitionedBy-leb (λ (d : Dropped). d.own) _ c.args.own c.requires) (λ a r q k. search rules) in
    let ordered = in_order (λ (d : Dropped). d.own) c.args.own c.partition_point-first.result c.partition_point-end.result c.args.sorted.now (record { own = 0; port = 0; refusal = Full }) c.partition_point-first.ensures.bound begins ends in
    ordered

pub returns : goal.returns
returns c =
    let begins = IsPartitionPoint-from_clause (λ (d : Dropped). ltb d.own c.args.own) _ _ c.partition_point-first.ensures.partitioned (IsPartitionedBy-ltb (λ (d : Dropped). d.own) _ c.args.own c.requires) (λ a r q k. search rules) in
    let ends = IsPartitionPoint-from_clause (λ (d : Dropped). leb d.own c.args.own) _ _ c.partition_point-end.ensures.partitioned (IsPartitionedBy-leb (λ (d : Dropped). d.own) _ c.args.own c.requires) (λ a r q k. search rules) in
    let ordered = in_order (λ (d : Dropped). d.own) c.args.own c.partition_point-first.result c.partition_point-end.result c.args.sorted.now (record { own = 0; port = 0; refusal = Full }) c.partition_point-first.ensures.bound begins ends in
    run_of (λ (d : Dropped). d.own) c.args.own c.partition_point-first.result c.partition_point-end.result c.args.sorted.now ordered c.partition_point-end.ensures.bound begins ends
