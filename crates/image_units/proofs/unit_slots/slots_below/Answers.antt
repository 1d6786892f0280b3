use Rattle.std.proofs.Common.{ℕ, ltb, rules}
use Rattle.std.proofs.lemmas.List.Sorted.{IsPartitionPoint-from_clause, IsPartitionedBy-ltb}
use Rattle.image_units.proofs.Between.{not_falling}
use Rattle.image_units.proofs.unit_slots.slots_below.Goals as goal

pub returns : goal.returns
returns c =
    let xs = c.args.slots.now in
    let key : ℕ → ℕ = λ slot. slot in
    record {
      inside = c.partition_point.ensures.bound;
      parts = IsPartitionPoint-from_clause (λ (slot : ℕ). ltb slot c.args.end) xs c.partition_point.result
          c.partition_point.ensures.partitioned
          (IsPartitionedBy-ltb key xs c.args.end (not_falling key xs c.requires)) (λ a r q k. search rules);
    }
