use Rattle.std.proofs.Common.{ltb, rules}
use Rattle.std.proofs.lemmas.List.Sorted.{IsPartitionPoint-from_clause, IsPartitionedBy-ltb}
use Rattle.mont_base.specs.declared.record.Held.{Held}
use Rattle.image_units.specs.UnitSlots.{slot_of}
use Rattle.image_units.proofs.Between.{not_falling}
use Rattle.image_units.proofs.unit_slots.records_below.Goals as goal

pub returns : goal.returns
returns c =
    let xs = c.args.records.now in
    record {
      inside = c.partition_point.ensures.bound;
      parts = IsPartitionPoint-from_clause (λ (r : Held). ltb r.slot c.args.end) xs c.partition_point.result
          c.partition_point.ensures.partitioned
          (IsPartitionedBy-ltb slot_of xs c.args.end (not_falling slot_of xs c.requires)) (λ a r q k. search rules);
    }
