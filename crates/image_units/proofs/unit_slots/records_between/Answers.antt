use Rattle.std.proofs.Common.{arith}
use Rattle.image_units.specs.UnitSlots.{slot_of}
use Rattle.image_units.proofs.Between.{places_rise, part_kept}
use Rattle.image_units.proofs.unit_slots.records_between.Goals as goal

pub slice_bounds-result-count : goal.slice_bounds-result-count
slice_bounds-result-count c = places_rise slot_of c.args.records.now c.args.first c.args.end _ _ c.requires.ends
    c.records_below-start.ensures c.records_below-stop.ensures

pub slice_bounds-result-start : goal.slice_bounds-result-start
slice_bounds-result-start c =
    let rise = places_rise slot_of c.args.records.now c.args.first c.args.end _ _ c.requires.ends
    c.records_below-start.ensures c.records_below-stop.ensures in
    omega arith

pub returns : goal.returns
returns c = part_kept slot_of c.args.records.now c.args.first c.args.end _ _ c.requires.ends
    c.records_below-start.ensures c.records_below-stop.ensures
