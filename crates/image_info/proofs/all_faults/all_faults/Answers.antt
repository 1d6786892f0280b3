use Rattle.std.proofs.Common.{ℕ, ◌++◌, List, ap, ◌∙◌, zero-add}
use Rattle.std.specs.List.{flat_map, range_with_len}
use Rattle.std.proofs.lemmas.List.{flat_map_more}
use Rattle.old_image.proofs.FlatSlots.{range_next}
use Rattle.image_units.specs.Found.{all_records}
use Rattle.image_info.specs.AllFaults.{repeats, slot_faults, unit_faults}
use Rattle.image_info.proofs.all_faults.all_faults.Goals as goal

pub loop-unit-preserved : goal.loop-unit-preserved
loop-unit-preserved c =
    let s = c.args.image.now.layout in
    let wide = c.args.wide.now in
    let unit = c.loop-unit.unit in
    let own = unit_faults c.args.image.now.old s wide in
    let front = slot_faults s wide ++ repeats (all_records s wide) in
    c.in_ok-push_object_faults.ensures
    ∙ (λ i. c.loop-unit.invariant i ++ own unit)
    ∙ flat_map_more own front (range_with_len 0 unit) unit
    ∙ ap (λ (units : List ℕ). front ++ flat_map own units) (range_next 0 unit unit (zero-add unit))
