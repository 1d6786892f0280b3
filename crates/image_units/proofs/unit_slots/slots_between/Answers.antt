use Rattle.std.proofs.Common.{ℕ, rules}
use Rattle.image_units.proofs.Between.{places_rise, part_kept}
use Rattle.image_units.proofs.unit_slots.slots_between.Goals as goal

pub slice_bounds-result-count : goal.slice_bounds-result-count
slice_bounds-result-count c = places_rise (λ (slot : ℕ). slot) c.args.slots.now c.args.first c.args.end _ _ c.requires.ends
    c.slots_below-start.ensures c.slots_below-stop.ensures

pub slice_bounds-result-start : goal.slice_bounds-result-start
slice_bounds-result-start c =
    let rise = places_rise (λ (slot : ℕ). slot) c.args.slots.now c.args.first c.args.end _ _ c.requires.ends
    c.slots_below-start.ensures c.slots_below-stop.ensures in
    search (rules, rise)

pub returns : goal.returns
returns c = part_kept (λ (slot : ℕ). slot) c.args.slots.now c.args.first c.args.end _ _ c.requires.ends
    c.slots_below-start.ensures c.slots_below-stop.ensures
