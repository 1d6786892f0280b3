use Rattle.std.proofs.Common.{ℕ, subst}
use Rattle.shard_map.specs.MovedNumbers.{of_high, of_low}
use Rattle.store.specs.declared.unit_structure.Structure.{Structure}
use Rattle.store.specs.declared.unit_structure.Structure.TheVariants.{Map}
use Rattle.store.specs.Shifting.{AreOfTwoUnits}
use Rattle.store.specs.UnitAt.{StandsAt, region_of}
use Rattle.structure_call.specs.CountedNumbers.{HasCounted}
use Rattle.store.proofs.ShiftStands.{both_count, is_map, is_unit_at, map_stands, only_map, shift_tried}
use Rattle.store.proofs.shifting.shift_between.Goals as goal
use Rattle.store.proofs.shifting.shift_between.Given.{Over}
use Rattle.store.proofs.shifting.shift_between.Goals.{After-shift}

pub unreachable-requires : goal.unreachable-requires
unreachable-requires g c =
    let by = c.args.by.now in
    only_map c.args.low.now
    (is_map c.args.heap.now (region_of c.args.low.now).books.unit c.args.low.now (of_low by.up (by.from, by.to)) c.requires.units.lower
    c.requires.low)
    c.in_default.not-Map

pub unreachable-requires-in_default-high : goal.unreachable-requires-in_default-high
unreachable-requires-in_default-high g c =
    let by = c.args.by.now in
    only_map c.args.high.now
    (is_map c.args.heap.now (region_of c.args.high.now).books.unit c.args.high.now (of_high by.up (by.from, by.to))
    c.requires.units.higher c.requires.high)
    c.in_default-high.not-Map

-- ---- the two maps
low_stands : (g : Over) (c : After-shift g) → StandsAt {I = g.row.I.Denot} c.args.heap.now (region_of c.args.low.now).books.unit
    (Map c.in-Map.low)
low_stands g c = subst (StandsAt c.args.heap.now (region_of c.args.low.now).books.unit) c.in-Map.is c.requires.low

high_stands : (g : Over) (c : After-shift g) → StandsAt {I = g.row.I.Denot} c.args.heap.now (region_of c.args.high.now).books.unit
    (Map c.in-Map-high.high)
high_stands g c = subst (StandsAt c.args.heap.now (region_of c.args.high.now).books.unit) c.in-Map-high.is c.requires.high

both : (g : Over) (c : After-shift g)
    → HasCounted c.args.heap.now c.shift.new.low.region × HasCounted c.args.heap.now c.shift.new.high.region
both g c =
    let by = c.args.by.now in
    both_count c.args.heap.now by.up c.in-Map.low.region c.shift.new.low.region c.in-Map-high.high.region c.shift.new.high.region
    c.args.pass.now.ticket c.shift.new.pass.ticket by.from by.to by.amount (low_stands g c).counted (high_stands g c).counted
    c.shift.result c.shift.ensures.shifted c.shift.ensures.refused c.shift.ensures.checked

pub returns-clause-low : goal.returns-clause-low
returns-clause-low g c =
    let a = (goal.at.returns-clause-low g c).After-shift in
    map_stands c.args.heap.now (region_of c.args.low.now).books.unit c.in-Map.low c.shift.new.low (low_stands g a) c.shift.ensures.low
    (both g a).0

pub returns-clause-high : goal.returns-clause-high
returns-clause-high g c =
    let a = (goal.at.returns-clause-high g c).After-shift in
    map_stands c.args.heap.now (region_of c.args.high.now).books.unit c.in-Map-high.high c.shift.new.high (high_stands g a)
    c.shift.ensures.high (both g a).1

pub returns-clause-tried : goal.returns-clause-tried
returns-clause-tried g c =
    let by = c.args.by.now in
    let e = c.shift.ensures in
    let heap = c.args.heap.now in
    λ base recovered.
    shift_tried heap base recovered g.G.Gate.cuts g.G.Gate.endless c.args.pass.now c.shift.new.pass by.from by.to by.amount by.up
    c.in-Map.low.region
    c.shift.new.low.region c.in-Map-high.high.region c.shift.new.high.region c.shift.result
    (subst (λ (u : ℕ × ℕ). AreOfTwoUnits heap.opening.layout by.from by.to by.up u.0 u.1)
    (λ i. ((region_of (c.in-Map.is i)).books.unit, (region_of (c.in-Map-high.is i)).books.unit)) c.requires.units)
    (is_unit_at heap c.in-Map.low
    (subst (λ (s : Structure g.row.I.Denot). StandsAt heap (region_of s).books.unit s) c.in-Map.is c.requires.low))
    (is_unit_at heap c.in-Map-high.high
    (subst (λ (s : Structure g.row.I.Denot). StandsAt heap (region_of s).books.unit s) c.in-Map-high.is c.requires.high))
    e.shifted e.refused e.checked e.receipts e.kept e.gate
