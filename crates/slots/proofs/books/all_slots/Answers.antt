use Rattle.std.proofs.Common.{arith, refl}
use Rattle.slots.proofs.Seen.{items_long, range_more}
use Rattle.slots.proofs.books.all_slots.Goals as goal

pub push_reserved-requires : goal.push_reserved-requires
push_reserved-requires c =
    let inv = c.loop-place.invariant in
    omega (arith, c.loop-place.all.ok.0, items_long _ _ _ inv.0)

pub loop-place-preserved : goal.loop-place-preserved
loop-place-preserved c =
    (range_more _ _ _ _ _ c.loop-place.invariant.0 c.push_reserved.ensures.items refl, omega arith)
